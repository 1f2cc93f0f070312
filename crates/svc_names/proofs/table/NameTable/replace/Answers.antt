-- That the count stays right when a value is written over another.
use Rattle.gl_base.specs.Names.{is_ordinary}
use Rattle.gl_base.proofs.Counted.{counted-replaced}
use Rattle.svc_names.proofs.Words.{words-replaced}
use Rattle.svc_names.proofs.table.NameTable.replace.Goals as goal

pub invariant_of-self : goal.invariant_of-self
invariant_of-self g c = (counted-replaced _ _ c.args.id c.args.value is_ordinary c.replace.result _ c.replace.ensures.found c.replace.ensures.replaced c.replace.ensures.absent c.self.invariant.0, c.self.invariant.1, words-replaced _ _ c.args.id c.args.value c.replace.result c.replace.ensures.replaced c.replace.ensures.absent c.ranges.id.fits c.self.invariant.2)
