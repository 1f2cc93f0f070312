-- That the count stays right when a name is added.
use Rattle.std.proofs.Common.{arith, true, false}
use Rattle.std.proofs.lemmas.Bool.Decides.{nat_tests}
use Rattle.gl_base.specs.Names.{is_ordinary}
use Rattle.gl_base.proofs.Counted.{counted-new}
use Rattle.svc_names.proofs.Words.{words-insert}
use Rattle.svc_names.proofs.table.NameTable.add.Goals as goal

pub invariant_of-self-then-is_ordinary : goal.invariant_of-self-then-is_ordinary
invariant_of-self-then-is_ordinary g c = (counted-new _ _ c.args.id c.args.value is_ordinary true c.self.inside.ordinary c.in-Ok.ensures.ok (cc) (cc) c.self.invariant.0, grind (arith, nat_tests), words-insert _ _ c.args.id c.args.value c.in-Ok.ensures.ok c.ranges.id.fits c.self.invariant.2)

pub invariant_of-self-else-is_ordinary : goal.invariant_of-self-else-is_ordinary
invariant_of-self-else-is_ordinary g c =
    (omega (arith, counted-new c.self.inside.entries c.insert.new.self c.args.id c.args.value is_ordinary false c.self.inside.ordinary c.in-Ok.ensures.ok (cc) (cc) c.self.invariant.0), c.self.invariant.1, words-insert _ _ c.args.id c.args.value c.in-Ok.ensures.ok c.ranges.id.fits c.self.invariant.2)
