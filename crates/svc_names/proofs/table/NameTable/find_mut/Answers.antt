-- That the count stays right whatever is written through the borrow.
use Rattle.std.proofs.Common.{ap, refl, sym, ◌∙◌, is_some}
use Rattle.gl_base.specs.Names.{is_ordinary}
use Rattle.gl_base.proofs.Counted.{len_retain-replace}
use Rattle.svc_names.proofs.Words.{words-insert}
use Rattle.svc_names.proofs.table.NameTable.find_mut.Goals as goal

pub invariant_of-self-lent : goal.invariant_of-self-lent
invariant_of-self-lent g c = λ written. (c.self.invariant.0 ∙ sym (len_retain-replace _ c.args.id written is_ordinary (sym (ap is_some c.in-Some.ensures.value))), c.self.invariant.1, words-insert _ _ c.args.id written refl c.ranges.id.fits c.self.invariant.2)
