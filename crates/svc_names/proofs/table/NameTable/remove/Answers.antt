-- That the count stays right when a name is removed.
use Rattle.std.proofs.Common.{arith, true, false, sym}
use Rattle.gl_base.specs.Names.{is_ordinary}
use Rattle.gl_base.proofs.Counted.{counted-gone, one_counted}
use Rattle.svc_names.proofs.Words.{words-remove}
use Rattle.svc_names.proofs.table.NameTable.remove.Goals as goal

pub overflow_sub-self : goal.overflow_sub-self
overflow_sub-self g c = rw c.self.invariant.0 (one_counted _ c.args.id c.in_ok-removed.removed is_ordinary (sym c.in_ok-removed.ensures.value) (cc))

pub invariant_of-self-then-is_ordinary : goal.invariant_of-self-then-is_ordinary
invariant_of-self-then-is_ordinary g c =
    (counted-gone _ _ c.args.id c.in_ok-removed.removed is_ordinary true _ c.in_ok-removed.ensures.rest (sym c.in_ok-removed.ensures.value) (cc) c.self.invariant.0, omega arith, words-remove _ _ c.args.id c.in_ok-removed.ensures.rest c.self.invariant.2)

pub invariant_of-self-else-is_ordinary : goal.invariant_of-self-else-is_ordinary
invariant_of-self-else-is_ordinary g c =
    (omega (arith, counted-gone c.self.inside.entries c.remove.new.self c.args.id c.in_ok-removed.removed is_ordinary false c.self.inside.ordinary c.in_ok-removed.ensures.rest (sym c.in_ok-removed.ensures.value) (cc) c.self.invariant.0), c.self.invariant.1, words-remove _ _ c.args.id c.in_ok-removed.ensures.rest c.self.invariant.2)
