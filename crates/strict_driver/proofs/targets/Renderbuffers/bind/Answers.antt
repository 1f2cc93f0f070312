-- That the renderbuffer that is bound is there.
use Rattle.std.proofs.Common.{inr}
use Rattle.strict_driver.proofs.Bound.{bound_put, not_false}
use Rattle.strict_driver.proofs.targets.Renderbuffers.bind.Goals as goal
use Rattle.strict_driver.proofs.targets.Renderbuffers.bind.Goals.{then-not-found+in_ok-make, else-not-found}

pub invariant_of-self-2 : goal.invariant_of-self-2
invariant_of-self-2 c = elim c.if-not-found.branch [
  | then-not-found+in_ok-make w ↦ rw (w.self-inside-is, w.in_ok-make.ensures.ok) (bound_put _ c.args.name _)
  | else-not-found w ↦ rw w.self-inside-is (inr (c.in-Some.ensures.there (not_false c.in-Some.found.is_object w.if-not-found.false)))
]
