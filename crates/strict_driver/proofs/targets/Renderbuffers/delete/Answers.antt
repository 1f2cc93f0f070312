-- That what is bound is still there.
use Rattle.strict_driver.proofs.Bound.{bound_left}
use Rattle.strict_driver.proofs.targets.Renderbuffers.delete.Goals as goal

pub invariant_of-self : goal.invariant_of-self
invariant_of-self c = rw (c.remove.ensures.rest, c.unbound-self-inside.ensures) (bound_left c.self.inside.names.objects c.args.name c.self.inside.bound c.self.invariant)
