-- That what is bound has the image.
use Rattle.strict_driver.proofs.Bound.{bound_put}
use Rattle.strict_driver.proofs.targets.Renderbuffers.put_image.Goals as goal
use Rattle.strict_driver.proofs.targets.Renderbuffers.put_image.Goals.{in-Some, in_default}

pub invariant_of-self : goal.invariant_of-self
invariant_of-self c = elim c.match-object_mut.branch [
  | in-Some w ↦ rw w.self-inside-is (bound_put c.self.inside.names.objects c.self.inside.bound _)
  | in_default w ↦ rw w.self-inside-is c.self.invariant
]
