-- That no name was given.
use Rattle.std.proofs.Common.{refl}
use Rattle.strict_driver.proofs.Placing.{placed-empty, names-empty, objects-empty, given-empty}
use Rattle.strict_driver.proofs.name_space.NameSpace.new.Goals as goal

pub invariant_of-result : goal.invariant_of-result
invariant_of-result g c = rw c.new.ensures (placed-empty c.new-2.result)

pub returns : goal.returns
returns g c = rw (c.new.ensures, names-empty, objects-empty, given-empty) refl
