-- That no name was given.
use Rattle.counting_driver.proofs.Calls.{counted_opening}
use Rattle.counting_driver.proofs.driver.CountingDriver.new.Goals as goal

pub invariant_of-result : goal.invariant_of-result
invariant_of-result c = rw c.new.ensures (counted_opening c.args.surface)
