-- That no keys are beside no numbers.
use Rattle.std.proofs.Common.{ap, is_some}
use Rattle.std.specs.Ordering.{nat_cmp}
use Rattle.std.specs.FinMap.{get-empty}
use Rattle.gl_plain.proofs.distinct.DistinctNumbers.new.Goals as goal

pub invariant_of-result : goal.invariant_of-result
invariant_of-result c = rw c.new.ensures (rw c.new-2.ensures (λ n. ap is_some (get-empty nat_cmp n)))
