use Rattle.target_mgr.proofs.Numbers.{numbered-empty}
use Rattle.target_mgr.proofs.objects.Objects.new.Goals as goal

pub invariant_of-result : goal.invariant_of-result
invariant_of-result g c = record { numbered = numbered-empty c.new.result c.new-2.result c.new.ensures c.new-2.ensures }
