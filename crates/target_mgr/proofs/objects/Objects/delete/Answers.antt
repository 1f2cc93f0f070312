use Rattle.target_mgr.proofs.Numbers.{numbered-removed}
use Rattle.target_mgr.proofs.objects.Objects.delete.Goals as goal

pub invariant_of-self-2 : goal.invariant_of-self-2
invariant_of-self-2 g c = record {
  numbered = numbered-removed c.args.self.now.names c.args.self.now.objects c.args.self.now.numbered c.remove.new.self c.remove-2.new.self c.args.id c.in_ok-name.name.number c.in_ok-name.ensures.rest c.remove-2.ensures.rest;
}
