use Rattle.target_mgr.proofs.Numbers.{numbered-added}
use Rattle.target_mgr.proofs.objects.Objects.add_name.Goals as goal

pub invariant_of-self : goal.invariant_of-self
invariant_of-self g c = record { numbered = numbered-added c.args.self.now.names c.args.self.now.objects c.args.self.now.numbered c.add.result c.add.new.self c.args.id _ c.requires c.add.ensures.ok c.add.ensures.err }
