use Rattle.texture_mgr.proofs.Numbers.{numbered-added}
use Rattle.texture_mgr.proofs.textures.Textures.add_name.Goals as goal

pub invariant_of-self : goal.invariant_of-self
invariant_of-self c = record {
  numbered = numbered-added c.add.result c.args.self.now.names c.add.new.self c.args.id _ c.args.self.now.numbered c.requires c.add.ensures.ok c.add.ensures.err;
  of_targets = c.args.self.now.of_targets;
  active = c.args.self.now.active;
}
