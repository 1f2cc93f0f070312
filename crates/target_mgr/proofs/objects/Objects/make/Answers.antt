use Rattle.std.proofs.Common.{ap, ◌∙◌, is_some}
use Rattle.std.proofs.lemmas.Bool.{OnTrue_at}
use Rattle.target_mgr.proofs.Numbers.{numbered-made}
use Rattle.target_mgr.proofs.objects.Objects.make.Goals as goal

pub invariant_of-self-2 : goal.invariant_of-self-2
invariant_of-self-2 g c = record {
  numbered = numbered-made c.args.self.now.names c.args.self.now.objects c.args.self.now.numbered c.replace.new.self c.insert.new.self c.args.id _ c.args.opening (c.args.self.now.numbered.named c.args.id _ c.requires)
      (OnTrue_at (c.replace.ensures.found ∙ ap is_some c.requires) c.replace.ensures.replaced) c.in-Ok.ensures.ok;
}
