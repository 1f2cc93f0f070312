use Rattle.std.proofs.Common.{◌∙◌}
use Rattle.std.proofs.lemmas.Bool.{OnTrue_at}
use Rattle.target_mgr.proofs.Numbers.{numbered-replaced}
use Rattle.target_mgr.proofs.objects.Objects.replace.Goals as goal

pub invariant_of-self : goal.invariant_of-self
invariant_of-self g c = record {
  numbered = numbered-replaced c.args.self.now.names c.args.self.now.objects c.args.self.now.numbered c.replace.new.self c.args.number c.args.object c.requires
      (OnTrue_at (c.replace.ensures.found ∙ c.requires) c.replace.ensures.replaced);
}
