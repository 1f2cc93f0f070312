use Rattle.std.proofs.Common.{ap, ◌∙◌, is_some}
use Rattle.std.proofs.lemmas.Bool.{OnTrue_at}
use Rattle.texture_mgr.specs.Objects.{covers_of}
use Rattle.texture_mgr.proofs.Numbers.{numbered-insert}
use Rattle.texture_mgr.proofs.TablesBeside.{tables_made}
use Rattle.texture_mgr.proofs.CoversBeside.{covers_made}
use Rattle.texture_mgr.proofs.textures.Textures.make.Goals as goal

pub invariant_of-self-2 : goal.invariant_of-self-2
invariant_of-self-2 c = record {
  numbered = numbered-insert c.args.self.now.names c.replace.new.self c.args.id _ c.args.self.now.numbered (c.args.self.now.numbered c.args.id _ c.requires)
      (OnTrue_at (c.replace.ensures.found ∙ ap is_some c.requires) c.replace.ensures.replaced);
  of_targets = record { flat = c.args.self.now.of_targets.flat; cube = c.args.self.now.of_targets.cube };
  active = c.args.self.now.active;
}

pub returns-clause-ok : goal.returns-clause-ok
returns-clause-ok c =
    tables_made c.args.self.now.names c.args.self.now.objects c.args.self.now.units c.args.id c.args.number c.replace.new.self c.insert.new.self c.args.cube c.in_ok-texture.texture
    (OnTrue_at (c.replace.ensures.found ∙ ap is_some c.requires) c.replace.ensures.replaced) c.in-Ok.ensures.ok c.in_ok-texture.ensures.table

pub returns-clause-made : goal.returns-clause-made
returns-clause-made c =
    ap (λ m. covers_of (record c.args.self.now.objects { by_number = m })) c.in-Ok.ensures.ok
    ∙ covers_made c.args.self.now.objects c.args.number c.in_ok-texture.texture (c.args.self.now.numbered c.args.id _ c.requires) c.in_ok-texture.ensures.covers
