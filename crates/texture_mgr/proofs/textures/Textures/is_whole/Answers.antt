use Rattle.std.proofs.Common.{◌∙◌, Option, refl, sym, ap, subst}
use Rattle.std.specs.Bool.{OnTrue}
use Rattle.gl_base.specs.declared.rect.Rect.{Rect}
use Rattle.gl_plain.specs.declared.textures.LevelView.{LevelView}
use Rattle.texture_mgr.specs.Covered.{IsWhole, has_all, cover_of}
use Rattle.texture_mgr.specs.Tables.{tables, covers}
use Rattle.gl_plain.specs.subjects.Textures.{level_at}
use Rattle.texture_mgr.proofs.CoversBeside.{level_there, level_missing, cover_there}
use Rattle.texture_mgr.proofs.textures.Textures.is_whole.Goals as goal

pub returns-in-Some : goal.returns-in-Some
returns-in-Some c =
    let level = level_there c.args.self.now.objects c.args.place.texture c.is_cube_face.result c.args.place refl c.is_cube_face.ensures c.in-Some.texture.now (sym c.in-Some.ensures) c.args.self.now.units in
    let cover = cover_there c.args.self.now.objects c.args.place.texture c.is_cube_face.result c.args.place refl c.is_cube_face.ensures c.in-Some.texture.now (sym c.in-Some.ensures) in
    record {
      told = c.is_whole.ensures.told ∙ (λ i. has_all (sym level i) (sym cover i));
      whole = subst (λ (r : Rect). OnTrue c.is_whole.result (IsWhole (level_at (tables c.args.self.now).objects c.args.place) r)) (sym cover)
          (subst (λ (o : Option LevelView). OnTrue c.is_whole.result (IsWhole o (cover_of c.in-Some.texture.now c.args.place.face c.args.place.level))) (sym level) c.is_whole.ensures.whole);
    }

pub returns-in-None : goal.returns-in-None
returns-in-None c =
    let none = level_missing c.args.self.now.objects c.args.place.texture c.is_cube_face.result c.args.place refl c.is_cube_face.ensures c.args.self.now.units (sym c.in-None.ensures) in
    record {
      told = sym (ap (λ (o : Option LevelView). has_all o (covers c.args.self.now c.args.place)) none);
      whole = subst (λ (o : Option LevelView). IsWhole o (covers c.args.self.now c.args.place)) (sym none) tt;
    }
