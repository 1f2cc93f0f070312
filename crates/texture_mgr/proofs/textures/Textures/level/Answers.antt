use Rattle.std.proofs.Common.{refl, sym, ◌∙◌}
use Rattle.texture_mgr.proofs.CoversBeside.{level_there, level_missing}
use Rattle.texture_mgr.proofs.textures.Textures.level.Goals as goal

pub returns-in-Some : goal.returns-in-Some
returns-in-Some c =
    c.level.ensures ∙ sym (level_there c.args.self.now.objects c.args.place.texture c.is_cube_face.result c.args.place refl c.is_cube_face.ensures c.in-Some.texture.now (sym c.in-Some.ensures) c.args.self.now.units)

pub returns-in-None : goal.returns-in-None
returns-in-None c = sym (level_missing c.args.self.now.objects c.args.place.texture c.is_cube_face.result c.args.place refl c.is_cube_face.ensures c.args.self.now.units (sym c.in-None.ensures))
