use Rattle.std.proofs.Common.{refl, sym, ap, ◌∙◌}
use Rattle.gl_plain.specs.subjects.Images.{rest_at}
use Rattle.texture_mgr.specs.Tables.{covers}
use Rattle.texture_mgr.proofs.CoversBeside.{level_there, level_missing, cover_there}
use Rattle.texture_mgr.proofs.textures.Textures.unwritten.Goals as goal

pub returns-in-Some : goal.returns-in-Some
returns-in-Some c =
    let level = level_there c.args.self.now.objects c.args.place.texture c.is_cube_face.result c.args.place refl c.is_cube_face.ensures c.in-Some.texture.now (sym c.in-Some.ensures) c.args.self.now.units in
    let cover = cover_there c.args.self.now.objects c.args.place.texture c.is_cube_face.result c.args.place refl c.is_cube_face.ensures c.in-Some.texture.now (sym c.in-Some.ensures) in
    c.unwritten.ensures.parts ∙ (λ i. rest_at (sym level i) (sym cover i))

pub returns-in-None : goal.returns-in-None
returns-in-None c =
    c.new.ensures
    ∙ sym (ap (λ v. rest_at v (covers c.args.self.now c.args.place)) (level_missing c.args.self.now.objects c.args.place.texture c.is_cube_face.result c.args.place refl c.is_cube_face.ensures c.args.self.now.units (sym c.in-None.ensures)))
