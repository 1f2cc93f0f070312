use Rattle.std.proofs.Common.{ap, sym, ◌∙◌}
use Rattle.std.specs.Option.{option_map}
use Rattle.gl_plain.specs.subjects.Draws.{is_complete_texture}
use Rattle.texture_mgr.specs.Objects.{table_of}
use Rattle.texture_mgr.proofs.TablesBeside.{texture_found}
use Rattle.texture_mgr.proofs.textures.Textures.is_complete.Goals as goal

pub returns-in-Some : goal.returns-in-Some
returns-in-Some c =
    c.is_complete.ensures
    ∙ sym (ap is_complete_texture
    (texture_found c.args.self.now.objects c.args.self.now.units c.sampled_number.result _ c.samples_cube.result _ c.sampled_number.ensures c.samples_cube.ensures ∙ ap (option_map table_of) (sym c.in-Some.ensures)))

pub returns-in-None : goal.returns-in-None
returns-in-None c =
    sym (ap is_complete_texture
    (texture_found c.args.self.now.objects c.args.self.now.units c.sampled_number.result _ c.samples_cube.result _ c.sampled_number.ensures c.samples_cube.ensures ∙ ap (option_map table_of) (sym c.in-None.ensures)))
