use Rattle.std.proofs.Common.{ap, sym, ◌∙◌}
use Rattle.std.specs.Option.{option_map}
use Rattle.gl_base.specs.declared.gl_enum.GlEnum.{GlEnum}
use Rattle.gl_plain.specs.declared.textures.Texture.{Texture}
use Rattle.std.specs.Prelude.{Option}
use Rattle.gl_plain.specs.subjects.Parameters.{texture_parameter}
use Rattle.gl_plain.specs.subjects.Textures.{bound_number}
use Rattle.texture_mgr.specs.Objects.{table_of}
use Rattle.texture_mgr.proofs.TablesBeside.{texture_found}
use Rattle.texture_mgr.proofs.textures.Textures.parameter.Goals as goal

pub returns-in-Some : goal.returns-in-Some
returns-in-Some c =
    ap (λ (e : GlEnum). e.0) c.parameter.ensures
    ∙ sym (ap (λ (x : Option Texture). texture_parameter x c.args.pname)
    (texture_found c.args.self.now.objects c.args.self.now.units c.bound.result _ c.is_cube_target-cube.result _ (c.bound.ensures ∙ ap (bound_number c.args.self.now.units) c.is_cube_target-cube.ensures) c.is_cube_target-cube.ensures
    ∙ ap (option_map table_of) (sym c.in-Some.ensures)))

pub returns-in-None : goal.returns-in-None
returns-in-None c =
    sym (ap (λ (x : Option Texture). texture_parameter x c.args.pname)
    (texture_found c.args.self.now.objects c.args.self.now.units c.bound.result _ c.is_cube_target-cube.result _ (c.bound.ensures ∙ ap (bound_number c.args.self.now.units) c.is_cube_target-cube.ensures) c.is_cube_target-cube.ensures
    ∙ ap (option_map table_of) (sym c.in-None.ensures)))
