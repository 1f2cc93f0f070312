use Rattle.std.proofs.Common.{ap, sym, refl, subst, ◌∙◌}
use Rattle.std.specs.Option.{option_copied_mut}
use Rattle.gl_plain.specs.subjects.Levels.{is_cube_face, with_level}
use Rattle.gl_plain.specs.subjects.Textures.{IsOfKind, bound_number, place_bound}
use Rattle.gl_plain.specs.subjects.Images.{tex_image_by}
use Rattle.texture_mgr.specs.Tables.{tables}
use Rattle.texture_mgr.proofs.TablesBeside.{applied, bound_there, bound_missing, suits_kind}
use Rattle.texture_mgr.proofs.CoversBeside.{written_there}
use Rattle.texture_mgr.proofs.textures.Textures.set_image.Goals as goal

pub unreachable-requires : goal.unreachable-requires
unreachable-requires c =
    subst (IsOfKind (is_cube_face c.args.face))
    (bound_missing c.args.self.now.objects c.args.self.now.units c.bound-number.result c.is_cube_face-cube.result (is_cube_face c.args.face) (c.bound-number.ensures ∙ ap (bound_number c.args.self.now.units) c.is_cube_face-cube.ensures)
    c.is_cube_face-cube.ensures (sym c.get_mut.ensures.value ∙ ap option_copied_mut c.in_default.is))
    c.requires.bound

pub set_level-requires-clause-face : goal.set_level-requires-clause-face
set_level-requires-clause-face c =
    suits_kind c.args.face _
    (subst (IsOfKind (is_cube_face c.args.face))
    (bound_there c.args.self.now.objects c.args.self.now.units c.bound-number.result c.is_cube_face-cube.result (is_cube_face c.args.face) (c.bound-number.ensures ∙ ap (bound_number c.args.self.now.units) c.is_cube_face-cube.ensures)
    c.is_cube_face-cube.ensures c.in-Some.texture.now (sym c.get_mut.ensures.value ∙ ap option_copied_mut c.in-Some.is))
    c.requires.bound)
    c.requires.face

pub returns-clause-tables : goal.returns-clause-tables
returns-clause-tables c = λ i. record (tables c.args.self.now) {
  objects = applied c.args.self.now.objects c.args.self.now.units c.bound-number.result c.is_cube_face-cube.result (is_cube_face c.args.face)
      (c.bound-number.ensures ∙ ap (bound_number c.args.self.now.units) c.is_cube_face-cube.ensures) c.is_cube_face-cube.ensures c.in-Some.texture.now (sym c.get_mut.ensures.value ∙ ap option_copied_mut c.in-Some.is) c.set_level.new.self
      (with_level c.in-Some.texture.now.table c.args.face c.args.level c.args.view) c.set_level.ensures.table (tex_image_by (tables c.args.self.now).objects c.args.face c.args.level c.args.view) refl i;
}

pub returns-clause-covers : goal.returns-clause-covers
returns-clause-covers c =
    written_there c.args.self.now.objects c.bound-number.result c.is_cube_face-cube.result (place_bound (tables c.args.self.now).objects c.args.face c.args.level)
    (c.bound-number.ensures ∙ ap (bound_number c.args.self.now.units) c.is_cube_face-cube.ensures) c.is_cube_face-cube.ensures c.in-Some.texture.now (sym c.get_mut.ensures.value ∙ ap option_copied_mut c.in-Some.is) c.set_level.new.self _
    c.set_level.ensures.covers
