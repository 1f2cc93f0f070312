use Rattle.std.proofs.Common.{ap, sym, refl, ◌∙◌}
use Rattle.std.specs.Option.{option_copied_mut}
use Rattle.gl_plain.specs.subjects.Levels.{is_cube_target}
use Rattle.gl_plain.specs.subjects.Textures.{bound_number, with_parameter, tex_parameter_by, is_parameter}
use Rattle.texture_mgr.specs.Tables.{tables}
use Rattle.texture_mgr.proofs.TablesBeside.{applied, bound_missing, where_set}
use Rattle.texture_mgr.proofs.CoversBeside.{covers_same}
use Rattle.texture_mgr.proofs.textures.Textures.set_parameter.Goals as goal

pub returns-in-Some-clause-tables : goal.returns-in-Some-clause-tables
returns-in-Some-clause-tables c = λ i. record (tables c.args.self.now) {
  objects = applied c.args.self.now.objects c.args.self.now.units c.bound-number.result c.is_cube_target-cube.result (is_cube_target c.args.target) (c.bound-number.ensures ∙ ap (bound_number c.args.self.now.units) c.is_cube_target-cube.ensures)
      c.is_cube_target-cube.ensures c.in-Some.texture.now (sym c.get_mut.ensures.value ∙ ap option_copied_mut c.in-Some.is) c.set_param-taken.new.self (with_parameter c.in-Some.texture.now.table c.args.pname c.args.value)
      (where_set (is_parameter c.args.pname c.args.value) c.set_param-taken.result _ c.set_param-taken.ensures.answer c.requires c.set_param-taken.ensures.ok)
      (tex_parameter_by (tables c.args.self.now).objects (is_cube_target c.args.target) c.args.pname c.args.value) refl i;
}

pub returns-in-Some-clause-covers : goal.returns-in-Some-clause-covers
returns-in-Some-clause-covers c =
    covers_same c.args.self.now.objects c.bound-number.result c.is_cube_target-cube.result c.in-Some.texture.now c.set_param-taken.new.self (sym c.get_mut.ensures.value ∙ ap option_copied_mut c.in-Some.is) c.set_param-taken.ensures.covers

pub returns-in_default-clause-tables : goal.returns-in_default-clause-tables
returns-in_default-clause-tables c = λ i. record (tables c.args.self.now) {
  objects = sym (ap (tex_parameter_by (tables c.args.self.now).objects (is_cube_target c.args.target) c.args.pname c.args.value)
      (bound_missing c.args.self.now.objects c.args.self.now.units c.bound-number.result c.is_cube_target-cube.result (is_cube_target c.args.target) (c.bound-number.ensures ∙ ap (bound_number c.args.self.now.units) c.is_cube_target-cube.ensures) c.is_cube_target-cube.ensures
      (sym c.get_mut.ensures.value ∙ ap option_copied_mut c.in_default.is))) i;
}
