use Rattle.std.proofs.Common.{ap, sym, ◌∙◌}
use Rattle.std.specs.Option.{option_copied_mut}
use Rattle.gl_plain.specs.subjects.Levels.{is_cube_target}
use Rattle.gl_plain.specs.subjects.Textures.{bound_number}
use Rattle.gl_plain.specs.subjects.Mipmaps.{generate_mipmap_by}
use Rattle.texture_mgr.specs.Tables.{tables}
use Rattle.texture_mgr.proofs.TablesBeside.{bound_missing}
use Rattle.texture_mgr.proofs.HalvesBeside.{tables_halved, covers_halved, covers_unhalved}
use Rattle.texture_mgr.proofs.textures.Textures.make_halves.Goals as goal

pub returns-in-Some-clause-tables : goal.returns-in-Some-clause-tables
returns-in-Some-clause-tables c = λ i. record (tables c.args.self.now) {
  objects = tables_halved c.args.self.now.objects c.args.self.now.units c.bound-number.result c.is_cube_target-cube.result c.in-Some.texture.now c.make_halves.new.self (sym c.get_mut.ensures.value ∙ ap option_copied_mut c.in-Some.is)
      c.args.self.now.of_targets (is_cube_target c.args.target) (c.bound-number.ensures ∙ ap (bound_number c.args.self.now.units) c.is_cube_target-cube.ensures) c.is_cube_target-cube.ensures c.make_halves.ensures.table i;
}

pub returns-in-Some-clause-covers : goal.returns-in-Some-clause-covers
returns-in-Some-clause-covers c =
    covers_halved c.args.self.now.objects c.args.self.now.units c.bound-number.result c.is_cube_target-cube.result c.in-Some.texture.now c.make_halves.new.self (sym c.get_mut.ensures.value ∙ ap option_copied_mut c.in-Some.is)
    c.args.self.now.of_targets (is_cube_target c.args.target) (c.bound-number.ensures ∙ ap (bound_number c.args.self.now.units) c.is_cube_target-cube.ensures) c.is_cube_target-cube.ensures c.make_halves.ensures.table c.make_halves.ensures.covers

pub returns-in_default-clause-tables : goal.returns-in_default-clause-tables
returns-in_default-clause-tables c = λ i. record (tables c.args.self.now) {
  objects = sym (ap (generate_mipmap_by (tables c.args.self.now).objects (is_cube_target c.args.target))
      (bound_missing c.args.self.now.objects c.args.self.now.units c.bound-number.result c.is_cube_target-cube.result (is_cube_target c.args.target) (c.bound-number.ensures ∙ ap (bound_number c.args.self.now.units) c.is_cube_target-cube.ensures) c.is_cube_target-cube.ensures
      (sym c.get_mut.ensures.value ∙ ap option_copied_mut c.in_default.is))) i;
}

pub returns-in_default-clause-covers : goal.returns-in_default-clause-covers
returns-in_default-clause-covers c =
    covers_unhalved c.args.self.now.objects c.args.self.now.units c.bound-number.result c.is_cube_target-cube.result (is_cube_target c.args.target) (c.bound-number.ensures ∙ ap (bound_number c.args.self.now.units) c.is_cube_target-cube.ensures) c.is_cube_target-cube.ensures
    (sym c.get_mut.ensures.value ∙ ap option_copied_mut c.in_default.is)
