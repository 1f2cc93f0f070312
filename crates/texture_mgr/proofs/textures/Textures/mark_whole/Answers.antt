use Rattle.std.proofs.Common.{ap, sym, refl, ◌∙◌}
use Rattle.std.specs.Option.{option_copied_mut}
use Rattle.gl_plain.specs.Covers.{filled_by}
use Rattle.texture_mgr.specs.Tables.{tables, covers}
use Rattle.texture_mgr.proofs.TablesBeside.{unchanged}
use Rattle.texture_mgr.proofs.CoversBeside.{level_missing, filled_there}
use Rattle.texture_mgr.proofs.textures.Textures.mark_whole.Goals as goal

pub returns-in-Some-clause-tables : goal.returns-in-Some-clause-tables
returns-in-Some-clause-tables c = λ i. record (tables c.args.self.now) {
  objects = unchanged c.args.self.now.objects c.args.self.now.units c.args.place.texture c.is_cube_face-cube.result c.in-Some.texture.now c.mark_whole.new.self (sym c.get_mut.ensures.value ∙ ap option_copied_mut c.in-Some.is)
      c.mark_whole.ensures.table i;
}

pub returns-in-Some-clause-covers : goal.returns-in-Some-clause-covers
returns-in-Some-clause-covers c =
    filled_there c.args.self.now.objects c.args.place.texture c.is_cube_face-cube.result c.args.place refl c.is_cube_face-cube.ensures c.in-Some.texture.now (sym c.get_mut.ensures.value ∙ ap option_copied_mut c.in-Some.is)
    c.args.self.now.units c.mark_whole.new.self c.mark_whole.ensures.covers

pub returns-in_default-clause-covers : goal.returns-in_default-clause-covers
returns-in_default-clause-covers c =
    sym (ap (filled_by (covers c.args.self.now) c.args.place)
    (level_missing c.args.self.now.objects c.args.place.texture c.is_cube_face-cube.result c.args.place refl c.is_cube_face-cube.ensures c.args.self.now.units (sym c.get_mut.ensures.value ∙ ap option_copied_mut c.in_default.is)))
