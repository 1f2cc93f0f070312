use Rattle.std.proofs.Common.{◌≡◌, ap, sym, refl, subst, ◌∙◌, Some, is_some}
use Rattle.std.specs.Option.{option_copied_mut}
use Rattle.std.proofs.lemmas.Bool.{OnFalse_from}
use Rattle.gl_base.specs.Rects.{union_of}
use Rattle.gl_plain.specs.subjects.Images.{with_cover, extended}
use Rattle.texture_mgr.specs.Covered.{IsInLevel}
use Rattle.texture_mgr.specs.Objects.{texture_in}
use Rattle.texture_mgr.specs.Tables.{tables, covers}
use Rattle.texture_mgr.proofs.TablesBeside.{unchanged}
use Rattle.texture_mgr.proofs.CoversBeside.{level_there, level_missing, cover_there, written_there, cover_again, not_extended}
use Rattle.texture_mgr.proofs.textures.Textures.extend.Goals as goal

pub unreachable-requires : goal.unreachable-requires
unreachable-requires c =
    subst (λ v. IsInLevel v c.args.rect)
    (level_missing c.args.self.now.objects c.args.place.texture c.is_cube_face-cube.result c.args.place refl c.is_cube_face-cube.ensures c.args.self.now.units (sym c.get_mut.ensures.value ∙ ap option_copied_mut c.in_default.is))
    c.requires

pub sub_level-requires : goal.sub_level-requires
sub_level-requires c =
    subst (λ v. IsInLevel v c.args.rect)
    (level_there c.args.self.now.objects c.args.place.texture c.is_cube_face-cube.result c.args.place refl c.is_cube_face-cube.ensures c.in-Some.texture.now
    (sym c.get_mut.ensures.value ∙ ap option_copied_mut c.in-Some.is) c.args.self.now.units)
    c.requires

pub returns-clause-tables : goal.returns-clause-tables
returns-clause-tables c = λ i. record (tables c.args.self.now) {
  objects = unchanged c.args.self.now.objects c.args.self.now.units c.args.place.texture c.is_cube_face-cube.result c.in-Some.texture.now c.sub_level.new.self (sym c.get_mut.ensures.value ∙ ap option_copied_mut c.in-Some.is)
      c.sub_level.ensures.table i;
}

pub returns-clause-covers : goal.returns-clause-covers
returns-clause-covers c =
    let there : texture_in c.args.self.now.objects c.args.place.texture c.is_cube_face-cube.result ≡ Some c.in-Some.texture.now = sym c.get_mut.ensures.value ∙ ap option_copied_mut c.in-Some.is in
    written_there c.args.self.now.objects c.args.place.texture c.is_cube_face-cube.result c.args.place refl c.is_cube_face-cube.ensures c.in-Some.texture.now there c.sub_level.new.self _ c.sub_level.ensures.covers
    ∙ ap (λ r. with_cover (covers c.args.self.now) c.args.place (extended r c.args.rect))
    (sym (cover_there c.args.self.now.objects c.args.place.texture c.is_cube_face-cube.result c.args.place refl c.is_cube_face-cube.ensures c.in-Some.texture.now there))

pub returns-clause-kept : goal.returns-clause-kept
returns-clause-kept c = OnFalse_from _ _ (λ refused.
    let cover = cover_there c.args.self.now.objects c.args.place.texture c.is_cube_face-cube.result c.args.place refl c.is_cube_face-cube.ensures c.in-Some.texture.now (sym c.get_mut.ensures.value ∙ ap option_copied_mut c.in-Some.is) in
    returns-clause-covers c
    ∙ ap (with_cover (covers c.args.self.now) c.args.place) (not_extended _ c.args.rect (ap (λ r. is_some (union_of r c.args.rect)) cover ∙ sym c.sub_level.ensures.added ∙ refused)) ∙ cover_again (covers c.args.self.now) c.args.place)
