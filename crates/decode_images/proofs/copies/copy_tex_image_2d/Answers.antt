use Rattle.std.proofs.Common.{◌≡◌, ◌∙◌, refl, sym, ap, [], ◌∷◌, true, rules, of_z, to_z}
use Rattle.std.specs.Int.{w32}
use Rattle.gl_base.specs.Rects.{whole}
use Rattle.gl_plain.specs.Words.{natural}
use Rattle.gl_plain.specs.declared.driver_calls.Stored.{Stored}
use Rattle.gl_plain.specs.subjects.Copies.{copy_image, copy_place}
use Rattle.gl_plain.specs.subjects.Images.{tex_image_effect, view_of, with_cover}
use Rattle.gl_plain.specs.subjects.Textures.{place_bound}
use Rattle.gl_driver.proofs.Laws.{same_stop}
use Rattle.gl_driver.proofs.Exits.{passes_stop}
use Rattle.texture_mgr.specs.Kept.{first_written}
use Rattle.texture_mgr.specs.Tables.{tables, covers, with_objects}
use Rattle.decode_images.specs.States.{images_in}
use Rattle.decode_images.proofs.Stored.{copied_state, ends_copied}
use Rattle.decode_images.proofs.copies.copy_tex_image_2d.Goals as goal
use Rattle.decode_images.proofs.copies.copy_tex_image_2d.Goals.{in-Oom, in-Done}

pub returns-in_err-copy_tex_image : goal.returns-in_err-copy_tex_image
returns-in_err-copy_tex_image g c payload targets raster =
    passes_stop c.from_residual.result c.from_residual.ensures.1 c.in_err-copy_tex_image.ensures.served c.in_err-copy_tex_image.ensures.cause (λ s. refl) (λ s. refl)

pub returns : goal.returns
returns g c payload targets raster =
    let level : to_z w32 (of_z w32 c.args.copy.level) ≡ c.args.copy.level = search rules in
    let x : to_z w32 (of_z w32 c.args.copy.x) ≡ c.args.copy.x = search rules in
    let y : to_z w32 (of_z w32 c.args.copy.y) ≡ c.args.copy.y = search rules in
    let width : to_z w32 (of_z w32 c.args.copy.width) ≡ c.args.copy.width = search rules in
    let height : to_z w32 (of_z w32 c.args.copy.height) ≡ c.args.copy.height = search rules in
    let served = rw (level, x, y, width, height) at c.in_ok-copy_tex_image.ensures.served in
    let going = same_stop _ _ _ c.in_ok-copy_tex_image.ensures.cause in
    let t = tables c.args.textures.now in
    let f = covers c.args.textures.now in
    elim c.match-branch-2.branch [
      | in-Oom w ↦ ends_copied c.args.copy payload c.in_ok-copy_tex_image.field-0 served going
          (λ s. (λ i. images_in (w.textures-is i) targets raster (w.errors-is i) s) ∙ (λ i. images_in c.args.textures.now targets raster (w.note.ensures i) s)
          ∙ ap (λ (a : Stored). copied_state c.args.copy payload a (images_in c.args.textures.now targets raster c.args.errors.now s)) (sym w.in-Oom.is))
      | in-Done w ↦
          let level_is = w.natural.ensures ∙ ap natural level in
          let view_is = w.view_of.ensures ∙ ap view_of w.copy_image.ensures in
          let tables_are = w.set_image.ensures.tables ∙ (λ i. with_objects t (tex_image_effect t.objects c.args.copy.target (level_is i) (view_is i))) in
          let covers_are = w.set_image.ensures.covers ∙ (λ i. with_cover f (place_bound t.objects c.args.copy.target (level_is i)) (first_written true (view_is i))) in
          ends_copied c.args.copy payload c.in_ok-copy_tex_image.field-0 served going
          (λ s. (λ i. images_in (w.textures-is i) targets raster (w.errors-is i) s)
          ∙ (λ i. record (images_in c.args.textures.now targets raster c.args.errors.now s) { es = record (images_in c.args.textures.now targets raster c.args.errors.now s).es { textures = tables_are i }; covers = covers_are i })
          ∙ ap (λ (a : Stored). copied_state c.args.copy payload a (images_in c.args.textures.now targets raster c.args.errors.now s)) (sym w.in-Done.is))
    ]
