use Rattle.std.proofs.Common.{◌≡◌, ◌∙◌, refl, sym, ap, [], ◌∷◌, rules, of_z, to_z}
use Rattle.std.specs.Int.{w32}
use Rattle.gl_plain.specs.declared.calls.Payload.{Payload}
use Rattle.gl_plain.specs.declared.driver_calls.Stored.{Stored}
use Rattle.gl_plain.specs.subjects.Data.{payload_of}
use Rattle.gl_plain.specs.subjects.Images.{tex_image_effect, view_of, with_cover}
use Rattle.gl_plain.specs.subjects.Textures.{place_bound}
use Rattle.gl_driver.specs.Payloads.{payload_given}
use Rattle.gl_driver.proofs.Laws.{same_stop}
use Rattle.gl_driver.proofs.Exits.{passes_stop}
use Rattle.texture_mgr.specs.Kept.{first_written}
use Rattle.texture_mgr.specs.Tables.{tables, covers, with_objects}
use Rattle.decode_images.specs.States.{images_in}
use Rattle.decode_images.proofs.Stored.{covers_given, ends_stored, image_call, stored_state}
use Rattle.decode_images.proofs.images.tex_image_2d.Goals as goal
use Rattle.decode_images.proofs.images.tex_image_2d.Goals.{in-Oom, in-Done}

pub returns-in_err-tex_image : goal.returns-in_err-tex_image
returns-in_err-tex_image g c words payload targets raster is =
    passes_stop c.from_residual.result c.from_residual.ensures.1 c.in_err-tex_image.ensures.served c.in_err-tex_image.ensures.cause (λ s. refl) (λ s. ap (λ (p : Payload). image_call c.args.image words payload p ∷ []) is)

pub returns : goal.returns
returns g c words payload targets raster is =
    let level : to_z w32 (of_z w32 c.args.image.level) ≡ c.args.image.level = search rules in
    let width : to_z w32 (of_z w32 c.args.image.width) ≡ c.args.image.width = search rules in
    let height : to_z w32 (of_z w32 c.args.image.height) ≡ c.args.image.height = search rules in
    let served = rw (level, width, height) at c.in_ok-tex_image.ensures.served in
    let going = same_stop _ _ _ c.in_ok-tex_image.ensures.cause in
    let t = tables c.args.textures.now in
    let f = covers c.args.textures.now in
    elim c.match-branch-2.branch [
      | in-Oom w ↦ ends_stored c.args.image words payload (payload_given c.args.rows) (λ s. is) c.in_ok-tex_image.field-0 served going
          (λ s. (λ i. images_in (w.textures-is i) targets raster (w.errors-is i) s) ∙ (λ i. images_in c.args.textures.now targets raster (w.note.ensures i) s)
          ∙ ap (λ (a : Stored). stored_state c.args.image words payload a (images_in c.args.textures.now targets raster c.args.errors.now s)) (sym w.in-Oom.is))
      | in-Done w ↦
          let tables_are = w.set_image.ensures.tables ∙ (λ i. with_objects t (tex_image_effect t.objects c.args.image.target (w.level_of.ensures.level i) (w.view_of.ensures i))) in
          let covers_are =
          w.set_image.ensures.covers ∙ (λ i. with_cover f (place_bound t.objects c.args.image.target (w.level_of.ensures.level i)) (first_written (c.is_some-written.ensures i) (w.view_of.ensures i)))
          ∙ ap (with_cover f (place_bound t.objects c.args.image.target _)) (covers_given c.args.image (view_of c.args.image) raster.alignments.unpack c.args.rows (payload_of words payload) is) in
          ends_stored c.args.image words payload (payload_given c.args.rows) (λ s. is) c.in_ok-tex_image.field-0 served going
          (λ s. (λ i. images_in (w.textures-is i) targets raster (w.errors-is i) s)
          ∙ (λ i. record (images_in c.args.textures.now targets raster c.args.errors.now s) { es = record (images_in c.args.textures.now targets raster c.args.errors.now s).es { textures = tables_are i }; covers = covers_are i })
          ∙ ap (λ (a : Stored). stored_state c.args.image words payload a (images_in c.args.textures.now targets raster c.args.errors.now s)) (sym w.in-Done.is))
    ]
