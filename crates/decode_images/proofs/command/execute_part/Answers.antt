use Rattle.std.proofs.Common.{◌≡◌, ◌∙◌, ap, rules, of_z, to_z}
use Rattle.std.specs.Int.{w32}
use Rattle.gl_base.specs.PixelSizes.{pixel_size, unpadded}
use Rattle.gl_plain.specs.Errors.{no_errors}
use Rattle.gl_plain.specs.Words.{natural}
use Rattle.gl_plain.specs.subjects.Textures.{place_bound}
use Rattle.gl_driver.proofs.Exits.{passes_at_once}
use Rattle.texture_mgr.specs.Tables.{tables}
use Rattle.decode_images.proofs.Needed.{part_inside, part_narrow, part_whole}
use Rattle.decode_images.proofs.Done.{part_allowed, part_done, part_may, part_stops}
use Rattle.decode_images.proofs.command.execute_part.Goals as goal

pub client_rows-requires-clause-side : goal.client_rows-requires-clause-side
client_rows-requires-clause-side g c =
    let ready = c.requires no_errors in
    let width : to_z w32 (of_z w32 c.args.part.width) ≡ c.args.part.width = search rules in
    rw (c.natural.ensures, width) (part_narrow (tables c.args.textures.now) ready.sound c.args.part ready.taken)

pub client_rows-requires-clause-whole : goal.client_rows-requires-clause-whole
client_rows-requires-clause-whole g c =
    let ready = c.requires no_errors in
    let limits = rw c.unpack_alignment.ensures.value at c.unpack_alignment.ensures.limits in
    let width : to_z w32 (of_z w32 c.args.part.width) ≡ c.args.part.width = search rules in
    let height : to_z w32 (of_z w32 c.args.part.height) ≡ c.args.part.height = search rules in
    rw (c.natural.ensures, c.natural-2.ensures, width, height, c.unpack_alignment.ensures.value)
    (part_whole (tables c.args.textures.now) ready.sound c.args.part ready.taken c.args.raster.now.alignments.unpack limits.0 limits.1 c.args.words c.args.payload.now ready.fair ready.given)

pub returns-in_err-copied : goal.returns-in_err-copied
returns-in_err-copied g c errors = passes_at_once g.met.D.Driver.grown_itself c.from_residual.result c.from_residual.ensures.1

pub write_part-requires-clause-inside : goal.write_part-requires-clause-inside
write_part-requires-clause-inside g c =
    let ready = c.requires no_errors in
    let level : to_z w32 (of_z w32 c.args.part.level) ≡ c.args.part.level = search rules in
    part_inside (tables c.args.textures.now) ready.sound c.args.part ready.taken c.place_bound-place.result c.part_rect.result
    (c.place_bound-place.ensures ∙ ap (place_bound (tables c.args.textures.now).objects c.args.part.target) (c.natural-3.ensures ∙ ap natural level)) c.part_rect.ensures

pub write_part-requires-clause-may : goal.write_part-requires-clause-may
write_part-requires-clause-may g c =
    let level : to_z w32 (of_z w32 c.args.part.level) ≡ c.args.part.level = search rules in
    part_may c.args.part c.args.words c.args.payload.now c.args.textures.now c.args.targets.now c.args.raster.now no_errors c.place_bound-place.result c.part_rect.result
    (c.place_bound-place.ensures ∙ ap (place_bound (tables c.args.textures.now).objects c.args.part.target) (c.natural-3.ensures ∙ ap natural level)) c.part_rect.ensures _ (c.requires no_errors)

pub returns-in_err-write_part : goal.returns-in_err-write_part
returns-in_err-write_part g c errors =
    let level : to_z w32 (of_z w32 c.args.part.level) ≡ c.args.part.level = search rules in
    part_stops c.args.part c.args.words c.args.payload.now c.args.textures.now c.args.targets.now c.args.raster.now errors c.place_bound-place.result c.part_rect.result
    (c.place_bound-place.ensures ∙ ap (place_bound (tables c.args.textures.now).objects c.args.part.target) (c.natural-3.ensures ∙ ap natural level)) c.part_rect.ensures (c.requires errors) c.from_residual-in_err-write_part.result c.from_residual-in_err-write_part.ensures.1 c.in_err-write_part.ensures.calls

pub write_rows-requires : goal.write_rows-requires
write_rows-requires g c =
    let width : to_z w32 (of_z w32 c.args.part.width) ≡ c.args.part.width = search rules in
    let height : to_z w32 (of_z w32 c.args.part.height) ≡ c.args.part.height = search rules in
    let level : to_z w32 (of_z w32 c.args.part.level) ≡ c.args.part.level = search rules in
    record {
      allowed = part_allowed c.args.part c.args.words c.args.payload.now c.args.textures.now c.args.targets.now c.args.raster.now no_errors c.place_bound-place.result c.part_rect.result
          (c.place_bound-place.ensures ∙ ap (place_bound (tables c.args.textures.now).objects c.args.part.target) (c.natural-3.ensures ∙ ap natural level)) c.part_rect.ensures (c.requires no_errors) c.in_ok-write_part.ensures.calls c.rows_or.result.now
          (c.rows_or.ensures ∙ c.in_ok-copied.ensures.rows ∙ (λ i. unpadded ((c.natural.ensures ∙ ap natural width) i) ((c.natural-2.ensures ∙ ap natural height) i) (pixel_size c.args.part.format c.args.part.kind) (c.unpack_alignment.ensures.value i) c.args.payload.now));
    }

pub returns : goal.returns
returns g c errors =
    let width : to_z w32 (of_z w32 c.args.part.width) ≡ c.args.part.width = search rules in
    let height : to_z w32 (of_z w32 c.args.part.height) ≡ c.args.part.height = search rules in
    let level : to_z w32 (of_z w32 c.args.part.level) ≡ c.args.part.level = search rules in
    part_done c.args.part c.args.words c.args.payload.now c.args.textures.now c.args.targets.now c.args.raster.now errors c.place_bound-place.result c.part_rect.result
    (c.place_bound-place.ensures ∙ ap (place_bound (tables c.args.textures.now).objects c.args.part.target) (c.natural-3.ensures ∙ ap natural level)) c.part_rect.ensures (c.requires errors) c.in_ok-write_part.ensures.calls c.rows_or.result.now
    (c.rows_or.ensures ∙ c.in_ok-copied.ensures.rows ∙ (λ i. unpadded ((c.natural.ensures ∙ ap natural width) i) ((c.natural-2.ensures ∙ ap natural height) i) (pixel_size c.args.part.format c.args.part.kind) (c.unpack_alignment.ensures.value i) c.args.payload.now))
    g.met.D.Driver.grown_further c.write_part.new.textures c.in_ok-write_part.ensures.tables c.in_ok-write_part.ensures.covers c.write_rows.result (c.write_rows.ensures c.args.words c.args.payload.now)
