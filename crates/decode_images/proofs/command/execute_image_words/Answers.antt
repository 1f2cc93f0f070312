use Rattle.std.proofs.Common.{◌≡◌, ◌==◌, ◌∙◌, false, refl, ap, arith, rules, of_z, to_z}
use Rattle.std.specs.Int.{w32}
use Rattle.std.proofs.lemmas.Bool.Decides.{nat_tests}
use Rattle.gl_plain.specs.declared.commands.Command.TheVariants.{Image}
use Rattle.gl_plain.specs.declared.commands.ImageCommand.TheVariants.{TexImage2D}
use Rattle.gl_base.specs.PixelSizes.{pixel_size, unpadded}
use Rattle.gl_plain.specs.Words.{natural}
use Rattle.gl_driver.proofs.Exits.{ends_own, passes_at_once}
use Rattle.decode_images.specs.States.{images_in}
use Rattle.decode_images.proofs.Needed.{image_narrow, image_whole}
use Rattle.decode_images.proofs.Done.{image_allowed, nothing_given, rows_given}
use Rattle.decode_images.proofs.command.execute_image_words.Goals as goal

pub tex_image_2d-requires-clause-allowed : goal.tex_image_2d-requires-clause-allowed
tex_image_2d-requires-clause-allowed g c =
    image_allowed c.args.image c.args.words c.args.payload.now (images_in c.args.textures.now c.args.targets.now c.args.raster.now c.args.errors.now) _ c.requires _
    (nothing_given c.args.image c.args.words c.args.payload.now c.args.raster.now.alignments.unpack c.if-words-eq0.true)

pub returns-then-words-eq0 : goal.returns-then-words-eq0
returns-then-words-eq0 g c =
    ends_own (Image (TexImage2D c.args.image c.args.words)) c.args.payload.now g.met.D.Driver.grown_itself g.met.D.Driver.grown_further (λ s. refl) (λ s. c.requires.fair) (λ s. c.requires.taken)
    (c.tex_image_2d.ensures c.args.words c.args.payload.now c.args.targets.now c.args.raster.now (nothing_given c.args.image c.args.words c.args.payload.now c.args.raster.now.alignments.unpack c.if-words-eq0.true))

pub client_rows-requires-clause-side : goal.client_rows-requires-clause-side
client_rows-requires-clause-side g c = let width : to_z w32 (of_z w32 c.args.image.width) ≡ c.args.image.width = search rules in rw (c.natural.ensures, width) (image_narrow c.args.image c.requires.taken)

pub client_rows-requires-clause-whole : goal.client_rows-requires-clause-whole
client_rows-requires-clause-whole g c =
    let width : to_z w32 (of_z w32 c.args.image.width) ≡ c.args.image.width = search rules in
    let height : to_z w32 (of_z w32 c.args.image.height) ≡ c.args.image.height = search rules in
    rw (c.natural.ensures, c.natural-2.ensures, width, height, c.unpack_alignment.ensures.value)
    (image_whole c.args.raster.now.alignments.unpack (rw c.unpack_alignment.ensures.value at c.unpack_alignment.ensures.limits.1) c.args.image c.args.words c.args.payload.now c.requires.taken c.requires.fair c.requires.given c.if-words-eq0.false)

pub returns-in_err-copied : goal.returns-in_err-copied
returns-in_err-copied g c = passes_at_once g.met.D.Driver.grown_itself c.from_residual.result c.from_residual.ensures.1

pub tex_image_2d-requires-2-clause-allowed : goal.tex_image_2d-requires-2-clause-allowed
tex_image_2d-requires-2-clause-allowed g c =
    let width : to_z w32 (of_z w32 c.args.image.width) ≡ c.args.image.width = search rules in
    let height : to_z w32 (of_z w32 c.args.image.height) ≡ c.args.image.height = search rules in
    let some : (c.args.words.source == 0) ≡ false = grind (arith, nat_tests, c.if-words-eq0.false) in
    image_allowed c.args.image c.args.words c.args.payload.now (images_in c.args.textures.now c.args.targets.now c.args.raster.now c.args.errors.now) _ c.requires _
    (rows_given c.args.image c.args.words c.args.payload.now c.rows_or-rows.result.now c.args.raster.now.alignments.unpack some
    (c.rows_or-rows.ensures ∙ c.in_ok-copied.ensures.rows ∙ (λ i. unpadded ((c.natural.ensures ∙ ap natural width) i) ((c.natural-2.ensures ∙ ap natural height) i) (pixel_size c.args.image.format c.args.image.kind) (c.unpack_alignment.ensures.value i) c.args.payload.now)))

pub returns : goal.returns
returns g c =
    let width : to_z w32 (of_z w32 c.args.image.width) ≡ c.args.image.width = search rules in
    let height : to_z w32 (of_z w32 c.args.image.height) ≡ c.args.image.height = search rules in
    let some : (c.args.words.source == 0) ≡ false = grind (arith, nat_tests, c.if-words-eq0.false) in
    ends_own (Image (TexImage2D c.args.image c.args.words)) c.args.payload.now g.met.D.Driver.grown_itself g.met.D.Driver.grown_further (λ s. refl) (λ s. c.requires.fair) (λ s. c.requires.taken)
    (c.tex_image_2d-2.ensures c.args.words c.args.payload.now c.args.targets.now c.args.raster.now
    (rows_given c.args.image c.args.words c.args.payload.now c.rows_or-rows.result.now c.args.raster.now.alignments.unpack some
    (c.rows_or-rows.ensures ∙ c.in_ok-copied.ensures.rows ∙ (λ i. unpadded ((c.natural.ensures ∙ ap natural width) i) ((c.natural-2.ensures ∙ ap natural height) i) (pixel_size c.args.image.format c.args.image.kind) (c.unpack_alignment.ensures.value i) c.args.payload.now))))
