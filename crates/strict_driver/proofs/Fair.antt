-- What an image, a copy or a storage has that is not refused.
use Rattle.std.proofs.Common.{◌≡◌, ◌/◌, ◌^◌, ℤ, Bool, true, false, not, ◌==◌, ◌&&◌, ◌||◌, nat_le, if◌then◌else◌, Option, None, Some, is_none, refl}
use Rattle.std.proofs.lemmas.Bool.{and_parts}
use Rattle.gl_base.specs.declared.limits.TheConstants.{SIDE_LIMIT}
use Rattle.gl_base.specs.PixelSizes.{pixel_bytes}
use Rattle.gl_plain.specs.declared.driver_calls.ImageDriver.{ImageDriver}
use Rattle.gl_plain.specs.declared.driver_calls.ImageDriver.TheVariants.{TexImage, CopyTexImage, RenderbufferStorage}
use Rattle.gl_plain.specs.declared.errors.GlError.{GlError}
use Rattle.gl_plain.specs.declared.errors.GlError.TheVariants.{InvalidEnum, InvalidValue, InvalidOperation, InvalidFramebufferOperation}
use Rattle.gl_plain.specs.declared.image_words.CopyWords.{CopyWords}
use Rattle.gl_plain.specs.declared.image_words.ImageWords.{ImageWords}
use Rattle.gl_plain.specs.Words.{is_negative, natural}
use Rattle.gl_plain.specs.State.{DriverState, drawable_in}
use Rattle.gl_plain.specs.subjects.Copies.{copy_image, copy_tex_image_refusal, copy_words, is_wrong_source}
use Rattle.gl_plain.specs.subjects.Levels.{is_cube_face, is_image_target}
use Rattle.gl_plain.specs.subjects.Images.{has_good_sides, image_words, is_format, is_level, is_level_side, is_pixel_kind, is_side, is_square, is_zero, tex_image_refusal}
use Rattle.gl_plain.specs.subjects.Targets.{Drawable, is_incomplete}
use Rattle.gl_plain.specs.driver.Allowed.{IsImageAllowed}
use Rattle.strict_driver.specs.FitImages.{IsFit, IsFitImage}

-- where the first two tests pass
two_pass : (p q : Bool) (e f : GlError) (rest : Option GlError) → (if not p then Some e else if not q then Some f else rest) ≡ None → (p ≡ true) × (q ≡ true)
two_pass true true e f rest h = (refl, refl)
two_pass true false e f rest h = absurd (cc)
two_pass false q e f rest h = absurd (cc)

not_true : (b : Bool) → not b ≡ true → b ≡ false
not_true true h = absurd (cc)
not_true false h = refl

natural_side : (level : _) (side : ℤ) → is_side level side ≡ true → is_negative side ≡ false
natural_side level side h = not_true (is_negative side) (and_parts (not (is_negative side)) (nat_le (natural side) (SIDE_LIMIT / 2 ^ level)) h).0

-- an image with a good target, level and sides fits
module _ (i : ImageWords) (face : is_image_target i.target ≡ true) (level_is : is_level i.level ≡ true) (good : has_good_sides i ≡ true) where
  fit_image : IsFitImage i.target i.level i.width i.height
  fit_image =
      let level = natural i.level in
      let two = is_side level i.width && is_side level i.height in
      let square = not (is_cube_face i.target) || is_square i.width i.height in
      let four = and_parts (two && square && is_level_side level i.width) (is_level_side level i.height) good in
      let three = and_parts (two && square) (is_level_side level i.width) four.0 in
      let sides = and_parts (is_side level i.width) (is_side level i.height) (and_parts two square three.0).0 in
      record { face = face; level_is = level_is; columns = natural_side level i.width sides.0; rows = natural_side level i.height sides.1 }

-- so does an image that is not refused
fit_given : (i : ImageWords) → tex_image_refusal i ≡ None → IsFitImage i.target i.level i.width i.height
fit_given i fair =
    let target = is_image_target i.target in
    let numbers = is_level i.level && is_format i.internal && has_good_sides i in
    let both = two_pass (target && is_format i.format && is_pixel_kind i.kind) (numbers && is_zero i.border) InvalidEnum InvalidValue _ fair in
    let face = (and_parts target (is_format i.format) (and_parts (target && is_format i.format) (is_pixel_kind i.kind) both.0).0).0 in
    let three = and_parts (is_level i.level && is_format i.internal) (has_good_sides i) (and_parts numbers (is_zero i.border) both.1).0 in
    fit_image i face (and_parts (is_level i.level) (is_format i.internal) three.0).0 three.1

-- and one that is copied
fit_copied : (b : Drawable) (c : CopyWords) → copy_tex_image_refusal b c ≡ None → IsFitImage c.target c.level c.width c.height
fit_copied b c fair =
    let target = is_image_target c.target in
    let both = two_pass (target && is_format c.internal) (is_level c.level && has_good_sides (copy_image c) && is_zero c.border) InvalidEnum InvalidValue _ fair in
    let face = (and_parts target (is_format c.internal) both.0).0 in
    let two = and_parts (is_level c.level) (has_good_sides (copy_image c)) (and_parts (is_level c.level && has_good_sides (copy_image c)) (is_zero c.border) both.1).0 in
    fit_image (copy_image c) face two.0 two.1

-- what a call on images puts into the tables fits where the call is allowed
pub fits : (d : DriverState) (call : ImageDriver) → IsImageAllowed d call → IsFit d.tables.renderbuffers call
fits d (TexImage target level format kind width height payload) allowed = fit_given (image_words target level format kind width height) allowed.fair
fits d (CopyTexImage target level format x y width height) allowed = fit_copied (drawable_in d.tables) (copy_words target level format x y width height) allowed.fair
fits d (RenderbufferStorage format width height) allowed = allowed
fits d call allowed = tt
