-- Clear, and what draws and clears leave of the images that are drawn to (OpenGL ES 2.0.25, section 4.2.3).
use Rattle.std.specs.Prelude.{◌≡◌, ℕ, Bool, false, not, ◌==◌, if◌then◌else◌, List, [], ◌++◌, Option, None, Some, bit_and}
use Rattle.gl_base.specs.declared.enums.TheConstants.{COLOR_BUFFER_BIT, DEPTH_BUFFER_BIT, STENCIL_BUFFER_BIT, CLEAR_BITS}
use Rattle.gl_plain.specs.declared.errors.GlError.{GlError}
use Rattle.gl_plain.specs.declared.errors.GlError.TheVariants.{InvalidValue, InvalidFramebufferOperation}
use Rattle.gl_plain.specs.declared.targets.AnyImage.{AnyImage}
use Rattle.gl_plain.specs.declared.targets.Target.{Target}
use Rattle.gl_plain.specs.declared.targets.Target.TheVariants as target
use Rattle.gl_plain.specs.subjects.Targets.{Drawable, is_incomplete, image_list, target_images}
use Rattle.gl_plain.specs.subjects.Images.{ScreenImage, Colour, Depth, Stencil, Contents, Made, all_made, counted, IsTargetWritten}

-- bits other than those of the three kinds of images; a framebuffer that is not complete
abbrev pub clear_refusal : Drawable → ℕ → Option GlError
clear_refusal b mask =
    if not (bit_and mask CLEAR_BITS == mask) then Some InvalidValue
    else if is_incomplete b then Some InvalidFramebufferOperation else None

-- a driver is given at least one of the three bits, and no other, for a framebuffer that is complete and of which all was written
pub record IsClearAllowed (b : Drawable) (k : Contents) (mask : ℕ) : Type 0 where
  pub known : clear_refusal b mask ≡ None
  pub some : (mask == 0) ≡ false
  pub written : IsTargetWritten b k b.target

-- the bit of an image
abbrev pub bit_of : ScreenImage → ℕ
bit_of Colour = COLOR_BUFFER_BIT
bit_of Depth = DEPTH_BUFFER_BIT
bit_of Stencil = STENCIL_BUFFER_BIT

abbrev pub is_cleared : ℕ → ScreenImage → Bool
is_cleared mask image = not (bit_and mask (bit_of image) == 0)

-- the image, if it is attached and the mask names it
abbrev pub cleared_list : ℕ → ScreenImage → Option AnyImage → List AnyImage
cleared_list mask image x = if is_cleared mask image then image_list x else []

-- the images of the mask are made by the next record, at all their places
abbrev pub cleared : ℕ → Target → Contents → Contents
cleared mask target.Default k = counted (record k { screen = λ i x y. if is_cleared mask i then Made k.records else k.screen i x y })
cleared mask (target.Bound colour depth stencil) k =
    counted (all_made k.records k (cleared_list mask Colour colour ++ cleared_list mask Depth depth ++ cleared_list mask Stencil stencil))

-- all images are made by the next record, at all their places
abbrev pub drawn : Target → Contents → Contents
drawn target.Default k = counted (record k { screen = λ i x y. Made k.records })
drawn (target.Bound colour depth stencil) k = counted (all_made k.records k (target_images (target.Bound colour depth stencil)))
