-- What colours are read from is there, where there are colours.
use Rattle.std.proofs.Common.{◌≡◌, false, Option, None, Some, is_none, refl}
use Rattle.std.specs.Option.{IsSome}
use Rattle.std.specs.FinMap as table
use Rattle.gl_plain.specs.State.{Surface}
use Rattle.gl_plain.specs.declared.targets.AnyImage.TheVariants as image
use Rattle.gl_plain.specs.declared.targets.Renderbuffer.{Renderbuffer}
use Rattle.gl_plain.specs.declared.targets.Target.{Target}
use Rattle.gl_plain.specs.declared.targets.Target.TheVariants as target
use Rattle.gl_plain.specs.subjects.Targets.{Drawable, colour_view_by, renderbuffer_image}
use Rattle.texture_mgr.specs.declared.textures.Textures.{Textures}
use Rattle.target_mgr.specs.declared.targets.Targets.{Targets}
use Rattle.whole_images.specs.Views.{drawable}
use Rattle.whole_images.specs.Whole.{IsColourThere}

-- a renderbuffer with an image is there
has_storage : (o : Option Renderbuffer) → is_none (renderbuffer_image o) ≡ false → IsSome o
has_storage None h = absurd (cc)
has_storage (Some x) h = refl

-- the sides of the default framebuffer say nothing of whether there are colours
pub colours_anyway : (x : Textures) (g : Targets) (a b : Surface) (t : Target) → is_none (colour_view_by (drawable a x g) t) ≡ is_none (colour_view_by (drawable b x g) t)
colours_anyway x g a b target.Default = refl
colours_anyway x g a b (target.Bound None depth stencil) = refl
colours_anyway x g a b (target.Bound (Some from) depth stencil) = refl

-- so the image that they are read from is there
pub colours_there : (b : Drawable) (t : Target) → is_none (colour_view_by b t) ≡ false → IsColourThere b.renderbuffers t
colours_there b target.Default some = tt
colours_there b (target.Bound None depth stencil) some = tt
colours_there b (target.Bound (Some (image.Level place)) depth stencil) some = tt
colours_there b (target.Bound (Some (image.Renderbuffer number)) depth stencil) some = has_storage (table.get b.renderbuffers number) some
