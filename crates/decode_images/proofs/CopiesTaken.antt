-- What is so of a copy that is not refused.
use Rattle.std.proofs.Common.{◌≡◌, ◌==◌, ◌&&◌, ◌||◌, ℕ, Bool, true, false, not, if◌then◌else◌, List, [], ◌∷◌, Option, None, Some, is_none, is_some, refl, sym, ap, ◌∙◌, arith}
use Rattle.std.proofs.lemmas.Bool.Decides.{nat_tests}
use Rattle.gl_base.specs.declared.gl_enum.GlEnum.{GlEnum}
use Rattle.gl_base.specs.Rects.{union_of}
use Rattle.gl_base.specs.declared.rect.Rect.{Rect}
use Rattle.gl_plain.specs.declared.errors.GlError.{GlError}
use Rattle.gl_plain.specs.declared.errors.GlError.TheVariants.{InvalidEnum, InvalidValue, InvalidOperation, InvalidFramebufferOperation}
use Rattle.gl_plain.specs.declared.image_words.CopyWords.{CopyWords}
use Rattle.gl_plain.specs.declared.image_words.CopyPartWords.{CopyPartWords}
use Rattle.gl_plain.specs.declared.targets.AnyImage.TheVariants as any
use Rattle.gl_plain.specs.declared.targets.Target.{Target}
use Rattle.gl_plain.specs.declared.targets.Target.TheVariants as target
use Rattle.gl_plain.specs.declared.textures.ImagePlace.{ImagePlace}
use Rattle.gl_plain.specs.declared.textures.LevelView.{LevelView}
use Rattle.gl_plain.specs.State.{Surface}
use Rattle.gl_plain.specs.Words.{is_negative}
use Rattle.gl_plain.specs.Covers.{all_filled}
use Rattle.gl_plain.specs.subjects.Copies.{copy_image, copy_rect, copy_part_level, copy_tex_image_refusal, copy_tex_sub_image_refusal, is_wrong_part, is_wrong_source}
use Rattle.gl_plain.specs.subjects.Images.{Covers, has_good_sides, is_format, is_level, is_place, is_zero, leaves_level}
use Rattle.gl_plain.specs.subjects.Levels.{is_cube_face, is_image_target}
use Rattle.gl_plain.specs.subjects.Targets.{Drawable, colour_images, colour_view, colour_view_by, is_colour_of, is_incomplete, lacks_parts, target_of}
use Rattle.gl_plain.specs.subjects.Textures.{TextureObjects, bound_number, level_at}
use Rattle.gl_laws.proofs.Refusals.{or_false}
use Rattle.gl_laws.proofs.Zeroing.{filled_elsewhere}
use Rattle.texture_mgr.specs.declared.textures.Textures.{Textures}
use Rattle.texture_mgr.specs.Tables.{tables}
use Rattle.target_mgr.specs.declared.targets.Targets.{Targets}
use Rattle.target_mgr.specs.Tables.{framebuffers}
use Rattle.whole_images.specs.Views.{drawable}
use Rattle.whole_images.specs.Whole.{IsColourThere}
use Rattle.whole_images.proofs.There.{colours_there}

-- Whatever sides the default framebuffer has

parts_anyway : (x : Textures) (g : Targets) (a b : Surface) (format : GlEnum) (t : Target) → lacks_parts (colour_view_by (drawable a x g) t) format ≡ lacks_parts (colour_view_by (drawable b x g) t) format
parts_anyway x g a b format target.Default = refl
parts_anyway x g a b format (target.Bound None depth stencil) = refl
parts_anyway x g a b format (target.Bound (Some from) depth stencil) = refl

module _ (x : Textures) (g : Targets) (a b : Surface) where
  source_anyway : (to format : GlEnum) → is_wrong_source (drawable a x g) to format ≡ is_wrong_source (drawable b x g) to format
  source_anyway to format =
      ap (λ (lacks : Bool). lacks || is_colour_of (target_of (framebuffers g)) (bound_number (tables x).objects.units (is_cube_face to))) (parts_anyway x g a b format (target_of (framebuffers g)))

  part_anyway : (to : GlEnum) (o : Option LevelView) → is_wrong_part (drawable a x g) to o ≡ is_wrong_part (drawable b x g) to o
  part_anyway to None = refl
  part_anyway to (Some v) = source_anyway to v.format

  pub copy_anyway : (c : CopyWords) → copy_tex_image_refusal (drawable a x g) c ≡ copy_tex_image_refusal (drawable b x g) c
  copy_anyway c = ap (λ (wrong : Bool).
      if not (is_image_target c.target && is_format c.internal) then Some InvalidEnum
      else if not (is_level c.level && has_good_sides (copy_image c) && is_zero c.border) then Some InvalidValue
      else if is_incomplete (drawable a x g) then Some InvalidFramebufferOperation
      else if wrong then Some InvalidOperation else None) (source_anyway c.target c.internal)

  pub copy_part_anyway : (c : CopyPartWords) → copy_tex_sub_image_refusal (drawable a x g) c ≡ copy_tex_sub_image_refusal (drawable b x g) c
  copy_part_anyway c = ap (λ (wrong : Bool).
      if not (is_image_target c.target) then Some InvalidEnum
      else if not (is_level c.level) || is_negative c.xoffset || is_negative c.yoffset || is_negative c.width || is_negative c.height
      || leaves_level (copy_part_level (tables x).objects c) (copy_rect c) then Some InvalidValue
      else if is_incomplete (drawable a x g) then Some InvalidFramebufferOperation
      else if wrong then Some InvalidOperation else None) (part_anyway c.target (copy_part_level (tables x).objects c))

-- What is read is there

some_parts : (o : Option LevelView) (format : GlEnum) → lacks_parts o format ≡ false → is_none o ≡ false
some_parts None format h = absurd (cc)
some_parts (Some v) format h = refl

pub source_there : (b : Drawable) (to format : GlEnum) → is_wrong_source b to format ≡ false → IsColourThere b.renderbuffers b.target
source_there b to format h = colours_there b b.target (some_parts (colour_view b) format (or_false (lacks_parts (colour_view b) format) (is_colour_of b.target (bound_number b.textures.units (is_cube_face to))) h).0)

-- And it is no image of the texture that is copied to

pub not_colour : (b : Drawable) (to format : GlEnum) → is_wrong_source b to format ≡ false → is_colour_of b.target (bound_number b.textures.units (is_cube_face to)) ≡ false
not_colour b to format h = (or_false (lacks_parts (colour_view b) format) (is_colour_of b.target (bound_number b.textures.units (is_cube_face to))) h).1

other_place : (place other : ImagePlace) → (place.texture == other.texture) ≡ false → is_place place other ≡ false
other_place place other apart =
    let turned : (other.texture == place.texture) ≡ false = grind (arith, nat_tests) in ap (λ (b : Bool). b && (other.face.0 == place.face.0) && (other.level == place.level)) turned

-- so what is written of it stays the same where what is read is made whole
pub kept_covers : (t : TextureObjects) (f : Covers) (from : Target) (place : ImagePlace) → is_colour_of from place.texture ≡ false → all_filled t f (colour_images from) place ≡ f place
kept_covers t f target.Default place apart = refl
kept_covers t f (target.Bound None depth stencil) place apart = refl
kept_covers t f (target.Bound (Some (any.Level read)) depth stencil) place apart = filled_elsewhere f read (level_at t read) place (other_place read place apart)
kept_covers t f (target.Bound (Some (any.Renderbuffer number)) depth stencil) place apart = refl
