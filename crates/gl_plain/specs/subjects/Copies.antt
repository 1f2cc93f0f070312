-- Reading pixels of what is drawn to, and copying them to images of textures (OpenGL ES 2.0.25, sections 4.3.1 and 3.7.2).
use Rattle.std.specs.Prelude.{◌≡◌, ◌≤◌, ℕ, ℤ, pos, negsuc, Bool, true, false, not, ◌+◌, ◌-◌, ◌*◌, ◌==◌, ◌&&◌, ◌||◌, nat_lt, nat_le, if◌then◌else◌, List, ◌++◌, take, replicate, Option, None, Some, is_none, is_some}
use Rattle.gl_base.specs.declared.gl_enum.GlEnum.{GlEnum}
use Rattle.gl_base.specs.declared.enums.TheConstants.{UNSIGNED_BYTE}
use Rattle.gl_base.specs.declared.limits.TheConstants.{DATA_LIMIT}
use Rattle.gl_base.specs.declared.texture_enums.TheConstants.{RGBA}
use Rattle.gl_base.specs.declared.rect.Rect.{Rect}
use Rattle.gl_base.specs.PixelSizes.{pixel_bytes, pixel_size, image_size, padded}
use Rattle.gl_plain.specs.declared.errors.GlError.{GlError}
use Rattle.gl_plain.specs.declared.errors.GlError.TheVariants.{InvalidEnum, InvalidValue, InvalidOperation, OutOfMemory, InvalidFramebufferOperation}
use Rattle.gl_plain.specs.declared.image_words.CopyWords.{CopyWords}
use Rattle.gl_plain.specs.declared.image_words.CopyPartWords.{CopyPartWords}
use Rattle.gl_plain.specs.declared.image_words.ImageWords.{ImageWords}
use Rattle.gl_plain.specs.declared.image_words.ReadWords.{ReadWords}
use Rattle.gl_plain.specs.declared.textures.ImagePlace.{ImagePlace}
use Rattle.gl_plain.specs.declared.textures.LevelView.{LevelView}
use Rattle.gl_plain.specs.Words.{is_negative, natural}
use Rattle.gl_plain.specs.subjects.Levels.{is_image_target, is_cube_face}
use Rattle.gl_plain.specs.subjects.Textures.{TextureObjects, bound_number, place_bound, level_at}
use Rattle.gl_plain.specs.subjects.Targets.{Drawable, is_incomplete, colour_view, lacks_parts, is_colour_of}
use Rattle.gl_plain.specs.subjects.Images.{Pixel, Zero, Made, Contents, IsColourWritten, is_format, is_pixel_kind, is_level, is_zero, has_good_sides, leaves_level, with_image, with_pixels, counted}

-- Where copied pixels come from

-- a place so many columns or rows behind one that may lie before the first
abbrev pub place_behind : ℤ → ℕ → Option ℕ
place_behind (pos n) d = Some (n + d)
place_behind (negsuc n) d = if nat_le d n then None else Some (d - (n + 1))

-- the place is one of so many
abbrev pub is_below : Option ℕ → ℕ → Bool
is_below None side = false
is_below (Some place) side = nat_lt place side

-- the place that is read for a place of the copy lies in the image
abbrev pub is_readable : Option LevelView → ℤ → ℤ → ℕ → ℕ → Bool
is_readable None x y column row = false
is_readable (Some v) x y column row = is_below (place_behind x column) v.width && is_below (place_behind y row) v.height

-- a pixel that is read is made by the next record, and one outside is zero
abbrev pub copied_pixel : Contents → Option LevelView → ℤ → ℤ → ℕ → ℕ → Pixel
copied_pixel k v x y column row = if is_readable v x y column row then Made k.records else Zero

-- what colours are read from suits neither the format nor the texture: it lacks parts, or is one of the texture's own images
abbrev pub is_wrong_source : Drawable → GlEnum → GlEnum → Bool
is_wrong_source b target format = lacks_parts (colour_view b) format || is_colour_of b.target (bound_number b.textures.units (is_cube_face target))

-- CopyTexImage2D

-- the image that a copy makes has the type UNSIGNED_BYTE
abbrev pub copy_image : CopyWords → ImageWords
copy_image c = record {
  target = c.target;
  level = c.level;
  internal = c.internal;
  width = c.width;
  height = c.height;
  border = c.border;
  format = c.internal;
  kind = UNSIGNED_BYTE;
}

-- a target or an internal format that is none; a level or sides that are none, or a border; a framebuffer that is not complete; no colours, none
-- with an alpha where the format has one, or those of the same texture
abbrev pub copy_tex_image_refusal : Drawable → CopyWords → Option GlError
copy_tex_image_refusal b c =
    if not (is_image_target c.target && is_format c.internal) then Some InvalidEnum
    else if not (is_level c.level && has_good_sides (copy_image c) && is_zero c.border) then Some InvalidValue
    else if is_incomplete b then Some InvalidFramebufferOperation
    else if is_wrong_source b c.target c.internal then Some InvalidOperation else None

abbrev pub copy_place : TextureObjects → CopyWords → ImagePlace
copy_place t c = place_bound t c.target (natural c.level)

-- an image has the pixels that are copied
abbrev pub copy_tex_image_contents : Drawable → CopyWords → Contents → Contents
copy_tex_image_contents b c k =
    if (natural c.width == 0) || (natural c.height == 0) then with_image k (copy_place b.textures c) (copied_pixel k (colour_view b) c.x c.y)
    else counted (with_image k (copy_place b.textures c) (copied_pixel k (colour_view b) c.x c.y))

-- CopyTexSubImage2D

-- the rectangle that is written
abbrev pub copy_rect : CopyPartWords → Rect
copy_rect c = record { x = natural c.xoffset; y = natural c.yoffset; width = natural c.width; height = natural c.height }

abbrev pub copy_part_place : TextureObjects → CopyPartWords → ImagePlace
copy_part_place t c = place_bound t c.target (natural c.level)

abbrev pub copy_part_level : TextureObjects → CopyPartWords → Option LevelView
copy_part_level t c = level_at t (copy_part_place t c)

-- no image, or a source that does not suit it
abbrev pub is_wrong_part : Drawable → GlEnum → Option LevelView → Bool
is_wrong_part b target None = true
is_wrong_part b target (Some v) = is_wrong_source b target v.format

-- a target that is none; a level that is none, a negative place or side, or a rectangle that leaves its image; a framebuffer that is not
-- complete; no image, or a source that does not suit it
abbrev pub copy_tex_sub_image_refusal : Drawable → CopyPartWords → Option GlError
copy_tex_sub_image_refusal b c =
    if not (is_image_target c.target) then Some InvalidEnum
    else if not (is_level c.level) || is_negative c.xoffset || is_negative c.yoffset || is_negative c.width || is_negative c.height
    || leaves_level (copy_part_level b.textures c) (copy_rect c) then Some InvalidValue
    else if is_incomplete b then Some InvalidFramebufferOperation
    else if is_wrong_part b c.target (copy_part_level b.textures c) then Some InvalidOperation else None

-- the pixels of a rectangle are those that are copied
abbrev pub part_copied : Contents → Option LevelView → CopyPartWords → ℕ → ℕ → Pixel
part_copied k v c x y = copied_pixel k v c.x c.y (x - natural c.xoffset) (y - natural c.yoffset)

abbrev pub copy_tex_sub_image_contents : Drawable → CopyPartWords → Contents → Contents
copy_tex_sub_image_contents b c k = counted (with_pixels k (copy_part_place b.textures c) (copy_rect c) (part_copied k (colour_view b) c))

-- ReadPixels

-- one of the formats of pixels, and one of their types, which need not make a pair
abbrev pub is_any_pixel : GlEnum → GlEnum → Bool
is_any_pixel format kind = is_format format && is_pixel_kind kind

-- a pair whose pixels would have more bytes than the limit
abbrev pub is_over_data_limit : ℕ → ReadWords → Bool
is_over_data_limit pack r =
    is_some (pixel_bytes r.format r.kind) && nat_lt DATA_LIMIT (image_size (natural r.width) (natural r.height) (pixel_size r.format r.kind) pack)

-- RGBA in four bytes is what can be read
abbrev pub is_read_format : GlEnum → GlEnum → Bool
is_read_format format kind = (format.0 == RGBA.0) && (kind.0 == UNSIGNED_BYTE.0)

-- a format or a type that is none; a negative side; more bytes than the limit; a framebuffer that is not complete; another format than RGBA in
-- four bytes, or no colours
abbrev pub read_pixels_refusal : Drawable → ℕ → ReadWords → Option GlError
read_pixels_refusal b pack r =
    if not (is_any_pixel r.format r.kind) then Some InvalidEnum
    else if is_negative r.width || is_negative r.height then Some InvalidValue
    else if is_over_data_limit pack r then Some OutOfMemory
    else if is_incomplete b then Some InvalidFramebufferOperation
    else if not (is_read_format r.format r.kind) || is_none (colour_view b) then Some InvalidOperation else None

-- there is nothing to read
abbrev pub reads_nothing : ReadWords → Bool
reads_nothing r = (natural r.width == 0) || (natural r.height == 0)

-- how many bytes the pixels have, without padding
abbrev pub read_count : ℕ → ℕ → ℕ
read_count width height = width * height * 4

-- bytes cut or filled with zeros to this length
abbrev pub fitted : ℕ → List ℕ → List ℕ
fitted n bytes = take n (bytes ++ replicate n 0)

-- the rows as client memory has them
abbrev pub read_bytes : ℕ → ReadWords → List ℕ → List ℕ
read_bytes pack r bytes = padded (natural r.width) (natural r.height) 4 pack bytes

-- The driver calls

abbrev pub copy_words : GlEnum → ℤ → GlEnum → ℤ → ℤ → ℤ → ℤ → CopyWords
copy_words target level format x y width height =
    record { target = target; level = level; internal = format; x = x; y = y; width = width; height = height; border = pos 0 }

-- a copy is one that OpenGL ES takes, and what is read was written
pub record IsCopyAllowed (b : Drawable) (k : Contents) (refusal : Option GlError) : Type 0 where
  pub fair : refusal ≡ None
  pub written : IsColourWritten b k b.target

-- pixels are there and were written, and not too many
pub record IsReadAllowed (b : Drawable) (k : Contents) (width height : ℤ) : Type 0 where
  pub columns : (is_negative width ≡ false) × ((natural width == 0) ≡ false)
  pub rows : (is_negative height ≡ false) × ((natural height == 0) ≡ false)
  pub size : read_count (natural width) (natural height) ≤ DATA_LIMIT
  pub complete : is_incomplete b ≡ false
  pub colour : is_none (colour_view b) ≡ false
  pub written : IsColourWritten b k b.target
