-- Images: the rules of the calls that give those of textures (OpenGL ES 2.0.25, sections 3.7.1 and 3.7.2), the pixels of all, and what the
-- service keeps of what was written.
use Rattle.std.specs.Prelude.{◌≡◌, ◌<◌, ◌+◌, ◌-◌, ◌*◌, ◌/◌, ◌^◌, ◌==◌, ℕ, ℤ, pos, Bool, true, false, not, ◌&&◌, ◌||◌, nat_lt, nat_le, if◌then◌else◌, List, [], ◌∷◌, length, take, drop, Option, None, Some, is_none}
use Rattle.gl_base.specs.declared.rect.Rect.{Rect}
use Rattle.gl_base.specs.declared.gl_enum.GlEnum.{GlEnum}
use Rattle.gl_base.specs.declared.enums.TheConstants.{UNSIGNED_BYTE}
use Rattle.gl_base.specs.declared.limits.TheConstants.{DATA_LIMIT, SIDE_LIMIT, LAST_LEVEL}
use Rattle.gl_base.specs.declared.texture_enums.TheConstants.{ALPHA, RGB, RGBA, LUMINANCE, LUMINANCE_ALPHA, UNSIGNED_SHORT_4_4_4_4, UNSIGNED_SHORT_5_5_5_1, UNSIGNED_SHORT_5_6_5}
use Rattle.gl_base.specs.Rects.{has, IsIn, whole, union_of, rest_of}
use Rattle.gl_base.specs.PixelSizes.{pixel_bytes, pixel_size, image_size, unpadded}
use Rattle.gl_plain.specs.declared.calls.Payload.{Payload}
use Rattle.gl_plain.specs.declared.calls.Payload.TheVariants.{Absent, Here}
use Rattle.gl_plain.specs.declared.commands.DataWords.{DataWords}
use Rattle.gl_plain.specs.declared.image_words.ImageWords.{ImageWords}
use Rattle.gl_plain.specs.declared.image_words.PartWords.{PartWords}
use Rattle.gl_plain.specs.declared.textures.LevelView.{LevelView}
use Rattle.gl_plain.specs.declared.textures.ImagePlace.{ImagePlace}
use Rattle.gl_plain.specs.declared.textures.Texture.{Texture}
use Rattle.gl_plain.specs.declared.errors.GlError.{GlError}
use Rattle.gl_plain.specs.declared.errors.GlError.TheVariants.{InvalidEnum, InvalidValue, InvalidOperation}
use Rattle.gl_plain.specs.Words.{is_negative, natural}
use Rattle.gl_plain.specs.subjects.Data.{has_no_data, has_needed_data, has_just_needed_data}
use Rattle.gl_plain.specs.subjects.Levels.{is_image_target, is_cube_face, with_level}
use Rattle.gl_plain.specs.subjects.Completeness.{is_power_of_two}
use Rattle.gl_plain.specs.subjects.Textures.{TextureObjects, bound_number, bound_texture, with_texture, place_bound, level_at}
use Rattle.gl_plain.specs.declared.targets.AnyImage.{AnyImage}
use Rattle.gl_plain.specs.declared.targets.AnyImage.TheVariants as image
use Rattle.gl_plain.specs.declared.targets.Target.{Target}
use Rattle.gl_plain.specs.declared.targets.Target.TheVariants as target
use Rattle.gl_plain.specs.subjects.Targets.{Renderbuffers, Drawable, view_of_image, image_list, target_images, surface_view}

-- Pixels

-- an image of the default framebuffer
pub data ScreenImage : Type 0 where
  Colour : ScreenImage
  Depth : ScreenImage
  Stencil : ScreenImage

-- a pixel: never written, zero (for depth the value 1), bytes that were given, or what the record of this number made
pub data Pixel : Type 0 where
  Undefined : Pixel
  Zero : Pixel
  Bytes : (bytes : List ℕ) → Pixel
  Made : (record_number : ℕ) → Pixel

-- the three images of the default framebuffer, by column and row
abbrev pub Screen : Type 0
Screen = ScreenImage → ℕ → ℕ → Pixel

-- the pixels of all images, by column and row: of textures, and of renderbuffers by number; and how many records were made
pub record Contents : Type 0 where
  pub images : ImagePlace → ℕ → ℕ → Pixel
  pub renderbuffers : ℕ → ℕ → ℕ → Pixel
  pub screen : Screen
  pub records : ℕ

-- at the opening the default framebuffer is zero, and nothing is written in any other image
abbrev pub opening_contents : Contents
opening_contents = record { images = λ i x y. Undefined; renderbuffers = λ n x y. Undefined; screen = λ i x y. Zero; records = 0 }

-- the pixel was written
abbrev pub is_defined : Pixel → Bool
is_defined Undefined = false
is_defined Zero = true
is_defined (Bytes bytes) = true
is_defined (Made k) = true

-- no pixel of the default framebuffer was never written
abbrev pub IsScreenWritten : Screen → Type 0
IsScreenWritten screen = (i : ScreenImage) (x y : ℕ) → is_defined (screen i x y) ≡ true

-- what was never written reads as zero
abbrev pub read_pixel : Pixel → Pixel
read_pixel Undefined = Zero
read_pixel Zero = Zero
read_pixel (Bytes bytes) = Bytes bytes
read_pixel (Made k) = Made k

-- the contents as OpenGL ES has them
abbrev pub read_contents : Contents → Contents
read_contents k = record { images = λ i x y. read_pixel (k.images i x y); renderbuffers = λ n x y. read_pixel (k.renderbuffers n x y); screen = λ i x y. read_pixel (k.screen i x y); records = k.records }

-- the places are the same
abbrev pub is_place : ImagePlace → ImagePlace → Bool
is_place place other = (other.texture == place.texture) && (other.face.0 == place.face.0) && (other.level == place.level)

-- an image has other pixels in a rectangle
abbrev pub with_pixels : Contents → ImagePlace → Rect → (ℕ → ℕ → Pixel) → Contents
with_pixels k place r new = record k { images = λ i x y. if is_place place i && has r x y then new x y else k.images i x y }

-- an image is a new one
abbrev pub with_image : Contents → ImagePlace → (ℕ → ℕ → Pixel) → Contents
with_image k place new = record k { images = λ i x y. if is_place place i then new x y else k.images i x y }

-- the image of a renderbuffer is a new one
abbrev pub with_storage : Contents → ℕ → (ℕ → ℕ → Pixel) → Contents
with_storage k number new = record k { renderbuffers = λ n x y. if number == n then new x y else k.renderbuffers n x y }

-- the pixels of an image
abbrev pub pixels_of_image : Contents → AnyImage → ℕ → ℕ → Pixel
pixels_of_image k (image.Level place) = k.images place
pixels_of_image k (image.Renderbuffer number) = k.renderbuffers number

-- an image has these pixels
abbrev pub with_image_of : Contents → AnyImage → (ℕ → ℕ → Pixel) → Contents
with_image_of k (image.Level place) new = with_image k place new
with_image_of k (image.Renderbuffer number) new = with_storage k number new

-- all places of these images were made by the record of this number
abbrev pub all_made : ℕ → Contents → List AnyImage → Contents
all_made record_number k [] = k
all_made record_number k (x ∷ xs) = all_made record_number (with_image_of k x (λ column row. Made record_number)) xs

-- one more record was made
abbrev pub counted : Contents → Contents
counted k = record k { records = k.records + 1 }

-- the pixels of a rectangle whose rows follow one another, each pixel of so many bytes
abbrev pub pixels_of : List ℕ → ℕ → Rect → ℕ → ℕ → Pixel
pixels_of bytes each r x y = Bytes (take each (drop (((y - r.y) * r.width + (x - r.x)) * each) bytes))

-- a new image, without padding, or one of which nothing was written
abbrev pub new_pixels : (blank : Pixel) → Payload → LevelView → ℕ → ℕ → Pixel
new_pixels blank Absent v x y = blank
new_pixels blank (Here bytes) v x y = pixels_of bytes (pixel_size v.format v.kind) (whole v.width v.height) x y

-- Rules

abbrev pub is_format : GlEnum → Bool
is_format format =
    (format.0 == ALPHA.0) || (format.0 == RGB.0) || (format.0 == RGBA.0) || (format.0 == LUMINANCE.0) || (format.0 == LUMINANCE_ALPHA.0)

abbrev pub is_pixel_kind : GlEnum → Bool
is_pixel_kind kind =
    (kind.0 == UNSIGNED_BYTE.0) || (kind.0 == UNSIGNED_SHORT_4_4_4_4.0) || (kind.0 == UNSIGNED_SHORT_5_5_5_1.0) || (kind.0 == UNSIGNED_SHORT_5_6_5.0)

-- 0 to 11
abbrev pub is_level : ℤ → Bool
is_level level = not (is_negative level) && nat_le (natural level) LAST_LEVEL

-- not negative, and within the greatest side of a level, which halves from one level to the next
abbrev pub is_side : ℕ → ℤ → Bool
is_side level side = not (is_negative side) && nat_le (natural side) (SIDE_LIMIT / 2 ^ level)

-- the sides of a level above 0 come from halving a power of two, or there is no pixel
abbrev pub is_level_side : ℕ → ℤ → Bool
is_level_side level side = (level == 0) || (natural side == 0) || is_power_of_two (natural side)

-- two signed numbers that are not negative are the same
abbrev pub is_square : ℤ → ℤ → Bool
is_square width height = natural width == natural height

-- the sides suit the target and the level
abbrev pub has_good_sides : ImageWords → Bool
has_good_sides i =
    is_side (natural i.level) i.width && is_side (natural i.level) i.height && (not (is_cube_face i.target) || is_square i.width i.height)
    && is_level_side (natural i.level) i.width && is_level_side (natural i.level) i.height

abbrev pub is_zero : ℤ → Bool
is_zero n = not (is_negative n) && (natural n == 0)

-- a target, a format or a type that is none; a level, an internal format or sides that are none, or a border; formats that differ, or no pair
abbrev pub tex_image_refusal : ImageWords → Option GlError
tex_image_refusal i =
    if not (is_image_target i.target && is_format i.format && is_pixel_kind i.kind) then Some InvalidEnum
    else if not (is_level i.level && is_format i.internal && has_good_sides i && is_zero i.border) then Some InvalidValue
    else if not (i.internal.0 == i.format.0) || is_none (pixel_bytes i.format i.kind) then Some InvalidOperation else None

-- how many bytes an image in client memory needs: none for a negative side, no pair, or more than the limit
abbrev pub image_needed : ℤ → ℤ → GlEnum → GlEnum → ℕ → ℕ
image_needed width height format kind alignment =
    if is_negative width || is_negative height || is_none (pixel_bytes format kind)
    || nat_lt DATA_LIMIT (image_size (natural width) (natural height) (pixel_size format kind) alignment)
    then 0 else image_size (natural width) (natural height) (pixel_size format kind) alignment

-- the words are those of no data, or of as many bytes as are needed
abbrev pub tex_image_is_bad : ℕ → ImageWords → DataWords → Bool
tex_image_is_bad alignment i words = not (has_no_data words || has_needed_data words (image_needed i.width i.height i.format i.kind alignment))

-- the words are those of as many bytes as are needed, or of no data where none are
abbrev pub tex_sub_image_is_bad : ℕ → PartWords → DataWords → Bool
tex_sub_image_is_bad alignment p words = not (has_just_needed_data words (image_needed p.width p.height p.format p.kind alignment))

-- the rectangle that is written
abbrev pub part_rect : PartWords → Rect
part_rect p = record { x = natural p.x; y = natural p.y; width = natural p.width; height = natural p.height }

-- the image at a place of what is bound, if it is there
abbrev pub part_level : TextureObjects → PartWords → Option LevelView
part_level t p = level_at t (place_bound t p.target (natural p.level))

-- where the image is there, the rectangle leaves it
abbrev pub leaves_level : Option LevelView → Rect → Bool
leaves_level None r = false
leaves_level (Some v) r = nat_lt v.width (r.x + r.width) || nat_lt v.height (r.y + r.height)

-- the image is not there, or has another format or type
abbrev pub differs_from_level : Option LevelView → GlEnum → GlEnum → Bool
differs_from_level None format kind = true
differs_from_level (Some v) format kind = not ((v.format.0 == format.0) && (v.kind.0 == kind.0))

-- a target, a format or a type that is none; a level that is none, a negative number, or a rectangle that leaves its image; no image, or one of
-- another format or type
abbrev pub tex_sub_image_refusal : TextureObjects → PartWords → Option GlError
tex_sub_image_refusal t p =
    if not (is_image_target p.target && is_format p.format && is_pixel_kind p.kind) then Some InvalidEnum
    else if not (is_level p.level) || is_negative p.x || is_negative p.y || is_negative p.width || is_negative p.height
    || leaves_level (part_level t p) (part_rect p) then Some InvalidValue
    else if differs_from_level (part_level t p) p.format p.kind then Some InvalidOperation else None

-- The tables after a call

abbrev pub view_of : ImageWords → LevelView
view_of i = record { width = natural i.width; height = natural i.height; format = i.format; kind = i.kind }

abbrev pub tex_image_by : TextureObjects → GlEnum → ℕ → LevelView → Option Texture → TextureObjects
tex_image_by t face level v None = t
tex_image_by t face level v (Some x) = with_texture t (bound_number t.units (is_cube_face face)) (is_cube_face face) (with_level x face level v)

-- the texture that the active unit binds has this image
abbrev pub tex_image_effect : TextureObjects → GlEnum → ℕ → LevelView → TextureObjects
tex_image_effect t face level v = tex_image_by t face level v (bound_texture t (is_cube_face face))

-- The data of a call, and of a driver call

-- the rows of an image, without padding
abbrev pub unpadded_image : ImageWords → ℕ → List ℕ → List ℕ
unpadded_image i alignment bytes = unpadded (natural i.width) (natural i.height) (pixel_size i.format i.kind) alignment bytes

abbrev pub unpadded_part : PartWords → ℕ → List ℕ → List ℕ
unpadded_part p alignment bytes = unpadded (natural p.width) (natural p.height) (pixel_size p.format p.kind) alignment bytes

abbrev pub unpadded_payload : ImageWords → ℕ → Payload → Payload
unpadded_payload i alignment Absent = Absent
unpadded_payload i alignment (Here bytes) = Here (unpadded_image i alignment bytes)

-- no bytes, or just so many
abbrev pub HasLength : Payload → ℕ → Type 0
HasLength Absent n = Unit {0}
HasLength (Here bytes) n = length bytes ≡ n

-- the words of an image that a driver is given: its pixels have the format of the image, and it has no border
abbrev pub image_words : GlEnum → ℤ → GlEnum → GlEnum → ℤ → ℤ → ImageWords
image_words target level format kind width height =
    record { target = target; level = level; internal = format; width = width; height = height; border = pos 0; format = format; kind = kind }

-- an image is one that OpenGL ES takes, with all bytes of its pixels, or with none
pub record IsTexImageAllowed (i : ImageWords) (payload : Payload) : Type 0 where
  pub fair : tex_image_refusal i ≡ None
  pub bytes : HasLength payload (natural i.width * natural i.height * pixel_size i.format i.kind)

-- a part lies in an image that is there, of this format and type, and has all bytes of its pixels
pub record IsTexSubImageAllowed (t : TextureObjects) (p : PartWords) (bytes : List ℕ) : Type 0 where
  pub fair : tex_sub_image_refusal t p ≡ None
  pub count : length bytes ≡ natural p.width * natural p.height * pixel_size p.format p.kind

-- a rectangle with positive sides lies in an image that is there
pub record IsInImage (v : LevelView) (r : Rect) : Type 0 where
  pub inside : IsIn r v.width v.height
  pub columns : 0 < r.width
  pub rows : 0 < r.height

abbrev pub IsZeroLevelAllowed : Option LevelView → Rect → Type 0
IsZeroLevelAllowed None r = ⊥
IsZeroLevelAllowed (Some v) r = IsInImage v r

-- The written rectangles

-- the rectangle that was written of each image
abbrev pub Covers : Type 0
Covers = ImagePlace → Rect

-- nothing was written
abbrev pub no_rect : Rect
no_rect = record { x = 0; y = 0; width = 0; height = 0 }

abbrev pub no_covers : Covers
no_covers i = no_rect

-- the written rectangle of one image is another
abbrev pub with_cover : Covers → ImagePlace → Rect → Covers
with_cover f place r i = if is_place place i then r else f i

-- nothing is written of the images of a texture that is there no more
abbrev pub without_covers : Covers → ℕ → Covers
without_covers f number i = if i.texture == number then no_rect else f i

-- what is written of a new image
abbrev pub new_cover : Payload → LevelView → Rect
new_cover Absent v = no_rect
new_cover (Here bytes) v = whole v.width v.height

-- the rectangle with a write that extends it
abbrev pub extended_by : Rect → Option Rect → Rect
extended_by old None = old
extended_by old (Some r) = r

abbrev pub extended : Rect → Rect → Rect
extended old r = extended_by old (union_of old r)

-- what was not written of an image that is there, as at most four rectangles
abbrev pub rest_at : Option LevelView → Rect → List Rect
rest_at None cover = []
rest_at (Some v) cover = rest_of v.width v.height cover

-- the rectangle is just the places of the image that were written
pub record IsCover (v : LevelView) (r : Rect) (px : ℕ → ℕ → Pixel) : Type 0 where
  pub inside : IsIn r v.width v.height
  pub exact : (x y : ℕ) → x < v.width → y < v.height → is_defined (px x y) ≡ has r x y

-- where no image is, nothing is written
abbrev pub IsCovered : Option LevelView → Rect → (ℕ → ℕ → Pixel) → Type 0
IsCovered None r px = r ≡ no_rect
IsCovered (Some v) r px = IsCover v r px

-- no place of an image that is there was never written
abbrev pub IsWritten : Option LevelView → (ℕ → ℕ → Pixel) → Type 0
IsWritten None px = Unit {0}
IsWritten (Some v) px = (x y : ℕ) → x < v.width → y < v.height → is_defined (px x y) ≡ true

-- nor of these images
abbrev pub AreWritten : TextureObjects → Renderbuffers → Contents → List AnyImage → Type 0
AreWritten t r k [] = Unit {0}
AreWritten t r k (x ∷ xs) = IsWritten (view_of_image t r x) (pixels_of_image k x) × AreWritten t r k xs

-- nor of what is drawn to
abbrev pub IsTargetWritten : Drawable → Contents → Target → Type 0
IsTargetWritten b k target.Default = IsScreenWritten k.screen
IsTargetWritten b k (target.Bound colour depth stencil) = AreWritten b.textures b.renderbuffers k (target_images (target.Bound colour depth stencil))

-- nor of what colours are read from
abbrev pub IsColourWritten : Drawable → Contents → Target → Type 0
IsColourWritten b k target.Default = IsScreenWritten k.screen
IsColourWritten b k (target.Bound colour depth stencil) = AreWritten b.textures b.renderbuffers k (image_list colour)

-- The renderbuffers that were written

-- a renderbuffer is written as a whole, or not at all
abbrev pub Marks : Type 0
Marks = ℕ → Bool

abbrev pub no_marks : Marks
no_marks n = false

-- a renderbuffer is written, or is not
abbrev pub with_mark : Marks → ℕ → Bool → Marks
with_mark m number is_written n = if number == n then is_written else m n

-- the mark says whether the image was written: RenderbufferStorage leaves every pixel undefined, and what writes one writes all; where no image
-- is, none is written
abbrev pub IsMarked : Option LevelView → Bool → (ℕ → ℕ → Pixel) → Type 0
IsMarked None mark px = mark ≡ false
IsMarked (Some v) mark px = (x y : ℕ) → is_defined (px x y) ≡ mark

-- An image in place of its name

-- what it is, and its pixels, which are zero outside
pub record ImageContents : Type 0 where
  pub view : Option LevelView
  pub pixel : ℕ → ℕ → Pixel

abbrev pub pixels_in : Option LevelView → (ℕ → ℕ → Pixel) → ℕ → ℕ → Pixel
pixels_in None px x y = Zero
pixels_in (Some v) px x y = if nat_lt x v.width && nat_lt y v.height then px x y else Zero

abbrev pub viewed : Option LevelView → (ℕ → ℕ → Pixel) → ImageContents
viewed v px = record { view = v; pixel = pixels_in v px }

-- that of a level of a texture
abbrev pub level_contents : TextureObjects → Contents → ImagePlace → ImageContents
level_contents t k place = viewed (level_at t place) (k.images place)

-- that of any image
abbrev pub image_at : TextureObjects → Renderbuffers → Contents → AnyImage → ImageContents
image_at t r k x = viewed (view_of_image t r x) (pixels_of_image k x)

abbrev pub attached_at : Drawable → Contents → Option AnyImage → Option ImageContents
attached_at b k None = None
attached_at b k (Some x) = Some (image_at b.textures b.renderbuffers k x)

-- what is drawn to: the default framebuffer, or the images that are attached
pub data TargetContents : Type 0 where
  DefaultContents : (screen : Screen) → TargetContents
  AttachedContents : (colour depth stencil : Option ImageContents) → TargetContents

abbrev pub target_contents : Drawable → Contents → Target → TargetContents
target_contents b k target.Default = DefaultContents k.screen
target_contents b k (target.Bound colour depth stencil) = AttachedContents (attached_at b k colour) (attached_at b k depth) (attached_at b k stencil)

-- what colours are read from, if anything
abbrev pub colour_contents : Drawable → Contents → Target → Option ImageContents
colour_contents b k target.Default = Some (viewed (Some (surface_view b.surface)) (k.screen Colour))
colour_contents b k (target.Bound colour depth stencil) = attached_at b k colour
