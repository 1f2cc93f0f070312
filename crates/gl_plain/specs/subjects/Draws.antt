-- Draws (OpenGL ES 2.0.25, sections 2.8 and 2.9.2): what they read, the rules by which they are refused, and the vertices that they draw.
-- Numbers are whole numbers without an end, so that no sum wraps.
use Prim.Native.Nat.{zero, suc}
use Rattle.std.specs.Prelude.{◌≡◌, ℕ, ℤ, pos, Bool, true, false, not, ◌+◌, ◌-◌, ◌*◌, ◌^◌, ◌==◌, ◌&&◌, ◌||◌, nat_lt, nat_le, max, if◌then◌else◌, List, [], ◌∷◌, ◌++◌, length, map, take, drop, slice_index, Option, None, Some, is_none, is_some, Result, Ok, Err}
use Rattle.std.specs.Ordering.{nat_cmp}
use Rattle.std.specs.FinMap as table
use Rattle.std.specs.Int.{bit_at}
use Rattle.std.specs.List.{list_any}
use Rattle.gl_base.specs.declared.gl_enum.GlEnum.{GlEnum}
use Rattle.gl_base.specs.declared.enums.TheConstants.{BYTE, UNSIGNED_BYTE, SHORT, UNSIGNED_SHORT, SAMPLER_2D, SAMPLER_CUBE, TRIANGLE_FAN, FRAMEBUFFER_COMPLETE}
use Rattle.gl_base.specs.declared.limits.TheConstants.{LAST_ATTRIBUTE, LAST_UNIT}
use Rattle.gl_plain.specs.declared.objects.Buffer.{Buffer}
use Rattle.gl_plain.specs.declared.attributes.ArraySpec.{ArraySpec}
use Rattle.gl_plain.specs.declared.attributes.VertexAttribute.{VertexAttribute}
use Rattle.gl_plain.specs.declared.attributes.VertexAttributes.{VertexAttributes}
use Rattle.gl_plain.specs.declared.programs.Attribute.{Attribute}
use Rattle.gl_plain.specs.declared.programs.Executable.{Executable}
use Rattle.gl_plain.specs.declared.programs.Uniform.{Uniform}
use Rattle.gl_plain.specs.declared.errors.GlError.{GlError}
use Rattle.gl_plain.specs.declared.errors.GlError.TheVariants.{InvalidEnum, InvalidValue, InvalidOperation, InvalidFramebufferOperation}
use Rattle.gl_plain.specs.declared.draws.ArrayView.{ArrayView}
use Rattle.gl_plain.specs.declared.draws.DrawPlan.{DrawPlan}
use Rattle.gl_plain.specs.declared.draws.DrawView.{DrawView}
use Rattle.gl_plain.specs.declared.draws.IndexView.{IndexView}
use Rattle.gl_plain.specs.declared.draws.UnitView.{UnitView}
use Rattle.gl_plain.specs.Words.{is_negative, natural}
use Rattle.gl_plain.specs.subjects.Links.{columns, words_of}
use Rattle.gl_plain.specs.declared.textures.ImagePlace.{ImagePlace}
use Rattle.gl_plain.specs.declared.textures.Texture.{Texture}
use Rattle.gl_plain.specs.subjects.Completeness.{is_complete, sampled_places}
use Rattle.gl_plain.specs.subjects.Textures.{TextureObjects, unit_at, bound_in, texture_at}
use Rattle.gl_plain.specs.declared.targets.AnyImage.{AnyImage}
use Rattle.gl_plain.specs.declared.targets.AnyImage.TheVariants as image
use Rattle.gl_plain.specs.declared.targets.Target.{Target}
use Rattle.gl_plain.specs.subjects.Targets.{Drawable, status_in, target_images, is_texture_attached}
use Rattle.gl_plain.specs.subjects.Images.{Contents, ImageContents, level_contents, AreWritten, IsTargetWritten}

-- what a draw reads: the buffers by number, the buffer of indices, the vertex attributes, the executable that is in use, and the textures and
-- what is drawn to
pub record Sources : Type 0 where
  pub buffers : table.FinMap nat_cmp Buffer
  pub element : ℕ
  pub attribs : VertexAttributes
  pub executable : Option Executable
  pub drawable : Drawable

-- The program

-- the active attributes of what is in use, if anything is
abbrev pub attributes_in : Option Executable → List Attribute
attributes_in None = []
attributes_in (Some e) = e.answer.attributes

-- the attribute has this location: a matrix takes one for each column, from its own on
abbrev pub has_location : ℕ → Attribute → Bool
has_location location a = nat_le a.location location && nat_lt location (a.location + columns a.kind)

-- the location is one of an active attribute
abbrev pub is_used : List Attribute → ℕ → Bool
is_used attributes location = nat_le location LAST_ATTRIBUTE && list_any (has_location location) attributes

-- a bit for each number below the limit that is so
abbrev pub bits_below : (ℕ → Bool) → ℕ → ℕ
bits_below is_so zero = 0
bits_below is_so (suc n) = bits_below is_so n + (if is_so n then 2 ^ n else 0)

-- a bit for each location that is used
abbrev pub used_bits : List Attribute → ℕ
used_bits attributes = bits_below (is_used attributes) (LAST_ATTRIBUTE + 1)

-- an element of a uniform of this type has the number of the unit as its value; the words of the uniforms follow one another
abbrev pub names_unit : GlEnum → ℕ → List Uniform → List ℕ → Bool
names_unit kind unit [] values = false
names_unit kind unit (u ∷ us) values =
    ((u.kind.0 == kind.0) && list_any (λ word. word == unit) (take (u.size * words_of u.kind) values)) || names_unit kind unit us (drop (u.size * words_of u.kind) values)

-- a unit as the samplers of what is in use name it, without its texture
abbrev pub unit_view : Option Executable → ℕ → UnitView
unit_view None unit = record { flat = false; cube = false; complete = false; attached = false }
unit_view (Some e) unit = record {
  flat = names_unit SAMPLER_2D unit e.answer.uniforms e.values;
  cube = names_unit SAMPLER_CUBE unit e.answer.uniforms e.values;
  complete = false;
  attached = false;
}

-- so many units from this one on
abbrev pub units_from : Option Executable → ℕ → ℕ → List UnitView
units_from e unit zero = []
units_from e unit (suc n) = unit_view e unit ∷ units_from e (unit + 1) n

abbrev pub all_units : Option Executable → List UnitView
all_units e = units_from e 0 (LAST_UNIT + 1)

-- Textures

-- a sampler names the unit
abbrev pub is_sampled : UnitView → Bool
is_sampled u = u.flat || u.cube

-- the number of the texture that a unit samples: where it is named as a cube map alone, its cube map, and else its flat texture
abbrev pub samples_cube : UnitView → Bool
samples_cube u = u.cube && not u.flat

abbrev pub sampled_number : TextureObjects → ℕ → UnitView → ℕ
sampled_number t unit u = bound_in (unit_at t.units unit) (samples_cube u)

-- that texture
abbrev pub sampled_texture : TextureObjects → ℕ → UnitView → Option Texture
sampled_texture t unit u = texture_at t (sampled_number t unit u) (samples_cube u)

abbrev pub is_complete_texture : Option Texture → Bool
is_complete_texture None = false
is_complete_texture (Some x) = is_complete x

-- a unit, with whether it samples a texture that is complete, and one of which an image is drawn to
abbrev pub with_texture : TextureObjects → Target → ℕ → UnitView → UnitView
with_texture t to unit u = record u {
  complete = is_sampled u && is_complete_texture (sampled_texture t unit u);
  attached = is_sampled u && is_texture_attached to (sampled_number t unit u);
}

-- the units from this one on
abbrev pub with_textures : TextureObjects → Target → ℕ → List UnitView → List UnitView
with_textures t to unit [] = []
with_textures t to unit (u ∷ units) = with_texture t to unit u ∷ with_textures t to (unit + 1) units

-- all units, as the samplers name them and the textures are
abbrev pub units_viewed : Sources → List UnitView
units_viewed s = with_textures s.drawable.textures s.drawable.target 0 (all_units s.executable)

-- Arrays

-- the bytes of a number of this kind, as an element has them: 1 and 2, and 4 of a float and of a fixed number
abbrev pub component_size : GlEnum → ℕ
component_size kind =
    if (kind.0 == BYTE.0) || (kind.0 == UNSIGNED_BYTE.0) then 1
    else if (kind.0 == SHORT.0) || (kind.0 == UNSIGNED_SHORT.0) then 2 else 4

abbrev pub element_size : ArraySpec → ℕ
element_size a = a.size * component_size a.kind

-- elements lie one behind the other where the stride is 0
abbrev pub step_of : ArraySpec → ℕ
step_of a = if a.stride == 0 then element_size a else a.stride

-- where an element begins
abbrev pub place_of : ArraySpec → ℕ → ℕ
place_of a n = a.offset + n * step_of a

-- the bytes of a buffer, if it is there
abbrev pub buffer_bytes : Option Buffer → List ℕ
buffer_bytes None = []
buffer_bytes (Some buffer) = buffer.bytes

-- the bytes of an object, if there is one
abbrev pub object_bytes : table.FinMap nat_cmp Buffer → Option ℕ → List ℕ
object_bytes buffers None = []
object_bytes buffers (Some number) = buffer_bytes (table.get buffers number)

-- an array that is not enabled is not read
abbrev pub array_view : table.FinMap nat_cmp Buffer → VertexAttribute → ArrayView
array_view buffers a = record { on = a.enabled; spec = a.array; bytes = if a.enabled then length (object_bytes buffers a.array.object) else 0 }

-- Indices

-- UNSIGNED_BYTE or UNSIGNED_SHORT
abbrev pub is_index_kind : GlEnum → Bool
is_index_kind kind = (kind.0 == UNSIGNED_BYTE.0) || (kind.0 == UNSIGNED_SHORT.0)

abbrev pub index_size : GlEnum → ℕ
index_size kind = if kind.0 == UNSIGNED_BYTE.0 then 1 else 2

-- the index at a place; one of two bytes has its low byte first
abbrev pub index_at : List ℕ → GlEnum → ℕ → ℕ
index_at bytes kind place = if kind.0 == UNSIGNED_BYTE.0 then slice_index bytes place else slice_index bytes place + 256 * slice_index bytes (place + 1)

-- so many indices from a place on
abbrev pub indices : List ℕ → GlEnum → ℕ → ℕ → List ℕ
indices bytes kind place zero = []
indices bytes kind place (suc n) = index_at bytes kind place ∷ indices bytes kind (place + index_size kind) n

-- the greatest of some numbers
abbrev pub greatest : List ℕ → ℕ
greatest [] = 0
greatest (n ∷ ns) = max n (greatest ns)

-- the greatest of so many indices, or none where there are none or where they are not inside the bytes
abbrev pub max_index : List ℕ → ℕ → ℕ → GlEnum → Option ℕ
max_index bytes offset count kind =
    if (count == 0) || nat_lt (length bytes) (offset + count * index_size kind) then None
    else Some (greatest (indices bytes kind offset count))

-- the bytes of the buffer of indices
abbrev pub element_bytes : Sources → List ℕ
element_bytes s = buffer_bytes (table.get s.buffers s.element)

-- The rules

-- a draw's words, but for the first element and the count: the mode, and, where it has indices, their kind and where they begin
pub record IndexWords : Type 0 where
  pub kind : GlEnum
  pub offset : ℕ

-- indices of a wrong kind are not read
abbrev pub index_view : Sources → ℕ → IndexWords → IndexView
index_view s count i = record { kind = i.kind; last = if is_index_kind i.kind then max_index (element_bytes s) i.offset count i.kind else None }

abbrev pub indices_viewed : Sources → ℕ → Option IndexWords → Option IndexView
indices_viewed s count None = None
indices_viewed s count (Some i) = Some (index_view s count i)

-- all that the rules look at
abbrev pub draw_view : Sources → GlEnum → Option IndexWords → ℕ → DrawView
draw_view s mode i count = record {
  mode = mode;
  indexed = indices_viewed s count i;
  arrays = map (array_view s.buffers) s.attribs.attributes;
  used = used_bits (attributes_in s.executable);
  units = units_viewed s;
  status = status_in s.drawable;
  program = is_some s.executable;
}

abbrev pub has_wrong_kind : Option IndexView → Bool
has_wrong_kind None = false
has_wrong_kind (Some i) = not (is_index_kind i.kind)

-- the last element that is drawn, or none where indices are missing or not inside their buffer
abbrev pub last_element : Option IndexView → ℕ → ℕ → Option ℕ
last_element None first count = Some (first + (count - 1))
last_element (Some i) first count = i.last

-- the array of a location that is used, and its array enabled, lies in no buffer, or its last element not inside it
abbrev pub array_fails : ℕ → ℕ → ℕ → ArrayView → Bool
array_fails used last location a =
    a.on && (bit_at used location == 1) && (is_none a.spec.object || nat_lt a.bytes (place_of a.spec last + element_size a.spec))

-- one of the arrays from this location on
abbrev pub any_array_fails : ℕ → ℕ → ℕ → List ArrayView → Bool
any_array_fails used last location [] = false
any_array_fails used last location (a ∷ arrays) = array_fails used last location a || any_array_fails used last (location + 1) arrays

-- two kinds of samplers name the unit, or it samples what is drawn to
abbrev pub unit_fails : UnitView → Bool
unit_fails u = (u.flat && u.cube) || (is_sampled u && u.complete && u.attached)

-- the texture of the unit is sampled and is not complete, and reads as black (section 3.8.2)
abbrev pub is_black : UnitView → Bool
is_black u = is_sampled u && not u.complete

-- a bit for each such unit, from this bit on
abbrev pub black_bits : ℕ → List UnitView → ℕ
black_bits bit [] = 0
black_bits bit (u ∷ units) = (if is_black u then bit else 0) + black_bits (2 * bit) units

abbrev pub no_draw : DrawPlan
no_draw = record { draw = false; black = 0 }

-- without an executable nothing is drawn
abbrev pub plan_of : DrawView → DrawPlan
plan_of v = if v.program then record { draw = true; black = black_bits 1 v.units } else no_draw

-- a draw of elements up to the last one
abbrev pub check_elements : DrawView → Option ℕ → Result DrawPlan GlError
check_elements v None = Err InvalidOperation
check_elements v (Some last) = if any_array_fails v.used last 0 v.arrays || list_any unit_fails v.units then Err InvalidOperation else Ok (plan_of v)

-- the rules in their order: a mode or a kind of indices that is none; a negative first element or count; a framebuffer that is not complete;
-- with a count of 0 nothing is drawn; indices, arrays and units that fail
abbrev pub check_of : DrawView → ℤ → ℤ → Result DrawPlan GlError
check_of v first count =
    if nat_lt TRIANGLE_FAN.0 v.mode.0 || has_wrong_kind v.indexed then Err InvalidEnum
    else if is_negative first || is_negative count then Err InvalidValue
    else if not (v.status == FRAMEBUFFER_COMPLETE) then Err InvalidFramebufferOperation
    else if natural count == 0 then Ok no_draw
    else check_elements v (last_element v.indexed (natural first) (natural count))

-- DrawArrays and DrawElements

abbrev pub check_arrays : Sources → GlEnum → ℤ → ℤ → Result DrawPlan GlError
check_arrays s mode first count = check_of (draw_view s mode None (natural count)) first count

-- the words of indices of this kind from this byte on
abbrev pub index_words : GlEnum → ℕ → IndexWords
index_words kind offset = record { kind = kind; offset = offset }

abbrev pub check_indexed : Sources → GlEnum → ℤ → GlEnum → ℕ → Result DrawPlan GlError
check_indexed s mode count kind offset = check_of (draw_view s mode (Some (index_words kind offset)) (natural count)) (pos 0) count

-- the code of a check, if it refuses
abbrev pub refused_by : Result DrawPlan GlError → Option GlError
refused_by (Err e) = Some e
refused_by (Ok plan) = None

-- What is drawn

-- the value of a vertex at a location: the bytes of an array's element and how they are read, or the constant value
pub data VertexValue : Type 0 where
  Element : (bytes : List ℕ) (size : ℕ) (kind : GlEnum) (normalized : Bool) → VertexValue
  Constant : (values : List ℕ) → VertexValue

-- the element with this number of an attribute
abbrev pub value_of : table.FinMap nat_cmp Buffer → ℕ → VertexAttribute → VertexValue
value_of buffers n a =
    if a.enabled then Element (take (element_size a.array) (drop (place_of a.array n) (object_bytes buffers a.array.object))) a.array.size a.array.kind a.array.normalized
    else Constant a.constant

-- the values at the used locations from this one on
abbrev pub values_from : Sources → ℕ → ℕ → List VertexAttribute → List VertexValue
values_from s n location [] = []
values_from s n location (a ∷ more) =
    (if is_used (attributes_in s.executable) location then value_of s.buffers n a ∷ [] else []) ++ values_from s n (location + 1) more

-- a vertex: its values at the used locations, rising
abbrev pub vertex_of : Sources → ℕ → List VertexValue
vertex_of s n = values_from s n 0 s.attribs.attributes

-- so many numbers from this one on
abbrev pub elements_from : ℕ → ℕ → List ℕ
elements_from first zero = []
elements_from first (suc n) = first ∷ elements_from (first + 1) n

-- The images that are sampled

abbrev pub places_of : ℕ → Option Texture → List ImagePlace
places_of number None = []
places_of number (Some x) = sampled_places number x

-- those of a unit that samples a complete texture
abbrev pub unit_places : TextureObjects → ℕ → UnitView → List ImagePlace
unit_places t unit u = if u.complete then places_of (sampled_number t unit u) (sampled_texture t unit u) else []

-- those of the units from this one on, rising
abbrev pub places_from : TextureObjects → ℕ → List UnitView → List ImagePlace
places_from t unit [] = []
places_from t unit (u ∷ units) = unit_places t unit u ++ places_from t (unit + 1) units

-- those of all units
abbrev pub drawn_places : Sources → List ImagePlace
drawn_places s = places_from s.drawable.textures 0 (units_viewed s)

-- the images that a draw needs written: those that are sampled, and those that are drawn to
abbrev pub drawn_images : Sources → List AnyImage
drawn_images s = map image.Level (drawn_places s) ++ target_images s.drawable.target

-- what a unit samples: black, where its texture is not complete; else how it is filtered and wraps, and its images
pub data Sample : Type 0 where
  Black : Sample
  Sampled : (min mag wrap_s wrap_t : GlEnum) (images : List ImageContents) → Sample

abbrev pub sample_by : TextureObjects → Contents → ℕ → Option Texture → Sample
sample_by t k number None = Black
sample_by t k number (Some x) = Sampled x.min x.mag x.wrap_s x.wrap_t (map (level_contents t k) (sampled_places number x))

abbrev pub sample_of : TextureObjects → Contents → ℕ → UnitView → Sample
sample_of t k unit u = if u.complete then sample_by t k (sampled_number t unit u) (sampled_texture t unit u) else Black

-- what the units sample that are sampled, rising from this one on
abbrev pub samples_from : TextureObjects → Contents → ℕ → List UnitView → List Sample
samples_from t k unit [] = []
samples_from t k unit (u ∷ units) =
    (if is_sampled u then sample_of t k unit u ∷ [] else []) ++ samples_from t k (unit + 1) units

abbrev pub samples_of : Sources → Contents → List Sample
samples_of s k = samples_from s.drawable.textures k 0 (units_viewed s)

-- The driver calls

-- the rules refuse nothing, something is drawn, and the mask has the bits of the units that read as black; all images that are sampled or drawn
-- to were written
pub record IsDrawAllowed (s : Sources) (k : Contents) (check : Result DrawPlan GlError) (black : ℕ) : Type 0 where
  pub draws : check ≡ Ok (record { draw = true; black = black })
  pub sampled : AreWritten s.drawable.textures s.drawable.renderbuffers k (map image.Level (drawn_places s))
  pub written : IsTargetWritten s.drawable k s.drawable.target
