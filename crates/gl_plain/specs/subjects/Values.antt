-- The state that is asked for by its name alone (OpenGL ES 2.0.25, section 6.1.1 and tables 6.4 to 6.20): one table says what each name has, and
-- the three calls give it in their form.
use Rattle.std.specs.Prelude.{ℕ, Bool, true, false, ◌+◌, ◌==◌, ◌||◌, if◌then◌else◌, List, [], ◌∷◌, map, Option, None, Some, is_none, unwrap_or}
use Rattle.std.specs.FinMap as table
use Rattle.std.specs.Int.{cast_signed, w32}
use Rattle.gl_base.specs.declared.gl_enum.GlEnum.{GlEnum}
use Rattle.gl_base.specs.declared.enums.TheConstants.{ONE, UNSIGNED_BYTE}
use Rattle.gl_base.specs.declared.limits.TheConstants.{LAST_ATTRIBUTE, LAST_UNIT, SIDE_LIMIT, UNIFORM_VECTORS, VARYING_VECTORS}
use Rattle.gl_base.specs.declared.query_enums.TheConstants as names
use Rattle.gl_base.specs.declared.raster_enums.TheConstants as raster
use Rattle.gl_base.specs.declared.texture_enums.TheConstants.{RGBA, TEXTURE0}
use Rattle.gl_base.specs.Floats.{int_pattern, is_zero_pattern}
use Rattle.gl_plain.specs.declared.errors.GlError.{GlError}
use Rattle.gl_plain.specs.declared.errors.GlError.TheVariants.{InvalidEnum}
use Rattle.gl_plain.specs.declared.queries.ValueForm.{ValueForm}
use Rattle.gl_plain.specs.declared.queries.ValueForm.TheVariants.{Integer, Boolean, Float}
use Rattle.gl_plain.specs.declared.raster.Alignments.{Alignments}
use Rattle.gl_plain.specs.declared.raster.RasterWords.{RasterWords}
use Rattle.gl_plain.specs.subjects.Names.{name_of}
use Rattle.gl_plain.specs.subjects.Buffers.{BufferTables}
use Rattle.gl_plain.specs.subjects.Links.{is_one_of}
use Rattle.gl_plain.specs.subjects.Programs.{ProgramTables}
use Rattle.gl_plain.specs.subjects.Raster.{raster_state, or_else}
use Rattle.gl_plain.specs.subjects.Targets.{FramebufferTables, RenderbufferTables}
use Rattle.gl_plain.specs.subjects.Textures.{TextureTables, bound_number}

-- What is bound

-- the name of the program that is in use, or 0
abbrev pub current_name : ProgramTables → ℕ
current_name t = unwrap_or (table.get t.ids t.current) 0

-- the name of the texture that the active unit binds: a cube map, or a flat texture
abbrev pub bound_name : TextureTables → Bool → ℕ
bound_name t cube = name_of t.names (bound_number t.objects.units cube)

-- buffers and the program
abbrev pub object_binding : BufferTables → ProgramTables → ℕ → Option (List ℕ)
object_binding b p pname =
    if pname == names.ARRAY_BUFFER_BINDING.0 then Some (name_of b.names b.array ∷ [])
    else if pname == names.ELEMENT_ARRAY_BUFFER_BINDING.0 then Some (name_of b.names b.element ∷ [])
    else if pname == names.CURRENT_PROGRAM.0 then Some (current_name p ∷ [])
    else None

-- textures
abbrev pub texture_binding : TextureTables → ℕ → Option (List ℕ)
texture_binding t pname =
    if pname == names.ACTIVE_TEXTURE.0 then Some ((TEXTURE0.0 + t.objects.units.active) ∷ [])
    else if pname == names.TEXTURE_BINDING_2D.0 then Some (bound_name t false ∷ [])
    else if pname == names.TEXTURE_BINDING_CUBE_MAP.0 then Some (bound_name t true ∷ [])
    else None

-- renderbuffers and framebuffers
abbrev pub target_binding : RenderbufferTables → FramebufferTables → ℕ → Option (List ℕ)
target_binding r f pname =
    if pname == names.RENDERBUFFER_BINDING.0 then Some (name_of r.names r.bound ∷ [])
    else if pname == names.FRAMEBUFFER_BINDING.0 then Some (name_of f.names f.bound ∷ [])
    else None

-- What this implementation has

-- the greatest sizes
abbrev pub size_constant : ℕ → Option (List ℕ)
size_constant pname =
    if pname == names.MAX_TEXTURE_SIZE.0 then Some (SIDE_LIMIT ∷ [])
    else if pname == names.MAX_CUBE_MAP_TEXTURE_SIZE.0 then Some (SIDE_LIMIT ∷ [])
    else if pname == names.MAX_RENDERBUFFER_SIZE.0 then Some (SIDE_LIMIT ∷ [])
    else if pname == names.MAX_VIEWPORT_DIMS.0 then Some (SIDE_LIMIT ∷ SIDE_LIMIT ∷ [])
    else if pname == names.ALIASED_POINT_SIZE_RANGE.0 then Some (ONE ∷ ONE ∷ [])
    else if pname == names.ALIASED_LINE_WIDTH_RANGE.0 then Some (ONE ∷ ONE ∷ [])
    else None

-- what programs can use
abbrev pub program_constant : ℕ → Option (List ℕ)
program_constant pname =
    if pname == names.MAX_VERTEX_ATTRIBS.0 then Some ((LAST_ATTRIBUTE + 1) ∷ [])
    else if pname == names.MAX_VERTEX_UNIFORM_VECTORS.0 then Some (UNIFORM_VECTORS ∷ [])
    else if pname == names.MAX_FRAGMENT_UNIFORM_VECTORS.0 then Some (UNIFORM_VECTORS ∷ [])
    else if pname == names.MAX_VARYING_VECTORS.0 then Some (VARYING_VECTORS ∷ [])
    else if pname == names.MAX_TEXTURE_IMAGE_UNITS.0 then Some ((LAST_UNIT + 1) ∷ [])
    else if pname == names.MAX_VERTEX_TEXTURE_IMAGE_UNITS.0 then Some ((LAST_UNIT + 1) ∷ [])
    else if pname == names.MAX_COMBINED_TEXTURE_IMAGE_UNITS.0 then Some ((LAST_UNIT + 1) ∷ [])
    else if pname == names.SHADER_COMPILER.0 then Some (1 ∷ [])
    else None

-- the bits of pixels, for whatever framebuffer is bound
abbrev pub bits_constant : ℕ → Option (List ℕ)
bits_constant pname =
    if pname == names.SUBPIXEL_BITS.0 then Some (4 ∷ [])
    else if pname == names.RED_BITS.0 then Some (8 ∷ [])
    else if pname == names.GREEN_BITS.0 then Some (8 ∷ [])
    else if pname == names.BLUE_BITS.0 then Some (8 ∷ [])
    else if pname == names.ALPHA_BITS.0 then Some (8 ∷ [])
    else if pname == names.DEPTH_BITS.0 then Some (16 ∷ [])
    else if pname == names.STENCIL_BITS.0 then Some (8 ∷ [])
    else if pname == names.SAMPLE_BUFFERS.0 then Some (0 ∷ [])
    else if pname == names.SAMPLES.0 then Some (0 ∷ [])
    else None

-- formats: no textures and no shaders are taken that were made elsewhere
abbrev pub format_constant : ℕ → Option (List ℕ)
format_constant pname =
    if pname == names.NUM_COMPRESSED_TEXTURE_FORMATS.0 then Some (0 ∷ [])
    else if pname == names.COMPRESSED_TEXTURE_FORMATS.0 then Some []
    else if pname == names.NUM_SHADER_BINARY_FORMATS.0 then Some (0 ∷ [])
    else if pname == names.SHADER_BINARY_FORMATS.0 then Some []
    else if pname == names.IMPLEMENTATION_COLOR_READ_FORMAT.0 then Some (RGBA.0 ∷ [])
    else if pname == names.IMPLEMENTATION_COLOR_READ_TYPE.0 then Some (UNSIGNED_BYTE.0 ∷ [])
    else None

-- no name is that of two
abbrev pub constant_state : ℕ → Option (List ℕ)
constant_state pname = or_else (size_constant pname) (or_else (program_constant pname) (or_else (bits_constant pname) (format_constant pname)))

-- The table

-- what can be asked for by name
pub record Queried : Type 0 where
  pub raster : RasterWords
  pub alignments : Alignments
  pub buffers : BufferTables
  pub textures : TextureTables
  pub renderbuffers : RenderbufferTables
  pub framebuffers : FramebufferTables
  pub programs : ProgramTables

-- the words of a name: floats as their patterns, booleans as 0 or 1
unfoldable pub state_named : Queried → ℕ → Option (List ℕ)
state_named s pname =
    or_else (raster_state s.raster s.alignments pname)
    (or_else (object_binding s.buffers s.programs pname)
    (or_else (texture_binding s.textures pname)
    (or_else (target_binding s.renderbuffers s.framebuffers pname) (constant_state pname))))

-- the names of state that is floats; all other state is whole numbers or booleans
abbrev pub float_names : List GlEnum
float_names =
    raster.BLEND_COLOR ∷ raster.COLOR_CLEAR_VALUE ∷ raster.DEPTH_CLEAR_VALUE ∷ raster.DEPTH_RANGE ∷ raster.LINE_WIDTH ∷ raster.POLYGON_OFFSET_FACTOR ∷ raster.POLYGON_OFFSET_UNITS ∷ raster.SAMPLE_COVERAGE_VALUE ∷ names.ALIASED_POINT_SIZE_RANGE ∷ names.ALIASED_LINE_WIDTH_RANGE ∷ []

-- Forms (section 6.1.2)

-- a whole number, as a signed one, or a boolean, as a float
abbrev pub float_of_word : ℕ → ℕ
float_of_word word = int_pattern (cast_signed w32 word)

-- false where it is 0
abbrev pub boolean_of_word : ℕ → ℕ
boolean_of_word word = if word == 0 then 0 else 1

abbrev pub boolean_of_float : ℕ → ℕ
boolean_of_float pattern = if is_zero_pattern pattern then 0 else 1

-- a word in the form of the call that asks for it, of state that is floats or is none
abbrev pub word_in_form : ValueForm → (floats : Bool) → ℕ → ℕ
word_in_form Integer floats word = word
word_in_form Boolean true word = boolean_of_float word
word_in_form Boolean false word = boolean_of_word word
word_in_form Float true word = word
word_in_form Float false word = float_of_word word

-- floats are not given as whole numbers
abbrev pub is_form_refused : ValueForm → (floats : Bool) → Bool
is_form_refused Integer floats = floats
is_form_refused Boolean floats = false
is_form_refused Float floats = false

-- a name that is none; floats where whole numbers are asked for
abbrev pub get_value_refusal : Queried → ValueForm → GlEnum → Option GlError
get_value_refusal s form pname = if is_none (state_named s pname.0) || is_form_refused form (is_one_of pname float_names) then Some InvalidEnum else None

abbrev pub get_value : Queried → ValueForm → GlEnum → List ℕ
get_value s form pname = map (word_in_form form (is_one_of pname float_names)) (unwrap_or (state_named s pname.0) [])
