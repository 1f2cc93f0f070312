-- The state of shaders and of programs that is asked for (OpenGL ES 2.0.25, sections 6.1.8 and 2.10).
use Rattle.std.specs.Prelude.{ℕ, ℤ, Bool, not, ◌+◌, ◌==◌, ◌&&◌, max, if◌then◌else◌, List, [], ◌∷◌, ◌++◌, length, map, Option, None, Some, is_some, unwrap_or}
use Rattle.std.specs.FinMap as table
use Rattle.gl_base.specs.declared.gl_enum.GlEnum.{GlEnum}
use Rattle.gl_base.specs.declared.query_enums.TheConstants as names
use Rattle.gl_plain.specs.declared.errors.GlError.{GlError}
use Rattle.gl_plain.specs.declared.errors.GlError.TheVariants.{InvalidEnum, InvalidOperation}
use Rattle.gl_plain.specs.declared.programs.Attribute.{Attribute}
use Rattle.gl_plain.specs.declared.programs.Executable.{Executable}
use Rattle.gl_plain.specs.declared.programs.Program.{Program}
use Rattle.gl_plain.specs.declared.programs.Shader.{Shader}
use Rattle.gl_plain.specs.declared.programs.Uniform.{Uniform}
use Rattle.gl_plain.specs.Bytes.{bytes_of_words, part}
use Rattle.gl_plain.specs.subjects.Links.{float_kinds, is_one_of, words_of}
use Rattle.gl_plain.specs.subjects.Parameters.{flag}
use Rattle.gl_plain.specs.subjects.Programs.{ProgramTables, executable_in, program_at, program_refusal, shader_refusal}
use Rattle.gl_plain.specs.subjects.Uniforms.{ElementPlace, place_of}
use Rattle.gl_plain.specs.subjects.Values.{float_of_word}
use Rattle.gl_plain.specs.Words.{as_word}

-- how many bytes a text has with a closing zero, and 0 where there is no text
abbrev pub closed_length : ℕ → ℕ
closed_length n = as_word (if n == 0 then 0 else n + 1)

-- GetShaderiv

abbrev pub is_shader_parameter : GlEnum → Bool
is_shader_parameter pname =
    is_one_of pname (names.SHADER_TYPE ∷ names.DELETE_STATUS ∷ names.COMPILE_STATUS ∷ names.INFO_LOG_LENGTH ∷ names.SHADER_SOURCE_LENGTH ∷ [])

-- a name of state that is none; a name that is none of a shader
abbrev pub get_shader_refusal : ProgramTables → ℕ → GlEnum → Option GlError
get_shader_refusal t id pname = if is_shader_parameter pname then shader_refusal t id else Some InvalidEnum

abbrev pub parameter_of_shader : Shader → GlEnum → ℕ
parameter_of_shader s pname =
    if pname.0 == names.SHADER_TYPE.0 then s.kind.0
    else if pname.0 == names.DELETE_STATUS.0 then flag s.is_deleted
    else if pname.0 == names.COMPILE_STATUS.0 then flag s.is_compiled
    else if pname.0 == names.INFO_LOG_LENGTH.0 then closed_length (length s.log)
    else closed_length (length s.source)

abbrev pub shader_parameter : Option Shader → GlEnum → ℕ
shader_parameter None pname = 0
shader_parameter (Some s) pname = parameter_of_shader s pname

-- GetShaderInfoLog and GetShaderSource

abbrev pub shader_log : Option Shader → List ℕ
shader_log None = []
shader_log (Some s) = s.log

abbrev pub shader_source : Option Shader → List ℕ
shader_source None = []
shader_source (Some s) = s.source

-- What a link found

abbrev pub active_attributes : Option Executable → List Attribute
active_attributes None = []
active_attributes (Some e) = e.answer.attributes

abbrev pub active_uniforms : Option Executable → List Uniform
active_uniforms None = []
active_uniforms (Some e) = e.answer.uniforms

-- the bytes of the longest name
abbrev pub longest_attribute : List Attribute → ℕ
longest_attribute [] = 0
longest_attribute (a ∷ as') = max (length a.name) (longest_attribute as')

abbrev pub longest_uniform : List Uniform → ℕ
longest_uniform [] = 0
longest_uniform (u ∷ us) = max (length u.name) (longest_uniform us)

-- GetProgramiv

abbrev pub is_program_parameter : GlEnum → Bool
is_program_parameter pname =
    is_one_of pname (names.DELETE_STATUS ∷ names.LINK_STATUS ∷ names.VALIDATE_STATUS ∷ names.INFO_LOG_LENGTH ∷ names.ATTACHED_SHADERS ∷ names.ACTIVE_UNIFORMS ∷ names.ACTIVE_UNIFORM_MAX_LENGTH ∷ names.ACTIVE_ATTRIBUTES ∷ names.ACTIVE_ATTRIBUTE_MAX_LENGTH ∷ [])

-- a name of state that is none; a name that is none of a program
abbrev pub get_program_refusal : ProgramTables → ℕ → GlEnum → Option GlError
get_program_refusal t id pname = if is_program_parameter pname then program_refusal t id else Some InvalidEnum

abbrev pub parameter_of_program : Program → GlEnum → ℕ
parameter_of_program p pname =
    if pname.0 == names.DELETE_STATUS.0 then flag p.is_deleted
    else if pname.0 == names.LINK_STATUS.0 then flag (is_some p.executable)
    else if pname.0 == names.VALIDATE_STATUS.0 then flag p.is_valid
    else if pname.0 == names.INFO_LOG_LENGTH.0 then closed_length (length p.log)
    else if pname.0 == names.ATTACHED_SHADERS.0 then as_word (length p.attached)
    else if pname.0 == names.ACTIVE_UNIFORMS.0 then as_word (length (active_uniforms p.executable))
    else if pname.0 == names.ACTIVE_UNIFORM_MAX_LENGTH.0 then closed_length (longest_uniform (active_uniforms p.executable))
    else if pname.0 == names.ACTIVE_ATTRIBUTES.0 then as_word (length (active_attributes p.executable))
    else closed_length (longest_attribute (active_attributes p.executable))

abbrev pub program_parameter : Option Program → GlEnum → ℕ
program_parameter None pname = 0
program_parameter (Some p) pname = parameter_of_program p pname

-- GetProgramInfoLog

abbrev pub program_log : Option Program → List ℕ
program_log None = []
program_log (Some p) = p.log

-- GetProgramTable: words of four bytes, the lowest first, and names without a closing zero

-- an attribute: its type, its location, the length of its name, and the name
abbrev pub attribute_entry : Attribute → List ℕ
attribute_entry a = bytes_of_words (a.kind.0 ∷ a.location ∷ as_word (length a.name) ∷ []) ++ a.name

abbrev pub attribute_entries : List Attribute → List ℕ
attribute_entries [] = []
attribute_entries (a ∷ as') = attribute_entry a ++ attribute_entries as'

-- a uniform: its type, its size, its first location, the length of its name, and the name
abbrev pub uniform_entry : ℕ → Uniform → List ℕ
uniform_entry location u = bytes_of_words (u.kind.0 ∷ u.size ∷ location ∷ as_word (length u.name) ∷ []) ++ u.name

-- the locations of a uniform follow those of the uniform before it
abbrev pub uniform_entries : ℕ → List Uniform → List ℕ
uniform_entries location [] = []
uniform_entries location (u ∷ us) = uniform_entry location u ++ uniform_entries (location + u.size) us

-- whether it is linked, how many attributes there are, and each, and how many uniforms, and each
abbrev pub table_of : Option Executable → List ℕ
table_of e =
    bytes_of_words (flag (is_some e) ∷ as_word (length (active_attributes e)) ∷ []) ++ attribute_entries (active_attributes e)
    ++ bytes_of_words (as_word (length (active_uniforms e)) ∷ []) ++ uniform_entries 0 (active_uniforms e)

-- GetAttachedShaders

-- the name of the object with this number
abbrev pub name_in : ProgramTables → ℕ → ℕ
name_in t number = unwrap_or (table.get t.ids number) 0

abbrev pub attached_to : Option Program → List ℕ
attached_to None = []
attached_to (Some p) = p.attached

-- the names of the shaders that are attached, in the order in which they were, as words of four bytes
abbrev pub attached_shaders : ProgramTables → ℕ → List ℕ
attached_shaders t id = bytes_of_words (map (name_in t) (attached_to (program_at t id)))

-- GetUniform

abbrev pub is_float_uniform : ElementPlace → Bool
is_float_uniform p = is_one_of p.uniform.kind float_kinds

-- no element there, or floats where whole numbers are asked for
abbrev pub element_refusal : Option ElementPlace → (float : Bool) → Option GlError
element_refusal None float = Some InvalidOperation
element_refusal (Some p) float = if not float && is_float_uniform p then Some InvalidOperation else None

abbrev pub uniform_refusal_in : Option Executable → ℤ → (float : Bool) → Option GlError
uniform_refusal_in None location float = Some InvalidOperation
uniform_refusal_in (Some e) location float = element_refusal (place_of e.answer.uniforms location) float

-- one code, or else another
abbrev pub or_refused : Option GlError → Option GlError → Option GlError
or_refused (Some e) other = Some e
or_refused None other = other

-- a name that is none of a program; a program that is not linked, an unknown location, floats where whole numbers are asked for
abbrev pub get_uniform_refusal : ProgramTables → ℕ → ℤ → (float : Bool) → Option GlError
get_uniform_refusal t id location float = or_refused (program_refusal t id) (uniform_refusal_in (executable_in (program_at t id)) location float)

-- the words of the element
abbrev pub element_words : List ℕ → ElementPlace → List ℕ
element_words values p = part values p.word (words_of p.uniform.kind)

-- whole numbers and booleans become floats where floats are asked for
abbrev pub element_values : List ℕ → Option ElementPlace → (float : Bool) → List ℕ
element_values values None float = []
element_values values (Some p) float = if float && not (is_float_uniform p) then map float_of_word (element_words values p) else element_words values p

abbrev pub uniform_values : Option Executable → ℤ → (float : Bool) → List ℕ
uniform_values None location float = []
uniform_values (Some e) location float = element_values e.values (place_of e.answer.uniforms location) float

abbrev pub get_uniform : ProgramTables → ℕ → ℤ → (float : Bool) → List ℕ
get_uniform t id location float = uniform_values (executable_in (program_at t id)) location float
