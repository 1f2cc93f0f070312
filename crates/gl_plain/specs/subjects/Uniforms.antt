-- The values of uniforms in the executable that is in use (OpenGL ES 2.0.25, section 2.10.4).
use Rattle.std.specs.Prelude.{◌≡◌, ◌≤◌, ℕ, ℤ, pos, negsuc, Bool, true, false, not, ◌+◌, ◌-◌, ◌*◌, ◌==◌, ◌&&◌, ◌||◌, nat_lt, nat_le, min, if◌then◌else◌, List, [], ◌∷◌, length, map, Option, None, Some}
use Rattle.std.specs.List.{list_any}
use Rattle.std.specs.Option.{option_map}
use Rattle.gl_base.specs.declared.gl_enum.GlEnum.{GlEnum}
use Rattle.gl_base.specs.declared.enums.TheConstants.{FLOAT, FLOAT_VEC2, FLOAT_VEC3, FLOAT_VEC4, FLOAT_MAT2, FLOAT_MAT3, FLOAT_MAT4, INT, INT_VEC2, INT_VEC3, INT_VEC4, BOOL, BOOL_VEC2, BOOL_VEC3, BOOL_VEC4, NEGATIVE_ZERO}
use Rattle.gl_base.specs.declared.limits.TheConstants.{LAST_UNIT, UNIFORM_LIMIT}
use Rattle.gl_plain.specs.declared.programs.Executable.{Executable}
use Rattle.gl_plain.specs.declared.programs.Uniform.{Uniform}
use Rattle.gl_plain.specs.declared.commands.DataWords.{DataWords}
use Rattle.gl_plain.specs.declared.errors.GlError.{GlError}
use Rattle.gl_plain.specs.declared.errors.GlError.TheVariants.{InvalidValue, InvalidOperation}
use Rattle.gl_plain.specs.declared.driver_calls.DriverCall.{DriverCall}
use Rattle.gl_plain.specs.declared.driver_calls.DriverCall.TheVariants as driver
use Rattle.gl_plain.specs.declared.driver_calls.ProgramDriver.TheVariants as calls
use Rattle.gl_plain.specs.Bytes.{overwritten, words_from}
use Rattle.gl_plain.specs.Words.{is_negative, natural}
use Rattle.gl_plain.specs.subjects.Data.{has_just_needed_data}
use Rattle.gl_plain.specs.subjects.Links.{words_of, is_array, is_sampler, is_boolean}
use Rattle.gl_plain.specs.subjects.Programs.{ProgramTables, changed_at}

-- What is given: kinds 1 to 4 are so many floats, 5 to 8 are 1 to 4 signed numbers, 9 to 11 are square matrices of 2 to 4 columns

abbrev pub is_given_kind : ℕ → Bool
is_given_kind kind = nat_le 1 kind && nat_le kind 11

abbrev pub is_matrix : ℕ → Bool
is_matrix kind = nat_le 9 kind

abbrev pub is_integer : ℕ → Bool
is_integer kind = nat_le 5 kind && nat_le kind 8

-- the words of one element that is given
abbrev pub given_words : ℕ → ℕ
given_words kind =
    if nat_le kind 4 then kind
    else if nat_le kind 8 then kind - 4
    else if kind == 9 then 4
    else if kind == 10 then 9 else 16

-- the uniforms of floats, matrices or signed numbers that a kind suits
abbrev pub own_type : ℕ → GlEnum
own_type kind =
    if kind == 1 then FLOAT
    else if kind == 2 then FLOAT_VEC2
    else if kind == 3 then FLOAT_VEC3
    else if kind == 4 then FLOAT_VEC4
    else if kind == 5 then INT
    else if kind == 6 then INT_VEC2
    else if kind == 7 then INT_VEC3
    else if kind == 8 then INT_VEC4
    else if kind == 9 then FLOAT_MAT2
    else if kind == 10 then FLOAT_MAT3 else FLOAT_MAT4

-- the uniforms of booleans that a kind suits, where it is no matrix
abbrev pub boolean_type : ℕ → GlEnum
boolean_type kind =
    if given_words kind == 1 then BOOL
    else if given_words kind == 2 then BOOL_VEC2
    else if given_words kind == 3 then BOOL_VEC3 else BOOL_VEC4

-- a boolean takes floats and signed numbers, a sampler one signed number, and any other uniform its own kind
abbrev pub suits : ℕ → GlEnum → Bool
suits kind uniform =
    (uniform.0 == (own_type kind).0) || (not (is_matrix kind) && (uniform.0 == (boolean_type kind).0)) || ((kind == 5) && is_sampler uniform)

-- how many elements are given: no more than there can be, and none of a negative count
abbrev pub given_count : ℤ → ℕ
given_count count = min (natural count) UNIFORM_LIMIT

-- the bytes of what is given
abbrev pub uniform_needed : ℕ → ℤ → ℕ
uniform_needed kind count = 4 * (given_words kind * given_count count)

-- a kind that is none; words that are not those of as many bytes as are needed
abbrev pub uniform_is_bad : ℕ → ℤ → DataWords → Bool
uniform_is_bad kind count words = not (is_given_kind kind && has_just_needed_data words (uniform_needed kind count))

-- Locations

-- an element of a uniform: the uniform, the number of the element, and where its words begin
pub record ElementPlace : Type 0 where
  pub uniform : Uniform
  pub element : ℕ
  pub word : ℕ

-- the element at a location: the locations of a uniform follow those of the uniform before it
abbrev pub place_from : List Uniform → ℕ → ℕ → Option ElementPlace
place_from [] location word = None
place_from (u ∷ us) location word =
    if nat_lt location u.size then Some (record { uniform = u; element = location; word = word + location * words_of u.kind })
    else place_from us (location - u.size) (word + u.size * words_of u.kind)

abbrev pub place_of : List Uniform → ℤ → Option ElementPlace
place_of uniforms (pos location) = place_from uniforms location 0
place_of uniforms (negsuc n) = None

-- What is stored

-- how many of the elements that are given the uniform has from this one on; the others are ignored
abbrev pub stored_count : ElementPlace → ℤ → ℕ
stored_count p count = min (given_count count) (p.uniform.size - p.element)

-- a boolean is 0 where what is given is zero, and else 1
abbrev pub as_boolean : ℕ → ℕ → ℕ
as_boolean kind word = if (word == 0) || (not (is_integer kind) && (word == NEGATIVE_ZERO)) then 0 else 1

abbrev pub as_stored : GlEnum → ℕ → ℕ → ℕ
as_stored uniform kind word = if is_boolean uniform then as_boolean kind word else word

-- the words that are given for the elements that are stored
abbrev pub words_given : ElementPlace → ℕ → ℤ → List ℕ → List ℕ
words_given p kind count bytes = words_from bytes 0 (given_words kind * stored_count p count)

-- the words that are stored
abbrev pub words_stored : ElementPlace → ℕ → ℤ → List ℕ → List ℕ
words_stored p kind count bytes = map (as_stored p.uniform.kind kind) (words_given p kind count bytes)

-- Refusal

-- a texture unit past the last
abbrev pub has_no_unit : List ℕ → Bool
has_no_unit words = list_any (λ word. nat_lt LAST_UNIT word) words

-- a kind that does not suit; several elements for what is no array; a value of a sampler that would be stored and is no texture unit
abbrev pub element_refusal : ElementPlace → ℕ → ℤ → List ℕ → Option GlError
element_refusal p kind count bytes =
    if not (suits kind p.uniform.kind) then Some InvalidOperation
    else if nat_lt 1 (natural count) && not (is_array p.uniform) then Some InvalidOperation
    else if is_sampler p.uniform.kind && has_no_unit (words_given p kind count bytes) then Some InvalidValue else None

abbrev pub place_refusal : Option ElementPlace → ℕ → ℤ → List ℕ → Option GlError
place_refusal None kind count bytes = Some InvalidOperation
place_refusal (Some p) kind count bytes = element_refusal p kind count bytes

-- the location -1, which is ignored
abbrev pub is_nowhere : ℤ → Bool
is_nowhere (pos n) = false
is_nowhere (negsuc n) = n == 0

-- with an executable in use: the location -1 is ignored
abbrev pub located_refusal : Option Executable → ℤ → ℕ → ℤ → List ℕ → Option GlError
located_refusal None location kind count bytes = Some InvalidOperation
located_refusal (Some e) location kind count bytes = if is_nowhere location then None else place_refusal (place_of e.answer.uniforms location) kind count bytes

-- a negative count; a matrix to be transposed; and then no current program, an unknown location, and what the element refuses
abbrev pub uniform_refusal : Option Executable → ℤ → ℕ → ℤ → Bool → List ℕ → Option GlError
uniform_refusal installed location kind count transpose bytes =
    if is_negative count then Some InvalidValue
    else if transpose && is_matrix kind then Some InvalidValue
    else located_refusal installed location kind count bytes

-- Effect

-- the values with those of an element and the next ones
abbrev pub values_by : Option ElementPlace → ℕ → ℤ → List ℕ → List ℕ → List ℕ
values_by None kind count bytes values = values
values_by (Some p) kind count bytes values = overwritten values p.word (words_stored p kind count bytes)

abbrev pub with_uniform : ℤ → ℕ → ℤ → List ℕ → Executable → Executable
with_uniform location kind count bytes e = record e { values = values_by (place_of e.answer.uniforms location) kind count bytes e.values }

-- the executable that is in use has the values, and so has the current program, where it is linked: it is the same executable
abbrev pub uniform_effect : ProgramTables → ℤ → ℕ → ℤ → List ℕ → ProgramTables
uniform_effect t location kind count bytes = record t {
  programs = changed_at t.programs t.current (λ p. record p { executable = option_map (with_uniform location kind count bytes) p.executable });
  installed = option_map (with_uniform location kind count bytes) t.installed;
}

-- The driver call

-- at the location -1 there is none
abbrev pub uniform_calls : ℤ → ℕ → ℤ → List ℕ → List DriverCall
uniform_calls location kind count bytes =
    if is_nowhere location then [] else driver.Program (calls.Uniform location kind (pos (given_count count)) bytes) ∷ []

-- the element takes what is given: as many bytes as the elements have, several only of an array, and texture units for a sampler
pub record TakesElements (p : ElementPlace) (kind : ℕ) (count : ℤ) (bytes : List ℕ) : Type 0 where
  pub suited : suits kind p.uniform.kind ≡ true
  pub several : (nat_lt 1 (natural count) && not (is_array p.uniform)) ≡ false
  pub units : (is_sampler p.uniform.kind && has_no_unit (words_given p kind count bytes)) ≡ false
  pub size : length bytes ≡ 4 * (given_words kind * natural count)
  pub few : natural count ≤ UNIFORM_LIMIT
  pub some : is_negative count ≡ false
  pub known : is_given_kind kind ≡ true

abbrev pub TakesAt : Option ElementPlace → ℕ → ℤ → List ℕ → Type 0
TakesAt None kind count bytes = ⊥
TakesAt (Some p) kind count bytes = TakesElements p kind count bytes

-- there is an executable in use, and the location is one of its uniforms'
abbrev pub IsUniformAllowed : Option Executable → ℤ → ℕ → ℤ → List ℕ → Type 0
IsUniformAllowed None location kind count bytes = ⊥
IsUniformAllowed (Some e) location kind count bytes = TakesAt (place_of e.answer.uniforms location) kind count bytes
