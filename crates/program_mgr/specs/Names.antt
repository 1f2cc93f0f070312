-- The location that a name means (OpenGL ES 2.0.25, section 2.10.4): an array goes by its name, which ends in `[0]`, and by its name without
-- that; an element of it goes by the name with its number in place of the 0.
use Rattle.std.specs.Prelude.{ℕ, ℤ, pos, Bool, false, ◌+◌, ◌-◌, ◌==◌, nat_lt, if◌then◌else◌, List, [], ◌∷◌, length, take, drop, codes, nat_eq, Option, None, Some}
use Rattle.std.specs.Cmp.Lexicographic.{pointwise}
use Rattle.std.specs.Option.{option_map}
use Rattle.gl_plain.specs.declared.programs.Executable.{Executable}
use Rattle.gl_plain.specs.declared.programs.Uniform.{Uniform}
use Rattle.gl_plain.specs.Fields.{◌>>=◌, digit_zero, number_in}
use Rattle.gl_plain.specs.subjects.Links.{is_array, is_same_name}
use Rattle.gl_plain.specs.subjects.Programs.{ProgramTables, executable_in, program_at}

-- the byte of `[`
abbrev pub opening_bracket : ℕ
opening_bracket = 91

-- a 0 with more behind it
abbrev pub has_leading_zero : List ℕ → Bool
has_leading_zero [] = false
has_leading_zero (c ∷ []) = false
has_leading_zero (c ∷ d ∷ ds) = c == digit_zero

-- a number of 32 bits in decimal, without leading zeros
abbrev pub decimal_in : List ℕ → Option ℕ
decimal_in digits = if has_leading_zero digits then None else number_in digits

-- the number before a closing `]`
abbrev pub closed_number : List ℕ → Option ℕ
closed_number text = if pointwise nat_eq (drop (length text - 1) text) (codes "]") then decimal_in (take (length text - 1) text) else None

-- the element that is meant by what stands behind the name of an array: nothing means the first, and `[e]` means element e
abbrev pub element_behind : List ℕ → Option ℕ
element_behind [] = Some 0
element_behind (c ∷ cs) = if c == opening_bracket then closed_number cs else None

-- what stands behind a front
abbrev pub behind : List ℕ → List ℕ → Option (List ℕ)
behind front text = if pointwise nat_eq (take (length front) text) front then Some (drop (length front) text) else None

-- an element that is there
abbrev pub below : ℕ → ℕ → Option ℕ
below size element = if nat_lt element size then Some element else None

-- the name of an array without `[0]`
abbrev pub stem : Uniform → List ℕ
stem u = take (length u.name - 3) u.name

-- the element of a uniform that a name means, if it means one
abbrev pub element_named : Uniform → List ℕ → Option ℕ
element_named u name =
    if is_same_name u.name name then Some 0
    else if is_array u then (behind (stem u) name >>= element_behind) >>= below u.size else None

-- the location of an element of a uniform whose first location this is, or else another
abbrev pub location_or : ℕ → Option ℕ → Option ℕ → Option ℕ
location_or first None other = other
location_or first (Some element) other = Some (first + element)

-- the first uniform that has an element of the name decides; the locations of a uniform follow those of the uniform before it
abbrev pub location_from : List Uniform → List ℕ → ℕ → Option ℕ
location_from [] name first = None
location_from (u ∷ us) name first = location_or first (element_named u name) (location_from us name (first + u.size))

-- the location in an executable, if there is one
abbrev pub location_by : Option Executable → List ℕ → Option ℤ
location_by None name = None
location_by (Some e) name = option_map pos (location_from e.answer.uniforms name 0)

-- the location in a program by its name: none where it is no program, or is not linked
abbrev pub location_at : ProgramTables → ℕ → List ℕ → Option ℤ
location_at t program name = location_by (executable_in (program_at t program)) name
