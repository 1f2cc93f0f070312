-- What a linker says of a program: its active attributes and uniforms (OpenGL ES 2.0.25, section 2.10.4).
use Rattle.std.specs.Prelude.{ℕ, Bool, true, false, not, ◌+◌, ◌-◌, ◌*◌, ◌==◌, ◌&&◌, ◌||◌, nat_lt, nat_le, if◌then◌else◌, List, [], ◌∷◌, ◌++◌, length, drop, codes, nat_eq, sum_by}
use Rattle.std.specs.List.{list_any, list_all}
use Rattle.std.specs.Cmp.Lexicographic.{pointwise}
use Rattle.gl_base.specs.declared.gl_enum.GlEnum.{GlEnum}
use Rattle.gl_base.specs.declared.enums.TheConstants.{FLOAT, FLOAT_VEC2, FLOAT_VEC3, FLOAT_VEC4, FLOAT_MAT2, FLOAT_MAT3, FLOAT_MAT4, INT, INT_VEC2, INT_VEC3, INT_VEC4, BOOL, BOOL_VEC2, BOOL_VEC3, BOOL_VEC4, SAMPLER_2D, SAMPLER_CUBE}
use Rattle.gl_base.specs.declared.limits.TheConstants.{DATA_LIMIT, LAST_ATTRIBUTE, NAME_LENGTH_LIMIT, UNIFORM_LIMIT}
use Rattle.gl_plain.specs.declared.programs.Attribute.{Attribute}
use Rattle.gl_plain.specs.declared.programs.Uniform.{Uniform}
use Rattle.gl_plain.specs.declared.programs.LinkAnswer.{LinkAnswer}
use Rattle.gl_plain.specs.declared.programs.Verdict.{Verdict}

-- the enum is among these
abbrev pub is_one_of : GlEnum → List GlEnum → Bool
is_one_of e [] = false
is_one_of e (x ∷ xs) = (e.0 == x.0) || is_one_of e xs

-- floats and matrices of floats, which attributes can be
abbrev pub float_kinds : List GlEnum
float_kinds = FLOAT ∷ FLOAT_VEC2 ∷ FLOAT_VEC3 ∷ FLOAT_VEC4 ∷ FLOAT_MAT2 ∷ FLOAT_MAT3 ∷ FLOAT_MAT4 ∷ []

-- what uniforms can be besides
abbrev pub other_kinds : List GlEnum
other_kinds = INT ∷ INT_VEC2 ∷ INT_VEC3 ∷ INT_VEC4 ∷ BOOL ∷ BOOL_VEC2 ∷ BOOL_VEC3 ∷ BOOL_VEC4 ∷ SAMPLER_2D ∷ SAMPLER_CUBE ∷ []

abbrev pub is_attribute_type : GlEnum → Bool
is_attribute_type kind = is_one_of kind float_kinds

abbrev pub is_uniform_type : GlEnum → Bool
is_uniform_type kind = is_one_of kind float_kinds || is_one_of kind other_kinds

abbrev pub is_sampler : GlEnum → Bool
is_sampler kind = (kind.0 == SAMPLER_2D.0) || (kind.0 == SAMPLER_CUBE.0)

abbrev pub is_boolean : GlEnum → Bool
is_boolean kind = is_one_of kind (BOOL ∷ BOOL_VEC2 ∷ BOOL_VEC3 ∷ BOOL_VEC4 ∷ [])

-- the columns of a matrix, and 1 of what is none
abbrev pub columns : GlEnum → ℕ
columns kind =
    if kind.0 == FLOAT_MAT2.0 then 2
    else if kind.0 == FLOAT_MAT3.0 then 3
    else if kind.0 == FLOAT_MAT4.0 then 4 else 1

-- the words of a vector, or of a column of a matrix, and 1 of what is neither
abbrev pub rows : GlEnum → ℕ
rows kind =
    if is_one_of kind (FLOAT_VEC2 ∷ FLOAT_MAT2 ∷ INT_VEC2 ∷ BOOL_VEC2 ∷ []) then 2
    else if is_one_of kind (FLOAT_VEC3 ∷ FLOAT_MAT3 ∷ INT_VEC3 ∷ BOOL_VEC3 ∷ []) then 3
    else if is_one_of kind (FLOAT_VEC4 ∷ FLOAT_MAT4 ∷ INT_VEC4 ∷ BOOL_VEC4 ∷ []) then 4 else 1

-- the words of one element
abbrev pub words_of : GlEnum → ℕ
words_of kind = columns kind * rows kind

-- the words of all elements of these uniforms
abbrev pub words_in : List Uniform → ℕ
words_in [] = 0
words_in (u ∷ us) = u.size * words_of u.kind + words_in us

-- a uniform is an array exactly where its name ends in `[0]`
abbrev pub is_array : Uniform → Bool
is_array u = nat_le 3 (length u.name) && pointwise nat_eq (drop (length u.name - 3) u.name) (codes "[0]")

-- Which answers a linker may give

-- a letter, a digit, `_`, `.`, `[` or `]`
abbrev pub is_name_byte : ℕ → Bool
is_name_byte c =
    (nat_le 97 c && nat_le c 122) || (nat_le 65 c && nat_le c 90) || (nat_le 48 c && nat_le c 57) || (c == 95) || (c == 46) || (c == 91) || (c == 93)

-- 1 to 255 such bytes
abbrev pub is_variable_name : List ℕ → Bool
is_variable_name name = nat_lt 0 (length name) && nat_le (length name) NAME_LENGTH_LIMIT && list_all is_name_byte name

-- the names are the same
abbrev pub is_same_name : List ℕ → List ℕ → Bool
is_same_name a b = pointwise nat_eq a b

-- the attributes have the same name, or a location in common
abbrev pub conflict : Attribute → Attribute → Bool
conflict a b = is_same_name a.name b.name || (nat_lt a.location (b.location + columns b.kind) && nat_lt b.location (a.location + columns a.kind))

-- an attribute by itself: its locations are below 16
abbrev pub is_attribute : Attribute → Bool
is_attribute a = is_variable_name a.name && is_attribute_type a.kind && nat_le (a.location + columns a.kind) (LAST_ATTRIBUTE + 1)

-- an attribute that may stand behind these
abbrev pub may_follow : List Attribute → Attribute → Bool
may_follow before a = is_attribute a && not (list_any (λ b. conflict b a) before)

-- the elements of these uniforms
abbrev pub elements_in : List Uniform → ℕ
elements_in uniforms = sum_by (λ (u : Uniform). u.size) uniforms

-- a uniform by itself: only an array has more than one element
abbrev pub is_uniform : Uniform → Bool
is_uniform u = is_variable_name u.name && is_uniform_type u.kind && nat_le 1 u.size && (is_array u || (u.size == 1))

-- a uniform that may stand behind these: all have at most 1,024 elements
abbrev pub may_follow_uniforms : List Uniform → Uniform → Bool
may_follow_uniforms before u =
    is_uniform u && not (list_any (λ (b : Uniform). is_same_name b.name u.name) before) && nat_le (elements_in before + u.size) UNIFORM_LIMIT

-- each may stand behind those before it
abbrev pub are_attributes : List Attribute → List Attribute → Bool
are_attributes before [] = true
are_attributes before (a ∷ as') = may_follow before a && are_attributes (before ++ a ∷ []) as'

abbrev pub are_uniforms : List Uniform → List Uniform → Bool
are_uniforms before [] = true
are_uniforms before (u ∷ us) = may_follow_uniforms before u && are_uniforms (before ++ u ∷ []) us

-- a log has at most 67,108,864 bytes
abbrev pub is_log : List ℕ → Bool
is_log log = nat_le (length log) DATA_LIMIT

-- a failed link has no attributes and no uniforms
abbrev pub has_lists_if_ok : LinkAnswer → Bool
has_lists_if_ok a = a.ok || ((length a.attributes == 0) && (length a.uniforms == 0))

-- an answer that a linker may give
abbrev pub is_sound_link : LinkAnswer → Bool
is_sound_link a = is_log a.log && has_lists_if_ok a && are_attributes [] a.attributes && are_uniforms [] a.uniforms

-- it went well, and there is nothing to say
abbrev pub default_verdict : Verdict
default_verdict = record { ok = true; log = [] }

-- it went well, and nothing is active
abbrev pub default_link : LinkAnswer
default_link = record { ok = true; log = []; attributes = []; uniforms = [] }
