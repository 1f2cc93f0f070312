-- Worked rows on shaders, programs and uniforms, as the definitions answer them.
use Rattle.std.proofs.Common.{◌≡◌, ℕ, ℤ, pos, negsuc, true, false, List, [], ◌∷◌, ◌++◌, Option, None, Some, refl, ◌∙◌, arith}
use Rattle.std.specs.Prelude.{codes, replicate}
use Rattle.std.specs.Ordering.{nat_cmp}
use Rattle.std.specs.FinMap as map
use Rattle.gl_base.proofs.Found.{get-insert_here, get-insert_other, get-remove_here}
use Rattle.gl_base.specs.declared.gl_enum.GlEnum.{GlEnum}
use Rattle.gl_base.specs.declared.enums.TheConstants.{FLOAT, FLOAT_VEC2, FLOAT_VEC3, FLOAT_VEC4, FLOAT_MAT2, FLOAT_MAT3, FLOAT_MAT4, INT, INT_VEC2, INT_VEC4, BOOL, BOOL_VEC2, BOOL_VEC4, SAMPLER_2D, SAMPLER_CUBE, VERTEX_SHADER, FRAGMENT_SHADER, NEGATIVE_ZERO}
use Rattle.gl_plain.specs.declared.objects.Name.{Name}
use Rattle.gl_plain.specs.declared.programs.Attribute.{Attribute}
use Rattle.gl_plain.specs.declared.programs.Executable.{Executable}
use Rattle.gl_plain.specs.declared.programs.LinkAnswer.{LinkAnswer}
use Rattle.gl_plain.specs.declared.programs.Program.{Program}
use Rattle.gl_plain.specs.declared.programs.Shader.{Shader}
use Rattle.gl_plain.specs.declared.programs.Uniform.{Uniform}
use Rattle.gl_plain.specs.declared.errors.GlError.TheVariants.{InvalidEnum, InvalidValue, InvalidOperation}
use Rattle.gl_plain.specs.declared.commands.DataWords.{DataWords}
use Rattle.gl_plain.specs.declared.commands.Command.TheVariants.{Object}
use Rattle.gl_plain.specs.declared.commands.ObjectCommand.TheVariants as command
use Rattle.gl_plain.specs.Bytes.{bytes_of_words}
use Rattle.gl_plain.specs.Commands.{command_in}
use Rattle.gl_plain.specs.subjects.Links.{columns, rows, words_of, words_in, is_array, is_variable_name, conflict, is_attribute, is_uniform, are_uniforms, is_sound_link, default_link}
use Rattle.gl_plain.specs.subjects.Programs.{ProgramTables, no_programs, new_shader, new_program, object_name, create_is_bad, create_shader_refusal, create_program_effect, shader_refusal, program_refusal, shader_source_effect, compile_shader_effect, released_by, delete_shader_refusal, delete_shader_by, delete_program_refusal, attach_refusal_by, detach_refusal_by, without, bind_attrib_location_refusal, can_link, executable_of, link_program_by, link_program_effect, failed_link, use_program_refusal, executable_at}
use Rattle.gl_plain.specs.subjects.Uniforms.{is_given_kind, given_words, own_type, suits, uniform_needed, uniform_is_bad, ElementPlace, place_of, as_stored, uniform_refusal, with_uniform, uniform_effect, uniform_calls}

-- Kinds

-- a matrix has its columns one behind the other; a sampler is one word
words_of_kinds : (words_of FLOAT_MAT3 ≡ 9) × (columns FLOAT_MAT3 ≡ 3) × (rows FLOAT_MAT3 ≡ 3) × (words_of FLOAT_VEC3 ≡ 3) × (columns FLOAT_VEC3 ≡ 1) × (words_of FLOAT_MAT4 ≡ 16)
    × (words_of BOOL_VEC2 ≡ 2) × (words_of INT_VEC4 ≡ 4) × (words_of FLOAT ≡ 1) × (words_of SAMPLER_2D ≡ 1) × (words_of SAMPLER_CUBE ≡ 1)
words_of_kinds = (refl, refl, refl, refl, refl, refl, refl, refl, refl, refl, refl)

-- there are the kinds 1 to 11, and each gives as many words as the uniform that it suits has
kinds_given : (is_given_kind 0 ≡ false) × (is_given_kind 1 ≡ true) × (is_given_kind 11 ≡ true) × (is_given_kind 12 ≡ false)
kinds_given = (refl, refl, refl, refl)

abbrev GivesWords : ℕ → ℕ → Type 0
GivesWords kind words = (given_words kind ≡ words) × (words_of (own_type kind) ≡ words)

words_that_are_given : GivesWords 1 1 × GivesWords 2 2 × GivesWords 3 3 × GivesWords 4 4 × GivesWords 5 1 × GivesWords 6 2 × GivesWords 7 3 × GivesWords 8 4 × GivesWords 9 4 × GivesWords 10 9 × GivesWords 11 16
words_that_are_given = ((refl, refl), (refl, refl), (refl, refl), (refl, refl), (refl, refl), (refl, refl), (refl, refl), (refl, refl), (refl, refl), (refl, refl), (refl, refl))

-- a boolean takes floats and signed numbers of its size, a sampler one signed number, and any other uniform its own kind
kinds_that_suit : (suits 2 FLOAT_VEC2 ≡ true) × (suits 6 FLOAT_VEC2 ≡ false) × (suits 6 INT_VEC2 ≡ true) × (suits 2 INT_VEC2 ≡ false) × (suits 2 BOOL_VEC2 ≡ true) × (suits 6 BOOL_VEC2 ≡ true) × (suits 3 BOOL_VEC2 ≡ false)
    × (suits 9 FLOAT_MAT2 ≡ true) × (suits 4 FLOAT_MAT2 ≡ false) × (suits 9 BOOL_VEC4 ≡ false) × (suits 5 SAMPLER_2D ≡ true) × (suits 1 SAMPLER_2D ≡ false) × (suits 6 SAMPLER_CUBE ≡ false)
kinds_that_suit = (refl, refl, refl, refl, refl, refl, refl, refl, refl, refl, refl, refl, refl)

-- Names

abbrev uniform : List ℕ → GlEnum → ℕ → Uniform
uniform name kind size = record { name = name; kind = kind; size = size }

-- an array's name ends in `[0]`
arrays : (is_array (uniform (codes "a[0]") FLOAT 1) ≡ true) × (is_array (uniform (codes "a") FLOAT 1) ≡ false) × (is_array (uniform (codes "a[1]") FLOAT 1) ≡ false) × (is_array (uniform (codes "a[0].b") FLOAT 1) ≡ false)
    × (is_array (uniform (codes "0]") FLOAT 1) ≡ false)
arrays = (refl, refl, refl, refl, refl)

-- only an array has several elements
sizes : (is_uniform (uniform (codes "a[0]") FLOAT 3) ≡ true) × (is_uniform (uniform (codes "a") FLOAT 3) ≡ false) × (is_uniform (uniform (codes "a") FLOAT 1) ≡ true) × (is_uniform (uniform (codes "a") FLOAT 0) ≡ false)
sizes = (refl, refl, refl, refl)

-- names are 1 to 255 bytes of letters, digits and few others
names : (is_variable_name (codes "light[2].colour_1") ≡ true) × (is_variable_name [] ≡ false) × (is_variable_name (codes "a b") ≡ false) × (is_variable_name (replicate 255 97) ≡ true) × (is_variable_name (replicate 256 97) ≡ false)
names = (refl, refl, refl, refl, refl)

-- Links

abbrev attribute : List ℕ → GlEnum → ℕ → Attribute
attribute name kind location = record { name = name; kind = kind; location = location }

-- a matrix takes a location for each column
columns_in_conflict : (conflict (attribute (codes "m") FLOAT_MAT3 2) (attribute (codes "a") FLOAT 4) ≡ true) × (conflict (attribute (codes "m") FLOAT_MAT3 2) (attribute (codes "a") FLOAT 5) ≡ false)
    × (conflict (attribute (codes "m") FLOAT_MAT2 1) (attribute (codes "a") FLOAT_VEC4 2) ≡ true) × (conflict (attribute (codes "m") FLOAT_MAT2 0) (attribute (codes "a") FLOAT_VEC4 2) ≡ false)
    × (conflict (attribute (codes "a") FLOAT 0) (attribute (codes "a") FLOAT 9) ≡ true)
columns_in_conflict = (refl, refl, refl, refl, refl)

-- all columns lie below location 16, and attributes are floats
attributes_by_themselves : (is_attribute (attribute (codes "m") FLOAT_MAT4 12) ≡ true) × (is_attribute (attribute (codes "m") FLOAT_MAT4 13) ≡ false) × (is_attribute (attribute (codes "a") FLOAT 15) ≡ true)
    × (is_attribute (attribute (codes "a") FLOAT 16) ≡ false) × (is_attribute (attribute (codes "a") INT 0) ≡ false)
attributes_by_themselves = (refl, refl, refl, refl, refl)

-- all uniforms have at most 1,024 elements together, and different names
uniforms_together : (are_uniforms [] (uniform (codes "a[0]") FLOAT 1000 ∷ uniform (codes "b[0]") FLOAT 24 ∷ []) ≡ true) × (are_uniforms [] (uniform (codes "a[0]") FLOAT 1000 ∷ uniform (codes "b[0]") FLOAT 25 ∷ []) ≡ false)
    × (are_uniforms [] (uniform (codes "a") FLOAT 1 ∷ uniform (codes "a") INT 1 ∷ []) ≡ false) × (are_uniforms [] (uniform (codes "a") FLOAT 1 ∷ uniform (codes "b") INT 1 ∷ []) ≡ true)
uniforms_together = (refl, refl, refl, refl)

-- a failed link has no attributes
links : (is_sound_link default_link ≡ true) × (is_sound_link failed_link ≡ true) × (is_sound_link (record default_link { attributes = attribute (codes "a") FLOAT 0 ∷ [] }) ≡ true)
    × (is_sound_link (record failed_link { attributes = attribute (codes "a") FLOAT 0 ∷ [] }) ≡ false)
links = (refl, refl, refl, refl)

-- Locations

-- an array of three, a plain one, and an array of two samplers
abbrev positions : Uniform
positions = uniform (codes "positions[0]") FLOAT_VEC3 3

abbrev scale : Uniform
scale = uniform (codes "scale") FLOAT 1

abbrev images : Uniform
images = uniform (codes "images[0]") SAMPLER_2D 2

abbrev flags : Uniform
flags = uniform (codes "flags") BOOL_VEC2 1

abbrev turn : Uniform
turn = uniform (codes "turn") FLOAT_MAT2 1

abbrev all_uniforms : List Uniform
all_uniforms = positions ∷ scale ∷ images ∷ flags ∷ turn ∷ []

abbrev place : Uniform → ℕ → ℕ → Option ElementPlace
place u element word = Some (record { uniform = u; element = element; word = word })

-- each element has a location, behind those of the uniforms before it
places : (place_of all_uniforms (pos 0) ≡ place positions 0 0) × (place_of all_uniforms (pos 2) ≡ place positions 2 6) × (place_of all_uniforms (pos 3) ≡ place scale 0 9) × (place_of all_uniforms (pos 5) ≡ place images 1 11)
    × (place_of all_uniforms (pos 6) ≡ place flags 0 12) × (place_of all_uniforms (pos 7) ≡ place turn 0 14) × (place_of all_uniforms (pos 8) ≡ None) × (place_of all_uniforms (negsuc 0) ≡ None) × (words_in all_uniforms ≡ 18)
places = (refl, refl, refl, refl, refl, refl, refl, refl, refl)

-- Values

-- a boolean that is given -0.0 by floats is 0; by signed numbers 2 and the pattern of -0.0 are 1; other uniforms keep the word
booleans : (as_stored BOOL 1 NEGATIVE_ZERO ≡ 0) × (as_stored BOOL 1 0 ≡ 0) × (as_stored BOOL 1 0x3F800000 ≡ 1) × (as_stored BOOL 5 NEGATIVE_ZERO ≡ 1) × (as_stored BOOL 5 2 ≡ 1) × (as_stored BOOL 5 0 ≡ 0)
    × (as_stored FLOAT 1 NEGATIVE_ZERO ≡ NEGATIVE_ZERO) × (as_stored INT 5 2 ≡ 2)
booleans = (refl, refl, refl, refl, refl, refl, refl, refl)

-- no more elements are needed than there can be, and none of a negative count
needed : (uniform_needed 10 (pos 2) ≡ 72) × (uniform_needed 1 (pos 2000) ≡ 4096) × (uniform_needed 1 (negsuc 4) ≡ 0) × (uniform_needed 11 (pos 0) ≡ 0)
needed = (refl, refl, refl, refl)

abbrev data_words : ℕ → ℕ → DataWords
data_words source count = record { source = source; count = count; a = 0; b = 0 }

-- the words give as many bytes as are needed, from shared memory or a bucket, and none where none is needed
arguments : (uniform_is_bad 0 (pos 0) (data_words 0 0) ≡ true) × (uniform_is_bad 12 (pos 0) (data_words 0 0) ≡ true) × (uniform_is_bad 1 (pos 0) (data_words 0 0) ≡ false) × (uniform_is_bad 1 (pos 1) (data_words 0 0) ≡ true)
    × (uniform_is_bad 1 (pos 1) (data_words 1 4) ≡ false) × (uniform_is_bad 1 (pos 1) (data_words 2 4) ≡ false) × (uniform_is_bad 1 (pos 1) (data_words 1 8) ≡ true) × (uniform_is_bad 1 (pos 2000) (data_words 2 4096) ≡ false)
    × (uniform_is_bad 1 (negsuc 0) (data_words 1 0) ≡ false) × (uniform_is_bad 1 (negsuc 0) (data_words 1 4) ≡ true)
arguments = (refl, refl, refl, refl, refl, refl, refl, refl, refl, refl)

-- what the words mean: location and count are signed
spelled_uniform : command_in 292 (0xFFFFFFFF ∷ 10 ∷ 1 ∷ 1 ∷ 2 ∷ 36 ∷ 0 ∷ 0 ∷ []) ≡ Some (Object (command.Uniform (negsuc 0) 10 (pos 1) true (data_words 2 36)))
spelled_uniform = refl

abbrev linked_answer : LinkAnswer
linked_answer = record { ok = true; log = []; attributes = []; uniforms = all_uniforms }

abbrev in_use : Executable
in_use = record { vertex = []; fragment = []; bound = []; answer = linked_answer; values = replicate 18 0 }

abbrev words : List ℕ → List ℕ
words values = bytes_of_words values

-- a negative count and a matrix to be transposed come before a program that is missing, and that comes before all else
errors_without_program : (uniform_refusal None (pos 0) 1 (negsuc 0) false [] ≡ Some InvalidValue) × (uniform_refusal None (pos 0) 9 (pos 1) true (words (1 ∷ 2 ∷ 3 ∷ 4 ∷ [])) ≡ Some InvalidValue)
    × (uniform_refusal None (pos 0) 4 (pos 1) true (words (1 ∷ 2 ∷ 3 ∷ 4 ∷ [])) ≡ Some InvalidOperation) × (uniform_refusal None (negsuc 0) 1 (pos 1) false (words (1 ∷ [])) ≡ Some InvalidOperation)
errors_without_program = (refl, refl, refl, refl)

-- the location -1 is ignored, whatever is given; any other location that no element has is refused
errors_of_locations : (uniform_refusal (Some in_use) (negsuc 0) 1 (pos 9) false [] ≡ None) × (uniform_refusal (Some in_use) (negsuc 1) 1 (pos 0) false [] ≡ Some InvalidOperation) × (uniform_refusal (Some in_use) (pos 8) 1 (pos 0) false [] ≡ Some InvalidOperation)
    × (uniform_calls (negsuc 0) 1 (pos 1) [] ≡ [])
errors_of_locations = (refl, refl, refl, refl)

-- a kind that does not suit; several elements for what is no array, which takes one or none
errors_of_elements : (uniform_refusal (Some in_use) (pos 3) 5 (pos 1) false (words (1 ∷ [])) ≡ Some InvalidOperation) × (uniform_refusal (Some in_use) (pos 3) 1 (pos 2) false (words (1 ∷ 2 ∷ [])) ≡ Some InvalidOperation)
    × (uniform_refusal (Some in_use) (pos 3) 1 (pos 1) false (words (1 ∷ [])) ≡ None) × (uniform_refusal (Some in_use) (pos 3) 1 (pos 0) false [] ≡ None)
errors_of_elements = (refl, refl, refl, refl)

-- a sampler takes the texture units 0 to 7, and what is past the end of its array is not looked at
errors_of_samplers : (uniform_refusal (Some in_use) (pos 4) 5 (pos 1) false (words (7 ∷ [])) ≡ None) × (uniform_refusal (Some in_use) (pos 4) 5 (pos 1) false (words (8 ∷ [])) ≡ Some InvalidValue)
    × (uniform_refusal (Some in_use) (pos 4) 5 (pos 1) false (words (0xFFFFFFFF ∷ [])) ≡ Some InvalidValue) × (uniform_refusal (Some in_use) (pos 4) 5 (pos 2) false (words (0 ∷ 8 ∷ [])) ≡ Some InvalidValue)
    × (uniform_refusal (Some in_use) (pos 5) 5 (pos 2) false (words (0 ∷ 8 ∷ [])) ≡ None)
errors_of_samplers = (refl, refl, refl, refl, refl)

abbrev after_uniform : ℤ → ℕ → ℤ → List ℕ → List ℕ
after_uniform location kind count values = (with_uniform location kind count (words values) in_use).values

-- elements past the end of an array are cut, and the other values stay
elements_cut : after_uniform (pos 1) 3 (pos 3) (1 ∷ 2 ∷ 3 ∷ 4 ∷ 5 ∷ 6 ∷ 7 ∷ 8 ∷ 9 ∷ []) ≡ 0 ∷ 0 ∷ 0 ∷ 1 ∷ 2 ∷ 3 ∷ 4 ∷ 5 ∷ 6 ∷ replicate 9 0
elements_cut = refl

-- a vector of booleans is given by floats; at the location -1 nothing is stored
values_stored : (after_uniform (pos 6) 2 (pos 1) (NEGATIVE_ZERO ∷ 0x3F800000 ∷ []) ≡ replicate 13 0 ++ 1 ∷ replicate 4 0) × (after_uniform (negsuc 0) 1 (pos 1) (5 ∷ []) ≡ replicate 18 0)
    × (after_uniform (pos 3) 1 (pos 0) [] ≡ replicate 18 0) × (after_uniform (pos 7) 9 (pos 1) (1 ∷ 2 ∷ 3 ∷ 4 ∷ []) ≡ replicate 14 0 ++ 1 ∷ 2 ∷ 3 ∷ 4 ∷ [])
values_stored = (refl, refl, refl, refl)

-- Names in use

abbrev one_program : ProgramTables
one_program = create_program_effect no_programs 7 1

has_name : map.get one_program.names 7 ≡ Some (object_name 1)
has_name = get-insert_here (map.empty {X = Name} {R = nat_cmp}) 7 (object_name 1)

has_program : map.get one_program.programs 1 ≡ Some new_program
has_program = get-insert_here (map.empty {X = Program} {R = nat_cmp}) 1 new_program

-- Create gives ordinary names that are not in use
names_to_create : (create_is_bad map.empty 7 ≡ false) × (create_is_bad map.empty 0 ≡ true) × (create_is_bad map.empty 0xFFFFFF00 ≡ true) × (create_is_bad one_program.names 7 ≡ true)
names_to_create = (rw (map.get-empty {X = Name} nat_cmp 7) refl, refl, refl, rw has_name refl)

-- a shader is one of vertices or of fragments
kinds_to_create : create_shader_refusal no_programs FLOAT ≡ Some InvalidEnum
kinds_to_create = refl

-- a name that is not in use, and one of the other kind; a deletion and a use of 0 are ignored
errors_of_names : (program_refusal no_programs 7 ≡ Some InvalidValue) × (program_refusal one_program 7 ≡ None) × (shader_refusal one_program 7 ≡ Some InvalidOperation)
    × (delete_shader_refusal no_programs 0 ≡ None) × (delete_program_refusal no_programs 0 ≡ None) × (use_program_refusal no_programs 0 ≡ None)
errors_of_names = (rw (map.get-empty {X = Name} nat_cmp 7) refl, rw (has_name, has_program) refl, rw (has_name, map.get-empty {X = Shader} nat_cmp 1) refl, refl, refl, refl)

-- a program is used once it is linked
errors_of_use : (use_program_refusal no_programs 7 ≡ Some InvalidValue) × (use_program_refusal one_program 7 ≡ Some InvalidOperation)
errors_of_use = (rw (map.get-empty {X = Name} nat_cmp 7) refl, rw (has_name, has_program) refl)

-- an attribute past the last and a name that is too long come before a name that begins with `gl_`
errors_of_bound_names : (bind_attrib_location_refusal one_program 7 15 (codes "gl") ≡ None) × (bind_attrib_location_refusal one_program 7 0 (codes "gl_a") ≡ Some InvalidOperation)
    × (bind_attrib_location_refusal one_program 7 16 (codes "gl_a") ≡ Some InvalidValue) × (bind_attrib_location_refusal one_program 7 0 (replicate 256 97) ≡ Some InvalidValue)
errors_of_bound_names = (rw (has_name, has_program) refl, rw (has_name, has_program) refl, rw has_name refl, rw has_name refl)

-- Shaders

abbrev vertex : Shader
vertex = record (new_shader VERTEX_SHADER) { source = codes "v"; compiled = Some (codes "v"); is_compiled = true }

abbrev fragment : Shader
fragment = record (new_shader FRAGMENT_SHADER) { source = codes "f"; compiled = Some (codes "f"); is_compiled = true }

abbrev one_shader : map.FinMap nat_cmp Shader
one_shader = map.insert map.empty 1 vertex

abbrev two_shaders : map.FinMap nat_cmp Shader
two_shaders = map.insert one_shader 2 fragment

has_vertex : map.get two_shaders 1 ≡ Some vertex
has_vertex = get-insert_other one_shader 2 fragment 1 (λ e. absurd (omega (arith, e))) ∙ get-insert_here (map.empty {X = Shader} {R = nat_cmp}) 1 vertex

has_fragment : map.get two_shaders 2 ≡ Some fragment
has_fragment = get-insert_here one_shader 2 fragment

abbrev shaders_only : ProgramTables
shaders_only = record no_programs { shaders = two_shaders }

abbrev new_source : ProgramTables
new_source = record shaders_only { shaders = map.insert two_shaders 1 (record vertex { source = codes "w" }) }

-- a new source leaves what was compiled, and a compilation keeps its source and what it says
sources : (map.get (shader_source_effect shaders_only 1 (codes "w")).shaders 1 ≡ Some (record vertex { source = codes "w" }))
    × (map.get (compile_shader_effect new_source 1 (record { ok = false; log = codes "no" })).shaders 1 ≡ Some (record vertex { source = codes "w"; compiled = Some (codes "w"); is_compiled = false; log = codes "no" }))
sources = (rw has_vertex (get-insert_here two_shaders 1 _), rw (get-insert_here two_shaders 1 (record vertex { source = codes "w" })) (get-insert_here new_source.shaders 1 _))

-- a program has one shader of each kind
errors_of_attachment : (attach_refusal_by two_shaders (Some new_program) (Some vertex) ≡ None) × (attach_refusal_by two_shaders (Some (record new_program { attached = 1 ∷ [] })) (Some vertex) ≡ Some InvalidOperation)
    × (attach_refusal_by two_shaders (Some (record new_program { attached = 1 ∷ [] })) (Some fragment) ≡ None) × (attach_refusal_by two_shaders None (Some vertex) ≡ Some InvalidOperation)
    × (attach_refusal_by two_shaders (Some new_program) None ≡ Some InvalidOperation)
errors_of_attachment = (refl, rw has_vertex refl, rw has_vertex refl, refl, refl)

-- only what is attached is detached
errors_of_detachment : (detach_refusal_by (Some (record new_program { attached = 1 ∷ 2 ∷ [] })) (Some fragment) 2 ≡ None) × (detach_refusal_by (Some (record new_program { attached = 1 ∷ [] })) (Some fragment) 2 ≡ Some InvalidOperation)
    × (without (1 ∷ 2 ∷ []) 1 ≡ 2 ∷ [])
errors_of_detachment = (refl, refl, refl)

-- a shader that is attached is marked, and goes with its last attachment; any other goes at once
deleted_shaders : (map.get (delete_shader_by shaders_only 1 (Some (record vertex { attachments = 2 }))).shaders 1 ≡ Some (record vertex { attachments = 2; is_deleted = true }))
    × (map.get (delete_shader_by shaders_only 1 (Some vertex)).shaders 1 ≡ None)
    × (map.get (released_by shaders_only 1 (Some (record vertex { attachments = 2; is_deleted = true }))).shaders 1 ≡ Some (record vertex { attachments = 1; is_deleted = true }))
    × (map.get (released_by shaders_only 1 (Some (record vertex { attachments = 1; is_deleted = true }))).shaders 1 ≡ None)
    × (map.get (released_by shaders_only 1 (Some (record vertex { attachments = 1 }))).shaders 1 ≡ Some vertex)
deleted_shaders = (get-insert_here two_shaders 1 _, get-remove_here two_shaders 1, get-insert_here two_shaders 1 _, get-remove_here two_shaders 1, get-insert_here two_shaders 1 _)

-- Programs

-- a link wants a compiled shader of each kind
shaders_to_link : (can_link map.empty [] ≡ false) × (can_link map.empty (1 ∷ []) ≡ false) × (can_link two_shaders (1 ∷ []) ≡ false) × (can_link two_shaders (1 ∷ 2 ∷ []) ≡ true) × (can_link two_shaders (2 ∷ 1 ∷ []) ≡ true)
shaders_to_link = (refl, rw (map.get-empty {X = Shader} nat_cmp 1) refl, rw has_vertex refl, rw (has_vertex, has_fragment) refl, rw (has_vertex, has_fragment) refl)

abbrev both_attached : Program
both_attached = record new_program { attached = 1 ∷ 2 ∷ [] }

-- what a link makes has the sources as they were compiled, and zeros
made_by_link : executable_of two_shaders both_attached linked_answer ≡ record in_use { vertex = codes "v"; fragment = codes "f" }
made_by_link = rw (has_vertex, has_fragment) refl

-- the program 3 is current, and was linked
abbrev running : Program
running = record both_attached { executable = Some in_use }

abbrev in_use_tables : ProgramTables
in_use_tables = record no_programs { shaders = two_shaders; programs = map.insert map.empty 3 running; current = 3; installed = Some in_use }

has_running : map.get in_use_tables.programs 3 ≡ Some running
has_running = get-insert_here (map.empty {X = Program} {R = nat_cmp}) 3 running

-- a failed link keeps what is in use, though the program is linked no more
failed_link_of_current : ((link_program_effect in_use_tables 3 failed_link).installed ≡ Some in_use) × (executable_at (link_program_effect in_use_tables 3 failed_link) 3 ≡ None)
failed_link_of_current = (rw has_running refl, rw has_running (rw (get-insert_here in_use_tables.programs 3 (record running { executable = None })) refl))

-- a good link of the current program is in use at once, and one of another program is not
good_links : ((link_program_by in_use_tables 3 linked_answer (Some running)).installed ≡ Some (executable_of two_shaders running linked_answer)) × ((link_program_by in_use_tables 4 linked_answer (Some running)).installed ≡ Some in_use)
good_links = (refl, refl)

-- 0 uses none
executables_to_use : (executable_at in_use_tables 0 ≡ None) × (executable_at in_use_tables 3 ≡ Some in_use)
executables_to_use = (refl, rw has_running refl)

abbrev given_scale : ProgramTables → ProgramTables
given_scale t = uniform_effect t (pos 3) 1 (pos 1) (words (5 ∷ []))

abbrev scaled : Executable
scaled = record in_use { values = replicate 9 0 ++ 5 ∷ replicate 8 0 }

-- the tables after a link of the current program that failed
abbrev after_failure : ProgramTables
after_failure = record in_use_tables { programs = map.insert map.empty 3 both_attached }

has_unlinked : map.get after_failure.programs 3 ≡ Some both_attached
has_unlinked = get-insert_here (map.empty {X = Program} {R = nat_cmp}) 3 both_attached

-- the current program has the values of what is in use; where its last link failed, only what is in use has them
values_of_current : ((given_scale in_use_tables).installed ≡ Some scaled) × (executable_at (given_scale in_use_tables) 3 ≡ Some scaled)
    × ((given_scale after_failure).installed ≡ Some scaled) × (executable_at (given_scale after_failure) 3 ≡ None)
values_of_current = (
  refl,
  rw has_running (rw (get-insert_here in_use_tables.programs 3 (record running { executable = Some scaled })) refl),
  refl,
  rw has_unlinked (rw (get-insert_here after_failure.programs 3 both_attached) refl),
)
