-- Worked rows, as the definitions answer them.
use Rattle.std.proofs.Common.{◌≡◌, ℕ, [], ◌∷◌, Option, None, Some, refl, true, false}
use Rattle.std.specs.Prelude.{pos, negsuc}
use Rattle.std.specs.Ordering.{nat_cmp}
use Rattle.std.specs.FinMap as map
use Rattle.gl_base.proofs.Found.{get-insert_here}
use Rattle.gl_base.proofs.Counted.{len_retain-empty}
use Rattle.gl_base.specs.Names.{is_ordinary}
use Rattle.gl_base.specs.declared.gl_enum.GlEnum.{GlEnum}
use Rattle.gl_plain.specs.declared.objects.Name.{Name}
use Rattle.gl_plain.specs.declared.objects.Buffer.{Buffer}
use Rattle.gl_plain.specs.declared.errors.GlError.TheVariants.{InvalidEnum, InvalidValue, InvalidOperation, OutOfMemory}
use Rattle.gl_plain.specs.declared.errors.Errors.{Errors}
use Rattle.gl_plain.specs.declared.attributes.VertexAttributes.{VertexAttributes}
use Rattle.gl_plain.specs.declared.commands.DataWords.{DataWords}
use Rattle.gl_plain.specs.declared.commands.Command.TheVariants.{Object, SetToken}
use Rattle.gl_plain.specs.declared.commands.ObjectCommand.TheVariants as command
use Rattle.gl_plain.specs.subjects.Names.{new_name, gen_refusal}
use Rattle.gl_plain.specs.subjects.Data.{has_no_data, has_needed_data, has_just_needed_data, data_needed}
use Rattle.gl_plain.specs.subjects.Buffers.{BufferTables, no_buffers, bound, gen_buffers_effect, bind_buffer_is_bad, bind_buffer_effect, buffer_data_refusal, buffer_sub_data_refusal, range_refusal, delete_buffers_effect, without_buffer}
use Rattle.gl_plain.specs.subjects.Attributes.{no_arrays, attribute, attribute_refusal, array_of, vertex_attrib_4f_effect, vertex_attrib_pointer_effect, vertex_attrib_pointer_refusal, set_array_effect, all_outside}
use Rattle.gl_plain.specs.Errors.{no_errors, noted, least, cleared, code_given}
use Rattle.gl_plain.specs.State.{opening_wire}
use Rattle.gl_plain.specs.Commands.{command_in}
use Rattle.gl_plain.specs.Wire.{is_bad}

abbrev enum : ℕ → GlEnum
enum n = record { 0 = n }

-- what the words mean: a size is signed
spelled_words : command_in 259 (0x8892 ∷ 0xFFFFFFFF ∷ 0x88E4 ∷ 0 ∷ 0 ∷ 0 ∷ 0 ∷ [])
    ≡ Some (Object (command.BufferData (enum 0x8892) (negsuc 0) (enum 0x88E4) (record { source = 0; count = 0; a = 0; b = 0 })))
spelled_words = refl

-- a form, a kind or a count that is none spells no query, and neither does a number behind the last
no_queries : (command_in 328 (3 ∷ 0x0BA2 ∷ []) ≡ None) × (command_in 341 (1 ∷ 0 ∷ 1 ∷ []) ≡ None) × (command_in 342 (6 ∷ 1 ∷ []) ≡ None) × (command_in 344 (0 ∷ 0xFFFFFFFF ∷ 0x1401 ∷ []) ≡ None) × (command_in 344 (0 ∷ 1 ∷ 0x1402 ∷ []) ≡ None) × (command_in 345 [] ≡ None)
no_queries = (refl, refl, refl, refl, refl, refl)

-- ids on both sides of the limits
ordinary_ids : (bind_buffer_is_bad 0 ≡ false) × (bind_buffer_is_bad 1 ≡ false) × (bind_buffer_is_bad 0xFFFFFEFF ≡ false) × (bind_buffer_is_bad 0xFFFFFF00 ≡ false) × (bind_buffer_is_bad 0xFFFFFF10 ≡ false) × (bind_buffer_is_bad 0xFFFFFF11 ≡ true)
ordinary_ids = (refl, refl, refl, refl, refl, refl)

-- the errors of BufferData, in their order: where several hold, the first is recorded
data_errors : (buffer_data_refusal no_buffers (enum 0x8894) (negsuc 0) (enum 0x88E4) ≡ Some InvalidEnum)
    × (buffer_data_refusal no_buffers (enum 0x8892) (negsuc 0) (enum 0x88E5) ≡ Some InvalidEnum)
    × (buffer_data_refusal no_buffers (enum 0x8892) (negsuc 0) (enum 0x88E4) ≡ Some InvalidValue)
    × (buffer_data_refusal no_buffers (enum 0x8892) (pos 67108865) (enum 0x88E4) ≡ Some OutOfMemory)
    × (buffer_data_refusal no_buffers (enum 0x8892) (pos 67108864) (enum 0x88E4) ≡ Some InvalidOperation)
data_errors = (refl, refl, refl, refl, rw (map.get-empty nat_cmp 0) refl)

-- at the opening a Gen of one name is allowed, and of too many is not
gen_errors : (gen_refusal map.empty (pos 1) ≡ None) × (gen_refusal map.empty (pos 65537) ≡ Some OutOfMemory) × (gen_refusal map.empty (negsuc 0) ≡ Some InvalidValue)
gen_errors = (rw (len_retain-empty Name is_ordinary) refl, rw (len_retain-empty Name is_ordinary) refl, refl)

-- a name that is bound for the first time is an empty buffer with STATIC_DRAW
first_bind : bound (bind_buffer_effect (gen_buffers_effect no_buffers 7 1) (enum 0x8893) 7) (enum 0x8893) ≡ Some (record { bytes = []; usage = enum 0x88E4 })
first_bind = rw (get-insert_here (map.empty {X = Name} {R = nat_cmp}) 7 (new_name 1)) (get-insert_here (map.empty {X = Buffer} {R = nat_cmp}) 1 _)

abbrev data_words : ℕ → ℕ → ℕ → ℕ → DataWords
data_words source count a b = record { source = source; count = count; a = a; b = b }

-- no data, and data in shared memory or in a bucket of as many bytes as are needed: none where the size is negative or above the limit
data_rules : (has_no_data (data_words 0 0 0 0) ≡ true) × (has_no_data (data_words 0 0 0 1) ≡ false) × (has_needed_data (data_words 1 4 9 9) (data_needed (pos 4)) ≡ true)
    × (has_needed_data (data_words 1 3 0 0) (data_needed (pos 4)) ≡ false) × (has_needed_data (data_words 2 4 0 0) (data_needed (pos 4)) ≡ true) × (has_needed_data (data_words 3 4 0 0) (data_needed (pos 4)) ≡ false)
    × (data_needed (negsuc 3) ≡ 0) × (data_needed (pos 67108864) ≡ 67108864) × (data_needed (pos 67108865) ≡ 0)
data_rules = (refl, refl, refl, refl, refl, refl, refl, refl, refl)

-- a token has 31 bits
tokens : (is_bad (opening_wire (64, 64)) (SetToken 0x7FFFFFFF) ≡ false) × (is_bad (opening_wire (64, 64)) (SetToken 0x80000000) ≡ true)
tokens = (refl, refl)

-- GetError gives the least code first, and then the next one
abbrev two_codes : Errors
two_codes = noted (noted no_errors OutOfMemory) InvalidValue

codes_in_order : (code_given (least two_codes) ≡ 0x0501) × (code_given (least (cleared two_codes (least two_codes))) ≡ 0x0505) × (code_given (least no_errors) ≡ 0)
codes_in_order = (refl, refl, refl)

-- what the words mean: offset and size are signed, and a boolean is true where its word is not 0
sub_data_words : command_in 260 (0x8893 ∷ 2 ∷ 0xFFFFFFFD ∷ 1 ∷ 3 ∷ 1 ∷ 0 ∷ [])
    ≡ Some (Object (command.BufferSubData (enum 0x8893) (pos 2) (negsuc 2) (record { source = 1; count = 3; a = 1; b = 0 })))
sub_data_words = refl

pointer_words : command_in 294 (15 ∷ 3 ∷ 0x1406 ∷ 7 ∷ 12 ∷ 4 ∷ [])
    ≡ Some (Object (command.VertexAttribPointer 15 (record { size = pos 3; kind = enum 0x1406; normalized = true; stride = pos 12; offset = 4 })))
pointer_words = refl

-- data of no bytes may come from no source, and from shared memory; more may not
sub_data_rules : (has_just_needed_data (data_words 0 0 0 0) 0 ≡ true) × (has_just_needed_data (data_words 0 0 0 0) 2 ≡ false) × (has_just_needed_data (data_words 0 0 0 1) 0 ≡ false)
    × (has_just_needed_data (data_words 1 0 9 9) 0 ≡ true) × (has_just_needed_data (data_words 1 2 9 9) 2 ≡ true) × (has_just_needed_data (data_words 1 3 9 9) 2 ≡ false)
sub_data_rules = (refl, refl, refl, refl, refl, refl)

-- the errors of BufferSubData, in their order
sub_data_errors : (buffer_sub_data_refusal no_buffers (enum 0x8894) (negsuc 0) (pos 1) ≡ Some InvalidEnum) × (buffer_sub_data_refusal no_buffers (enum 0x8892) (negsuc 0) (pos 1) ≡ Some InvalidValue)
    × (buffer_sub_data_refusal no_buffers (enum 0x8892) (pos 0) (negsuc 0) ≡ Some InvalidValue) × (buffer_sub_data_refusal no_buffers (enum 0x8892) (pos 100) (pos 1) ≡ Some InvalidOperation)
sub_data_errors = (refl, refl, refl, rw (map.get-empty nat_cmp 0) refl)

abbrev four_bytes : Option Buffer
four_bytes = Some (record { bytes = 1 ∷ 2 ∷ 3 ∷ 4 ∷ []; usage = enum 0x88E4 })

-- a range is outside where it ends behind the buffer's last byte, and sums do not wrap
ranges_of_buffers : (range_refusal four_bytes 2 2 ≡ None) × (range_refusal four_bytes 4 0 ≡ None) × (range_refusal four_bytes 2 3 ≡ Some InvalidValue) × (range_refusal four_bytes 0x7FFFFFFF 0x7FFFFFFF ≡ Some InvalidValue)
ranges_of_buffers = (refl, refl, refl, refl)

-- there are sixteen vertex attributes
attrib_errors : (attribute_refusal 15 ≡ None) × (attribute_refusal 16 ≡ Some InvalidValue)
attrib_errors = (refl, refl)

-- the errors of VertexAttribPointer, in their order
pointer_errors : (vertex_attrib_pointer_refusal 16 (pos 5) (enum 0x1404) (negsuc 0) ≡ Some InvalidEnum) × (vertex_attrib_pointer_refusal 16 (pos 4) (enum 0x1406) (pos 0) ≡ Some InvalidValue)
    × (vertex_attrib_pointer_refusal 0 (pos 0) (enum 0x1406) (pos 0) ≡ Some InvalidValue) × (vertex_attrib_pointer_refusal 0 (pos 5) (enum 0x1406) (pos 0) ≡ Some InvalidValue)
    × (vertex_attrib_pointer_refusal 0 (negsuc 2) (enum 0x1406) (pos 0) ≡ Some InvalidValue) × (vertex_attrib_pointer_refusal 0 (pos 1) (enum 0x1406) (negsuc 0) ≡ Some InvalidValue)
    × (vertex_attrib_pointer_refusal 15 (pos 4) (enum 0x140C) (pos 255) ≡ None) × (vertex_attrib_pointer_refusal 0 (pos 1) (enum 0x1400) (pos 0) ≡ None)
pointer_errors = (refl, refl, refl, refl, refl, refl, refl, refl)

-- an array that is pointed at lies in the buffer that is bound then, and in none once that is deleted; it keeps the rest
abbrev pointed : VertexAttributes
pointed = vertex_attrib_pointer_effect no_arrays 3 (array_of (record no_buffers { array = 1 }) (pos 2) (enum 0x1402) true (pos 8) 4)

pointed_at : ((attribute pointed 3).array.object ≡ Some 1) × ((attribute pointed 3).array.offset ≡ 4) × ((attribute (all_outside pointed 1) 3).array.object ≡ None) × ((attribute (all_outside pointed 1) 3).array.offset ≡ 4)
    × ((attribute (all_outside pointed 2) 3).array.object ≡ Some 1)
pointed_at = (refl, refl, refl, refl, refl)

-- a change of one attribute leaves the others
others_kept : ((attribute (set_array_effect no_arrays 3 true) 3).enabled ≡ true) × ((attribute (set_array_effect no_arrays 3 true) 4).enabled ≡ false)
    × ((attribute (vertex_attrib_4f_effect no_arrays 15 (1 ∷ 2 ∷ 3 ∷ 4 ∷ [])) 15).constant ≡ 1 ∷ 2 ∷ 3 ∷ 4 ∷ []) × ((attribute (vertex_attrib_4f_effect no_arrays 15 (1 ∷ 2 ∷ 3 ∷ 4 ∷ [])) 0).constant ≡ 0 ∷ 0 ∷ 0 ∷ 0x3F800000 ∷ [])
others_kept = (refl, refl, refl, refl)

-- two buffers are bound
abbrev two_bound : BufferTables
two_bound = record no_buffers { array = 1; element = 2 }

-- a deleted buffer is bound no more; to delete 0, or a name that is not in use, changes nothing
bound_no_more : ((without_buffer two_bound 7 1).array ≡ 0) × ((without_buffer two_bound 7 1).element ≡ 2) × (delete_buffers_effect no_buffers 0 ≡ no_buffers) × (delete_buffers_effect no_buffers 7 ≡ no_buffers)
bound_no_more = (refl, refl, rw (map.get-empty {X = Name} nat_cmp 0) refl, rw (map.get-empty {X = Name} nat_cmp 7) refl)
