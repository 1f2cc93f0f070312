-- Vertex attributes: their constant values (OpenGL ES 2.0.25, section 2.7) and their arrays (section 2.8).
use Rattle.std.specs.Prelude.{ℕ, ℤ, Bool, false, not, ◌==◌, ◌&&◌, ◌||◌, nat_lt, nat_le, if◌then◌else◌, List, [], ◌∷◌, map, replicate, slice_index_or, slice_set, Option, None, Some}
use Rattle.gl_base.specs.declared.gl_enum.GlEnum.{GlEnum}
use Rattle.gl_base.specs.declared.enums.TheConstants.{BYTE, UNSIGNED_BYTE, SHORT, UNSIGNED_SHORT, FLOAT, FIXED, ONE}
use Rattle.gl_base.specs.declared.limits.TheConstants.{LAST_ATTRIBUTE}
use Rattle.gl_plain.specs.declared.attributes.ArraySpec.{ArraySpec}
use Rattle.gl_plain.specs.declared.attributes.VertexAttribute.{VertexAttribute}
use Rattle.gl_plain.specs.declared.attributes.VertexAttributes.{VertexAttributes}
use Rattle.gl_plain.specs.declared.errors.GlError.{GlError}
use Rattle.gl_plain.specs.declared.errors.GlError.TheVariants.{InvalidEnum, InvalidValue}
use Rattle.gl_plain.specs.Words.{is_negative, natural}
use Rattle.gl_plain.specs.subjects.Buffers.{BufferTables}

-- a vertex attribute opens with an array that is not enabled, lies in no buffer and has four floats an element, and with the value 0 0 0 1
abbrev pub opening_attribute : VertexAttribute
opening_attribute = record {
  enabled = false;
  array = record { object = None; size = 4; kind = FLOAT; normalized = false; stride = 0; offset = 0 };
  constant = 0 ∷ 0 ∷ 0 ∷ ONE ∷ [];
}

-- no array is enabled
abbrev pub no_arrays : VertexAttributes
no_arrays = record { attributes = replicate 16 opening_attribute }

-- the attribute of an index
abbrev pub attribute : VertexAttributes → ℕ → VertexAttribute
attribute t index = slice_index_or t.attributes index opening_attribute

-- the attribute of an index is replaced
abbrev pub with_attribute : VertexAttributes → ℕ → VertexAttribute → VertexAttributes
with_attribute t index a = record { attributes = slice_set t.attributes index a }

-- the calls on one attribute are refused for an index past the last
abbrev pub attribute_refusal : ℕ → Option GlError
attribute_refusal index = if nat_lt LAST_ATTRIBUTE index then Some InvalidValue else None

-- VertexAttrib4f

-- the attribute has this constant value
abbrev pub vertex_attrib_4f_effect : VertexAttributes → ℕ → List ℕ → VertexAttributes
vertex_attrib_4f_effect t index values = with_attribute t index (record (attribute t index) { constant = values })

-- EnableVertexAttribArray, DisableVertexAttribArray

-- the array of the attribute is enabled or not
abbrev pub set_array_effect : VertexAttributes → ℕ → Bool → VertexAttributes
set_array_effect t index on = with_attribute t index (record (attribute t index) { enabled = on })

-- VertexAttribPointer

-- BYTE, UNSIGNED_BYTE, SHORT, UNSIGNED_SHORT, FLOAT or FIXED
abbrev pub is_attribute_kind : GlEnum → Bool
is_attribute_kind kind =
    (kind.0 == BYTE.0) || (kind.0 == UNSIGNED_BYTE.0) || (kind.0 == SHORT.0) || (kind.0 == UNSIGNED_SHORT.0) || (kind.0 == FLOAT.0) || (kind.0 == FIXED.0)

-- 1 to 4
abbrev pub is_attribute_size : ℤ → Bool
is_attribute_size size = nat_le 1 (natural size) && nat_le (natural size) 4

-- a kind that is none; an attribute past the last; a size that is none; a negative stride
abbrev pub vertex_attrib_pointer_refusal : ℕ → ℤ → GlEnum → ℤ → Option GlError
vertex_attrib_pointer_refusal index size kind stride =
    if not (is_attribute_kind kind) then Some InvalidEnum
    else if nat_lt LAST_ATTRIBUTE index || not (is_attribute_size size) || is_negative stride then Some InvalidValue else None

-- a number of an object, or none for 0
abbrev pub object_of : ℕ → Option ℕ
object_of number = if number == 0 then None else Some number

-- the array that a call names lies in the buffer that ARRAY_BUFFER binds
abbrev pub array_of : BufferTables → ℤ → GlEnum → Bool → ℤ → ℕ → ArraySpec
array_of t size kind normalized stride offset =
    record { object = object_of t.array; size = natural size; kind = kind; normalized = normalized; stride = natural stride; offset = offset }

-- the attribute has this array
abbrev pub vertex_attrib_pointer_effect : VertexAttributes → ℕ → ArraySpec → VertexAttributes
vertex_attrib_pointer_effect t index array = with_attribute t index (record (attribute t index) { array = array })

-- DeleteBuffers

-- the array lies in this object
abbrev pub lies_in : Option ℕ → ℕ → Bool
lies_in None number = false
lies_in (Some object) number = object == number

-- the array lies in no buffer where it lay in this one
abbrev pub outside : ℕ → VertexAttribute → VertexAttribute
outside number a = if lies_in a.array.object number then record a { array = record a.array { object = None } } else a

-- no array lies in this buffer
abbrev pub all_outside : VertexAttributes → ℕ → VertexAttributes
all_outside t number = record { attributes = map (outside number) t.attributes }
