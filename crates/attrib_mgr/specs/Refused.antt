-- Whether a call was refused.
use Rattle.std.specs.Prelude.{ℕ, Option, None, Some, Result, Ok, Err}
use Rattle.std.specs.Int.{cast_signed, w32}
use Rattle.gl_plain.specs.declared.attributes.ArraySpec.{ArraySpec}
use Rattle.gl_plain.specs.declared.errors.GlError.{GlError}
use Rattle.gl_plain.specs.subjects.Attributes.{vertex_attrib_pointer_refusal}

-- the refusal of an array, whose size and stride stand for signed numbers
abbrev pub array_refusal : ℕ → ArraySpec → Option GlError
array_refusal index array = vertex_attrib_pointer_refusal index (cast_signed w32 array.size) array.kind (cast_signed w32 array.stride)

-- the code that a result gives, if it is a refusal
abbrev pub code_in : {T : Type 0} → Result T GlError → Option GlError
code_in (Ok x) = None
code_in (Err e) = Some e
