-- Error codes and their flags (OpenGL ES 2.0.25, section 2.5).
use Rattle.std.specs.Prelude.{ℕ, true, false, if◌then◌else◌, Option, None, Some}
use Rattle.gl_base.specs.declared.enums.TheConstants.{NO_ERROR, INVALID_ENUM, INVALID_VALUE, INVALID_OPERATION, OUT_OF_MEMORY, INVALID_FRAMEBUFFER_OPERATION}
use Rattle.gl_plain.specs.declared.errors.GlError.{GlError}
use Rattle.gl_plain.specs.declared.errors.GlError.TheVariants.{InvalidEnum, InvalidValue, InvalidOperation, OutOfMemory, InvalidFramebufferOperation}
use Rattle.gl_plain.specs.declared.errors.Errors.{Errors}

-- the number of a code
abbrev pub code_of : GlError → ℕ
code_of InvalidEnum = INVALID_ENUM
code_of InvalidValue = INVALID_VALUE
code_of InvalidOperation = INVALID_OPERATION
code_of OutOfMemory = OUT_OF_MEMORY
code_of InvalidFramebufferOperation = INVALID_FRAMEBUFFER_OPERATION

-- no code is recorded
abbrev pub no_errors : Errors
no_errors = record { invalid_enum = false; invalid_value = false; invalid_operation = false; out_of_memory = false; invalid_framebuffer_operation = false }

-- the codes recorded, with this one
abbrev pub noted : Errors → GlError → Errors
noted e InvalidEnum = record e { invalid_enum = true }
noted e InvalidValue = record e { invalid_value = true }
noted e InvalidOperation = record e { invalid_operation = true }
noted e OutOfMemory = record e { out_of_memory = true }
noted e InvalidFramebufferOperation = record e { invalid_framebuffer_operation = true }

-- the recorded code with the least number
abbrev pub least : Errors → Option GlError
least e =
    if e.invalid_enum then Some InvalidEnum
    else if e.invalid_value then Some InvalidValue
    else if e.invalid_operation then Some InvalidOperation
    else if e.out_of_memory then Some OutOfMemory
    else if e.invalid_framebuffer_operation then Some InvalidFramebufferOperation
    else None

-- the codes recorded, without this one, if any
abbrev pub cleared : Errors → Option GlError → Errors
cleared e None = e
cleared e (Some InvalidEnum) = record e { invalid_enum = false }
cleared e (Some InvalidValue) = record e { invalid_value = false }
cleared e (Some InvalidOperation) = record e { invalid_operation = false }
cleared e (Some OutOfMemory) = record e { out_of_memory = false }
cleared e (Some InvalidFramebufferOperation) = record e { invalid_framebuffer_operation = false }

-- what GetError answers: a code, or NO_ERROR, which is 0
abbrev pub code_given : Option GlError → ℕ
code_given None = NO_ERROR
code_given (Some e) = code_of e
