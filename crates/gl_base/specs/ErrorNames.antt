-- The names of error codes (OpenGL ES 2.0.25, section 2.5).
use Rattle.std.specs.Prelude.{ℕ, List, ◌==◌, if◌then◌else◌, codes, Option, None, Some}
use Rattle.gl_base.specs.declared.enums.TheConstants.{NO_ERROR, INVALID_ENUM, INVALID_VALUE, INVALID_OPERATION, OUT_OF_MEMORY, INVALID_FRAMEBUFFER_OPERATION}

-- the name of an error code, or none for a number that is none of the six
abbrev pub error_text : ℕ → Option (List ℕ)
error_text code =
    if code == NO_ERROR then Some (codes "NO_ERROR")
    else if code == INVALID_ENUM then Some (codes "INVALID_ENUM")
    else if code == INVALID_VALUE then Some (codes "INVALID_VALUE")
    else if code == INVALID_OPERATION then Some (codes "INVALID_OPERATION")
    else if code == OUT_OF_MEMORY then Some (codes "OUT_OF_MEMORY")
    else if code == INVALID_FRAMEBUFFER_OPERATION then Some (codes "INVALID_FRAMEBUFFER_OPERATION")
    else None
