-- Whether a command was refused.
use Rattle.std.specs.Prelude.{Option, None, Some, Result, Ok, Err}
use Rattle.gl_plain.specs.declared.errors.GlError.{GlError}

-- the code that a result gives, if it is a refusal
abbrev pub code_in : {T : Type 0} → Result T GlError → Option GlError
code_in (Ok x) = None
code_in (Err e) = Some e
