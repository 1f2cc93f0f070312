-- Whether a call was refused.
use Rattle.std.specs.Prelude.{Option, None, Some, Result, Ok, Err}
use Rattle.gl_plain.specs.declared.errors.GlError.{GlError}
use Rattle.program_mgr.specs.declared.refusal.ProgramRefusal.{ProgramRefusal}
use Rattle.program_mgr.specs.declared.refusal.ProgramRefusal.TheVariants.{Gl, NoMemory}

-- the code that a result gives, if it is a refusal
abbrev pub code_in : {T : Type 0} → Result T ProgramRefusal → Option GlError
code_in (Ok x) = None
code_in (Err (Gl e)) = Some e
code_in (Err NoMemory) = None
