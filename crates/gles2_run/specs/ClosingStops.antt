-- Why not all was written.
use Rattle.gles2_run.specs.declared.closing.ClosingStop.{ClosingStop}
use Rattle.gles2_run.specs.declared.closing.ClosingStop.TheVariants.{Fault, NoMemory}

-- a write failed
abbrev pub write_failed : ClosingStop
write_failed = Fault

-- there was no memory for a line
abbrev pub no_memory : ClosingStop
no_memory = NoMemory
