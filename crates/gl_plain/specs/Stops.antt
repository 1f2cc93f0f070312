-- Why a command has no reply.
use Rattle.gl_plain.specs.declared.stop.ExecStop.{ExecStop}
use Rattle.gl_plain.specs.declared.stop.ExecStop.TheVariants.{NoMemory}

-- a command ends for want of memory
abbrev pub no_memory : ExecStop
no_memory = NoMemory
