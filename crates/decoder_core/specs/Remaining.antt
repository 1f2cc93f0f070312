-- How much is left to be done up to put.
use Rattle.std.specs.Prelude.{◌<◌, ℕ, ◌+◌, ◌*◌, Option, None, Some}
use Rattle.gl_plain.specs.declared.commands.Fetched.{Fetched}
use Rattle.cb_fetch.specs.Fetching.{left_in}
use Rattle.decoder_core.specs.declared.outcome.StepOutcome.{StepOutcome}
use Rattle.decoder_core.specs.declared.outcome.StepOutcome.TheVariants.{Copied, Executed, Idle, Bad, Lost, NoMemory}
use Rattle.decoder_core.specs.ServiceView.{ServiceView}

-- how many commands wait
abbrev pub count_of : Option Fetched → ℕ
count_of None = 0
count_of (Some command) = 1

-- how much is left to be done: twice what is to be read, and the command that waits
abbrev pub left_to_do : ServiceView → ℕ
left_to_do s = 2 * left_in s.fetch + count_of s.waiting

-- there is less left after a copy and after an execution
abbrev pub IsLessLeft : ServiceView → ServiceView → StepOutcome → Type 0
IsLessLeft s s2 Copied = left_to_do s2 < left_to_do s
IsLessLeft s s2 (Executed reply) = left_to_do s2 < left_to_do s
IsLessLeft s s2 Idle = Unit {0}
IsLessLeft s s2 (Bad kind place) = Unit {0}
IsLessLeft s s2 Lost = Unit {0}
IsLessLeft s s2 NoMemory = Unit {0}
