-- The laws of a command: what its driver calls are and leave, by the definitions alone.
use Rattle.std.specs.Prelude.{◌≡◌, ℕ, List, ◌∷◌, ◌++◌}
use Rattle.gl_plain.specs.declared.commands.Command.{Command}
use Rattle.gl_plain.specs.declared.driver_calls.DriverCall.{DriverCall}
use Rattle.gl_plain.specs.declared.driver_calls.DriverEntry.{DriverEntry}
use Rattle.gl_plain.specs.subjects.Images.{read_contents}
use Rattle.gl_plain.specs.Oracle.{Oracle}
use Rattle.gl_plain.specs.State.{WireState, DriverState}
use Rattle.gl_plain.specs.driver.Allowed.{IsAllowed}
use Rattle.gl_plain.specs.driver.Answers.{told}
use Rattle.gl_plain.specs.Wire.{wire_step, command_calls}
use Rattle.gl_plain.specs.Journal.{IsLegal, state_after, records_in}
use Rattle.gl_plain.specs.Parts.{calls_in}
use Rattle.gl_plain.specs.Records.{contents_after, step_records}
use Rattle.gl_plain.specs.Agreement.{Agrees}

-- behind any of its driver calls that a command has made, the next one is allowed
abbrev pub MayGoOn : WireState → DriverState → Command → List ℕ → Type 0
MayGoOn w d c payload = (o : Oracle) (es : List DriverEntry) (next : DriverCall) (more : List DriverCall) → IsLegal d es → calls_in es ++ next ∷ more ≡ command_calls w c payload (told es o) → IsAllowed (state_after d es) next

-- what all driver calls of a command leave, where it is given the answers of `before` and hands on those of `after`
pub record Left (w : WireState) (d : DriverState) (c : Command) (payload : List ℕ) (before after : Oracle) (es : List DriverEntry) : Type 0 where
  -- the step took just the answers of these entries
  pub asked : (wire_step w c payload before).oracle ≡ after
  pub agrees : Agrees (wire_step w c payload before).state (state_after d es)
  pub contents : read_contents (state_after d es).contents ≡ contents_after w.es c payload before (read_contents d.contents)
  pub records : records_in d es ≡ step_records w.es c payload before (read_contents d.contents)

-- a command leaves that behind its driver calls, whatever they were answered
abbrev pub Leaves : WireState → DriverState → Command → List ℕ → Type 0
Leaves w d c payload = (o : Oracle) (es : List DriverEntry) → IsLegal d es → calls_in es ≡ command_calls w c payload (told es o) → Left w d c payload (told es o) o es
