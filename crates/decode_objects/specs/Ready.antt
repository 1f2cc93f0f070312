-- What a command on objects may rely on.
use Rattle.std.specs.Prelude.{◌≡◌, ℕ, false, List, ◌∷◌, ◌++◌, None}
use Rattle.gl_plain.specs.declared.commands.ObjectCommand.{ObjectCommand}
use Rattle.gl_plain.specs.declared.driver_calls.DriverCall.{DriverCall}
use Rattle.gl_plain.specs.declared.driver_calls.DriverEntry.{DriverEntry}
use Rattle.gl_plain.specs.Oracle.{Oracle}
use Rattle.gl_plain.specs.State.{WireState, DriverState}
use Rattle.gl_plain.specs.driver.Allowed.{IsAllowed}
use Rattle.gl_plain.specs.driver.Answers.{told}
use Rattle.gl_plain.specs.Journal.{IsLegal, state_after}
use Rattle.gl_plain.specs.Parts.{calls_in}
use Rattle.gl_plain.specs.object.Arguments.{object_is_bad, IsObjectData}
use Rattle.gl_plain.specs.object.Refusal.{object_command_refusal}
use Rattle.gl_plain.specs.object.Calls.{own_object_calls}

-- each of these calls, which go by the answers, may be made when its turn comes
abbrev pub MayMake : DriverState → (Oracle → List DriverCall) → Type 0
MayMake d calls = (o : Oracle) (es : List DriverEntry) (next : DriverCall) (more : List DriverCall) → IsLegal d es → calls_in es ++ next ∷ more ≡ calls (told es o) → IsAllowed (state_after d es) next

-- the command is neither malformed nor refused, its data is what its words name, and its driver calls may be made
pub record IsReady (c : ObjectCommand) (payload : List ℕ) (before : WireState → WireState) (d : DriverState) : Type 0 where
  pub others : WireState
  pub fair : object_is_bad (before others).es c ≡ false
  pub taken : object_command_refusal (before others).es c payload ≡ None
  pub given : IsObjectData c payload
  pub may : MayMake d (own_object_calls (before others).es c payload)
