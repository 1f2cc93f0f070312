-- The laws of a command's own calls, for commands that neither draw nor change a content.
use Rattle.std.proofs.Common.{◌≡◌, ℕ, List, [], ◌∷◌, ◌++◌}
use Rattle.gl_plain.specs.declared.commands.ObjectCommand.{ObjectCommand}
use Rattle.gl_plain.specs.declared.driver_calls.DriverCall.{DriverCall}
use Rattle.gl_plain.specs.declared.driver_calls.DriverEntry.{DriverEntry}
use Rattle.gl_plain.specs.Oracle.{Oracle}
use Rattle.gl_plain.specs.State.{EsState, DriverState}
use Rattle.gl_plain.specs.Outcome.{Outcome}
use Rattle.gl_plain.specs.driver.Allowed.{IsAllowed}
use Rattle.gl_plain.specs.driver.Answers.{told}
use Rattle.gl_plain.specs.Journal.{IsLegal, state_after, records_in}
use Rattle.gl_plain.specs.Parts.{calls_in}
use Rattle.gl_plain.specs.Agreement.{TablesAgree}
use Rattle.gl_plain.specs.object.Step.{object_step}
use Rattle.gl_plain.specs.object.Calls.{own_object_calls}

-- what the calls of a step leave
pub record StepLeft (d : DriverState) (out : Outcome EsState) (after : Oracle) (es : List DriverEntry) : Type 0 where
  pub asked : out.oracle ≡ after
  pub agrees : TablesAgree out.state (state_after d es).tables
  pub contents : (state_after d es).contents ≡ d.contents
  pub records : records_in d es ≡ []

-- behind any of its own calls that a command on objects has made, the next one is allowed
abbrev pub OwnMayGoOn : EsState → DriverState → ObjectCommand → List ℕ → Type 0
OwnMayGoOn s d c payload = (o : Oracle) (es : List DriverEntry) (next : DriverCall) (more : List DriverCall) → IsLegal d es → calls_in es ++ next ∷ more ≡ own_object_calls s c payload (told es o) → IsAllowed (state_after d es) next

-- what all its own calls leave
abbrev pub OwnLeaves : EsState → DriverState → ObjectCommand → List ℕ → Type 0
OwnLeaves s d c payload = (o : Oracle) (es : List DriverEntry) → IsLegal d es → calls_in es ≡ own_object_calls s c payload (told es o) → StepLeft d (object_step s c payload (told es o)) o es
