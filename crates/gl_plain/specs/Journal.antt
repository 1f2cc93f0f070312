-- The journal of a driver: its calls and their answers, in order.
use Rattle.std.specs.Prelude.{List, [], ◌∷◌, ◌++◌}
use Rattle.gl_plain.specs.declared.driver_calls.DriverEntry.{DriverEntry}
use Rattle.gl_plain.specs.State.{DriverState}
use Rattle.gl_plain.specs.driver.Allowed.{IsAllowed}
use Rattle.gl_plain.specs.driver.Answers.{IsAnswer}
use Rattle.gl_plain.specs.driver.Effect.{driver_after}
use Rattle.gl_plain.specs.Records.{Record, call_records}

-- the state that an entry leaves
abbrev pub entry_after : DriverState → DriverEntry → DriverState
entry_after d e = driver_after d e.call e.answer

-- the state that a journal leaves
abbrev pub state_after : DriverState → List DriverEntry → DriverState
state_after d [] = d
state_after d (e ∷ es) = state_after (entry_after d e) es

-- the call met its condition, and its answer is of its form
pub record IsLegalEntry (d : DriverState) (e : DriverEntry) : Type 0 where
  pub allowed : IsAllowed d e.call
  pub answered : IsAnswer d e.call e.answer

-- each entry is legal in the state that the entries before it leave
abbrev pub IsLegal : DriverState → List DriverEntry → Type 0
IsLegal d [] = Unit {0}
IsLegal d (e ∷ es) = IsLegalEntry d e × IsLegal (entry_after d e) es

-- what the calls of a journal draw, clear, copy, reduce or read, in order
abbrev pub records_in : DriverState → List DriverEntry → List Record
records_in d [] = []
records_in d (e ∷ es) = call_records d e.call e.answer ++ records_in (entry_after d e) es
