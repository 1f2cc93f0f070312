-- What contracts see of a driver, and what calls do to it.
use Rattle.std.specs.Prelude.{◌≡◌, ◌<◌, ◌≤◌, ◌-◌, ◌^◌, ◌⊎◌, ℕ, Bool, true, false, List, [], ◌∷◌, ◌++◌, Option, None, Some, Result, Ok, Err}
use Rattle.std.specs.List.{list_any}
use Rattle.gl_plain.specs.State.{DriverState}
use Rattle.gl_plain.specs.Journal.{IsLegal, state_after}
use Rattle.gl_plain.specs.declared.driver_calls.DriverEntry.{DriverEntry}
use Rattle.gl_plain.specs.declared.driver_calls.DriverCall.{DriverCall}
use Rattle.gl_plain.specs.declared.driver_calls.Answer.{Answer}
use Rattle.gl_plain.specs.declared.driver_calls.Answer.TheVariants.{Done, Name, Oom, Compile, Link, Validate, Pixels}
use Rattle.gl_driver.specs.declared.stop.DriverStop.{DriverStop}
use Rattle.gl_driver.specs.declared.stop.DriverStop.TheVariants.{Lost}

-- a driver's state, its journal, the stop that it answered first, if any, and how often it answered Oom and Lost
pub record History : Type 0 where
  pub state : DriverState
  pub journal : List DriverEntry
  pub stop : Option DriverStop
  pub ooms : ℕ
  pub losses : ℕ

-- a count rose, or stands at its last value
abbrev pub Rose : ℕ → ℕ → Type 0
Rose before now = (before < now) ⊎ (2 ^ 64 - 1 ≤ now)

-- there was no room
abbrev pub is_oom : Answer → Bool
is_oom Done = false
is_oom (Name name) = false
is_oom (Compile ok log) = false
is_oom (Link a) = false
is_oom (Validate ok log) = false
is_oom (Pixels bytes) = false
is_oom Oom = true

-- an entry says that there was no room
abbrev pub has_oom : List DriverEntry → Bool
has_oom entries = list_any (λ (e : DriverEntry). is_oom e.answer) entries

-- The stop and the counts of a driver: a stop stays; the count of losses stands still where the driver is not lost, and that of Oom where
-- no entry has that answer; a driver is lost where the count rose or it was lost before.
pub record Counted (old new : History) (entries : List DriverEntry) : Type 0 where
  pub kept : (s : DriverStop) → old.stop ≡ Some s → new.stop ≡ Some s
  pub losses : old.losses ≤ new.losses
  pub ooms : old.ooms ≤ new.ooms
  pub lost : new.stop ≡ Some Lost → Rose old.losses new.losses ⊎ (old.stop ≡ Some Lost)
  pub losses_still : (new.stop ≡ Some Lost) ⊎ (new.losses ≡ old.losses)
  pub ooms_still : has_oom entries ≡ false → new.ooms ≡ old.ooms

-- between the two values of a driver these entries were made, each legal, and nothing else
pub record Served {D : Type 0} (history : D → History) (grown : D → D → Type 0) (old new : D) (entries : List DriverEntry) : Type 0 where
  pub grows : grown old new
  pub journal : (history new).journal ≡ (history old).journal ++ entries
  pub legal : IsLegal (history old).state entries
  pub state : (history new).state ≡ state_after (history old).state entries
  pub counted : Counted (history old) (history new) entries

-- the stop that a result is, if it is one
abbrev pub stop_of : {T : Type 0} → Result T DriverStop → Option DriverStop
stop_of (Ok x) = None
stop_of (Err e) = Some e

-- the stop is the answer's, and a stop stays
pub record Caused {T : Type 0} (old new : History) (result : Result T DriverStop) : Type 0 where
  pub stop : new.stop ≡ stop_of result
  pub first : (s : DriverStop) → old.stop ≡ Some s → stop_of result ≡ Some s

-- what a call enters: nothing where it stops
abbrev pub entered : {T : Type 0} → Result T DriverStop → DriverCall → (T → Answer) → List DriverEntry
entered (Ok x) call answer = record { call = call; answer = answer x } ∷ []
entered (Err e) call answer = []

-- the answer of a call that gives nothing back
abbrev pub done : Unit {0} → Answer
done u = Done
