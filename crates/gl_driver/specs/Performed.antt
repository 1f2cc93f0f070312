-- What a command did, by what it means: to the state of whoever executes it, and to the driver.
use Rattle.std.specs.Prelude.{◌≡◌, ◌⊎◌, ℕ, true, false, List, [], ◌∷◌, ◌++◌, Some, Result, Ok, Err, IfOk}
use Rattle.gl_plain.specs.declared.driver_calls.DriverCall.{DriverCall}
use Rattle.gl_plain.specs.declared.driver_calls.DriverEntry.{DriverEntry}
use Rattle.gl_plain.specs.declared.calls.Reply.{Reply}
use Rattle.gl_plain.specs.declared.commands.Command.{Command}
use Rattle.gl_plain.specs.declared.commands.Malformed.{Malformed}
use Rattle.gl_plain.specs.declared.commands.Malformed.TheVariants.{InvalidArguments}
use Rattle.gl_plain.specs.declared.stop.ExecStop.{ExecStop}
use Rattle.gl_plain.specs.declared.stop.ExecStop.TheVariants.{Bad, Lost, NoMemory}
use Rattle.gl_plain.specs.Oracle.{Oracle}
use Rattle.gl_plain.specs.driver.Answers.{told}
use Rattle.gl_plain.specs.State.{WireState, DriverState}
use Rattle.gl_plain.specs.Journal.{IsLegal, state_after}
use Rattle.gl_plain.specs.driver.Allowed.{IsAllowed}
use Rattle.gl_plain.specs.Meaning.{Meaning, command_meaning}
use Rattle.gl_plain.specs.Records.{contents_after, step_records}
use Rattle.gl_plain.specs.Parts.{calls_in, IsPartOf, IsFairFrontOf, IsProperFrontOf}
use Rattle.gl_plain.specs.Agreement.{Agrees}
use Rattle.gl_plain.specs.Lawful.{Keeps}
use Rattle.gl_driver.specs.History.{History, Served, Caused, Rose}
use Rattle.gl_driver.specs.declared.stop.DriverStop.{DriverStop}
use Rattle.gl_driver.specs.declared.stop.DriverStop.TheVariants as driver

-- the command was one step with the driver's answers, its entries are its part, and the driver's stop is as before
pub record Did {S : Type 0} (m : Meaning S) (old new : History) (entries : List DriverEntry) (after : S) (reply : Reply) : Type 0 where
  pub fair : m.bad ≡ false
  pub step : (rest : Oracle) → m.step (told entries rest) ≡ record { state = after; oracle = rest; reply = reply }
  pub part : (rest : Oracle) → IsPartOf m.calls (told entries rest) entries
  pub stop : new.stop ≡ old.stop

-- the command is malformed: it made no call, and changed nothing, also of the driver
pub record WasBad {S : Type 0} (m : Meaning S) (old new : History) (entries : List DriverEntry) (before after : S) (kind : Malformed) : Type 0 where
  pub bad : m.bad ≡ true
  pub kind_is : kind ≡ InvalidArguments
  pub no_calls : entries ≡ []
  pub same : after ≡ before
  pub same_driver : new ≡ old

-- the driver was lost at a call of the command
pub record WasLost {S : Type 0} (m : Meaning S) (old new : History) (entries : List DriverEntry) : Type 0 where
  pub stopped : new.stop ≡ Some driver.Lost
  pub cause : Rose old.losses new.losses ⊎ (old.stop ≡ Some driver.Lost)
  pub fair : m.bad ≡ false
  pub front : IsProperFrontOf m.calls entries

-- what a result says; for want of memory, that the entries are the first of the command's part, or all, and none of a malformed one
abbrev pub IsOutcome : {S : Type 0} → Meaning S → History → History → List DriverEntry → S → S → Result Reply ExecStop → Type 0
IsOutcome m old new entries before after (Ok reply) = Did m old new entries after reply
IsOutcome m old new entries before after (Err (Bad kind)) = WasBad m old new entries before after kind
IsOutcome m old new entries before after (Err Lost) = WasLost m old new entries
IsOutcome m old new entries before after (Err NoMemory) = IsFairFrontOf m.bad m.calls entries

-- The whole contract of a command: it did what it means. The parts of the state that it is lent stand in `before` and `after`, whatever
-- the other parts are.
pub record Acts {D : Type 0} (history : D → History) (grown : D → D → Type 0) (m : WireState → Meaning WireState) (before after : WireState → WireState) (d d2 : D) (result : Result Reply ExecStop) : Type 0 where
  pub entries : List DriverEntry
  pub served : Served history grown d d2 entries
  pub outcome : (s : WireState) → IsOutcome (m (before s)) (history d) (history d2) entries (before s) (after s) result

-- The whole contract of a family of commands: the command with its data did what it means, and keeps to the laws.
pub record IsLawful {D : Type 0} (history : D → History) (grown : D → D → Type 0) (c : Command) (payload : List ℕ) (before after : WireState → WireState) (d d2 : D) (result : Result Reply ExecStop) : Type 0 where
  pub acts : Acts history grown (λ w. command_meaning w c payload) before after d d2 result
  pub keeps : IfOk result (λ reply. (s : WireState) → Agrees (before s) (history d).state
      → Keeps (contents_after (before s).es c payload) (step_records (before s).es c payload) (history d).state acts.entries (after s) (history d2).state)

-- behind these entries a command goes on as one with another meaning
pub record Leads {S : Type 0} (m m1 : Meaning S) (entries : List DriverEntry) : Type 0 where
  pub fair : m.bad ≡ false
  pub fair_after : m1.bad ≡ false
  pub step : (o : Oracle) → m.step (told entries o) ≡ m1.step o
  pub calls : (o : Oracle) → m.calls (told entries o) ≡ calls_in entries ++ m1.calls o

-- these entries were made since, and with the calls that are left they are all of these calls; the driver's stop is as before
pub record Underway {D : Type 0} (history : D → History) (grown : D → D → Type 0) (d d2 : D) (calls left : List DriverCall) : Type 0 where
  pub entries : List DriverEntry
  pub served : Served history grown d d2 entries
  pub so_far : calls_in entries ++ left ≡ calls
  pub going : (history d2).stop ≡ (history d).stop

-- all of these calls were made since, and the driver's stop is as before
pub record Made {D : Type 0} (history : D → History) (grown : D → D → Type 0) (d d2 : D) (calls : List DriverCall) : Type 0 where
  pub entries : List DriverEntry
  pub served : Served history grown d d2 entries
  pub all : calls_in entries ≡ calls
  pub going : (history d2).stop ≡ (history d).stop

-- the first of these calls were made since, and the driver stopped at the next one
pub record StoppedIn {D : Type 0} (history : D → History) (grown : D → D → Type 0) (d d2 : D) (calls : List DriverCall) (stop : DriverStop) : Type 0 where
  pub entries : List DriverEntry
  pub served : Served history grown d d2 entries
  pub next : DriverCall
  pub more : List DriverCall
  pub front : calls_in entries ++ next ∷ more ≡ calls
  pub caused : Caused {T = Unit {0}} (history d) (history d2) (Err stop)

-- each of these calls may be made behind those before it, whatever is answered
abbrev pub MayMake : DriverState → List DriverCall → Type 0
MayMake d calls = (es : List DriverEntry) (next : DriverCall) (more : List DriverCall) → IsLegal d es → calls_in es ++ next ∷ more ≡ calls → IsAllowed (state_after d es) next

-- what comes of making these calls in order
abbrev pub MakesAll : {D : Type 0} (history : D → History) (grown : D → D → Type 0) (d d2 : D) → List DriverCall → Result (Unit {0}) DriverStop → Type 0
MakesAll history grown d d2 calls (Ok u) = Made history grown d d2 calls
MakesAll history grown d d2 calls (Err stop) = StoppedIn history grown d d2 calls stop
