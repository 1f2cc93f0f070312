-- What an embedding gets of the service that it runs.
use Rattle.std.specs.Prelude.{◌≡◌, ◌<◌, ◌⊎◌, Bool, true, false, List, [], ◌++◌, None, Some, Result, Ok, Err}
use Rattle.gl_plain.specs.declared.calls.Reply.{Reply}
use Rattle.gl_plain.specs.declared.commands.Fetched.{Fetched}
use Rattle.gl_plain.specs.declared.commands.Stop.{Stop}
use Rattle.gl_plain.specs.declared.driver_calls.DriverEntry.{DriverEntry}
use Rattle.gl_plain.specs.State.{WireState}
use Rattle.gl_driver.specs.History.{History, Served}
use Rattle.decoder_core.specs.declared.outcome.ServiceStop.{ServiceStop}
use Rattle.decoder_core.specs.declared.outcome.ServiceStop.TheVariants.{Bad, Lost, NoMemory}
use Rattle.decoder_core.specs.ServiceView.{wire_of}
use Rattle.decoder_core.specs.Side.{Side}
use Rattle.decoder_core.specs.Remaining.{left_to_do}
use Rattle.decoder_core.specs.RunsSoFar.{HasRun}

-- Commands that take the service from one state to another, with these replies and entries: where those before were a run, as the definition
-- has it, so they are with these.
abbrev pub GoesOnBy : WireState → List Fetched → WireState → List Reply → List DriverEntry → Type 0
GoesOnBy now commands next replies entries = (w : WireState) (before : List Fetched) (answered : List Reply) (entered : List DriverEntry)
    → HasRun w before now answered entered → HasRun w (before ++ commands) next (answered ++ replies) (entered ++ entries)

-- Commands were executed, which leave this state of the service, and their replies were added. The driver was given their calls, and behind
-- those only a front of the calls of the next command.
pub record Executed {D : Type 0} (history : D → History) (grown : D → D → Type 0) (a : Side D) (before : List Reply) (d : D) (after : List Reply) (next : WireState) (front : List DriverEntry) : Type 0 where
  pub commands : List Fetched
  pub replies : List Reply
  pub entries : List DriverEntry
  pub answered : after ≡ before ++ replies
  pub served : Served history grown a.driver d (entries ++ front)
  pub run : GoesOnBy (wire_of a.service) commands next replies entries

-- whole commands were executed, and no other driver call was made
abbrev pub RanWhole : {D : Type 0} (history : D → History) (grown : D → D → Type 0) (a : Side D) (before : List Reply) (b : Side D) (after : List Reply) → Type 0
RanWhole history grown a before b after = Executed history grown a before b.driver after (wire_of b.service) []

-- the command behind those that were executed was cut off
pub record WasCutOff {D : Type 0} (history : D → History) (grown : D → D → Type 0) (a : Side D) (before : List Reply) (b : Side D) (after : List Reply) : Type 0 where
  pub next : WireState
  pub front : List DriverEntry
  pub ran : Executed history grown a before b.driver after next front

-- the service is where it was, and so are memory, the replies, and what contracts see of the driver
pub record IsAsBefore {D : Type 0} (history : D → History) (a : Side D) (before : List Reply) (b : Side D) (after : List Reply) : Type 0 where
  pub same_service : b.service ≡ a.service
  pub same_memory : b.memory ≡ a.memory
  pub same_driver : history b.driver ≡ history a.driver
  pub same_replies : after ≡ before

-- One turn

-- there may be more to do
pub record Went {D : Type 0} (history : D → History) (grown : D → D → Type 0) (a : Side D) (before : List Reply) (b : Side D) (after : List Reply) : Type 0 where
  pub ran : RanWhole history grown a before b after
  pub was_going : a.service.stop ≡ None
  pub going : b.service.stop ≡ None
  pub less : left_to_do b.service < left_to_do a.service

-- there was nothing to do: get is put
pub record Rested {D : Type 0} (history : D → History) (grown : D → D → Type 0) (a : Side D) (before : List Reply) (b : Side D) (after : List Reply) : Type 0 where
  pub as_before : IsAsBefore history a before b after
  pub served : Served history grown a.driver b.driver []
  pub going : a.service.stop ≡ None
  pub at_put : a.service.fetch.get ≡ a.service.fetch.put

-- a malformed command was met, which made no driver call and changed nothing of the state
pub record MetBad {D : Type 0} (history : D → History) (grown : D → D → Type 0) (a : Side D) (before : List Reply) (b : Side D) (after : List Reply) (at : Stop) : Type 0 where
  pub was_going : a.service.stop ≡ None
  pub stopped : b.service.stop ≡ Some (Bad at)
  pub same_state : wire_of b.service ≡ wire_of a.service
  pub same_driver : history b.driver ≡ history a.driver
  pub served : Served history grown a.driver b.driver []
  pub same_replies : after ≡ before

-- the command that was to be executed was cut off behind these calls, by a lost driver or for want of memory
pub record WasCut {D : Type 0} (history : D → History) (grown : D → D → Type 0) (a : Side D) (before : List Reply) (b : Side D) (after : List Reply) : Type 0 where
  pub was_going : a.service.stop ≡ None
  pub front : List DriverEntry
  pub served : Served history grown a.driver b.driver front
  pub same_replies : after ≡ before

-- why it stops now
abbrev pub StopsNow : {D : Type 0} (history : D → History) (grown : D → D → Type 0) (a : Side D) (before : List Reply) (b : Side D) (after : List Reply) → ServiceStop → Type 0
StopsNow history grown a before b after (Bad at) = MetBad history grown a before b after at
StopsNow history grown a before b after Lost = WasCut history grown a before b after × (b.service.stop ≡ Some Lost)
StopsNow history grown a before b after NoMemory = WasCut history grown a before b after

-- it stopped before, and nothing is done
pub record StoppedBefore {D : Type 0} (history : D → History) (grown : D → D → Type 0) (a : Side D) (before : List Reply) (b : Side D) (after : List Reply) (stop : ServiceStop) : Type 0 where
  pub stopped : a.service.stop ≡ Some stop
  pub as_before : IsAsBefore history a before b after
  pub served : Served history grown a.driver b.driver []

-- what one turn does
abbrev pub Takes : {D : Type 0} (history : D → History) (grown : D → D → Type 0) (a : Side D) (before : List Reply) (b : Side D) (after : List Reply) → Result Bool ServiceStop → Type 0
Takes history grown a before b after (Ok true) = Went history grown a before b after
Takes history grown a before b after (Ok false) = Rested history grown a before b after
Takes history grown a before b after (Err stop) = StopsNow history grown a before b after stop ⊎ StoppedBefore history grown a before b after stop

-- All turns

-- the commands before put were executed, all of them and nothing else
pub record CameToPut {D : Type 0} (history : D → History) (grown : D → D → Type 0) (a : Side D) (before : List Reply) (b : Side D) (after : List Reply) : Type 0 where
  pub ran : RanWhole history grown a before b after
  pub going : b.service.stop ≡ None
  pub at_put : b.service.fetch.get ≡ b.service.fetch.put

-- what all turns do, by what they come to
abbrev pub Works : {D : Type 0} (history : D → History) (grown : D → D → Type 0) (a : Side D) (before : List Reply) (b : Side D) (after : List Reply) → Result (Unit {0}) ServiceStop → Type 0
Works history grown a before b after (Ok u) = CameToPut history grown a before b after
Works history grown a before b after (Err (Bad at)) = RanWhole history grown a before b after × (b.service.stop ≡ Some (Bad at))
Works history grown a before b after (Err Lost) = WasCutOff history grown a before b after × (b.service.stop ≡ Some Lost)
Works history grown a before b after (Err NoMemory) = WasCutOff history grown a before b after

-- the service stopped before: it answers why again, and nothing is done
pub record StaysStopped {D : Type 0} (history : D → History) (a : Side D) (before : List Reply) (b : Side D) (after : List Reply) (result : Result (Unit {0}) ServiceStop) (stop : ServiceStop) : Type 0 where
  pub answer : result ≡ Err stop
  pub as_before : IsAsBefore history a before b after
