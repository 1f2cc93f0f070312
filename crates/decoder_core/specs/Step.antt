-- What one step of the service does.
use Rattle.std.specs.Prelude.{◌≡◌, ◌⊎◌, true, List, [], ◌∷◌, ◌++◌, None, Some}
use Rattle.gl_plain.specs.declared.commands.Fetched.{Fetched}
use Rattle.gl_plain.specs.declared.commands.Malformed.TheVariants.{InvalidArguments}
use Rattle.gl_plain.specs.declared.commands.Stop.{Stop}
use Rattle.gl_plain.specs.declared.calls.Reply.{Reply}
use Rattle.gl_plain.specs.declared.driver_calls.DriverEntry.{DriverEntry}
use Rattle.gl_plain.specs.State.{WireState}
use Rattle.gl_plain.specs.Meaning.{meaning_of}
use Rattle.gl_plain.specs.Parts.{IsFairFrontOf}
use Rattle.gl_driver.specs.History.{History, Served}
use Rattle.gl_driver.specs.Performed.{WasLost}
use Rattle.cb_fetch.specs.Fetching.{DidCopy, DidRead, IsAtPut, FoundBad, FoundNoMemory}
use Rattle.decoder_core.specs.declared.outcome.ServiceStop.{ServiceStop}
use Rattle.decoder_core.specs.declared.outcome.ServiceStop.TheVariants as stops
use Rattle.decoder_core.specs.declared.outcome.StepOutcome.{StepOutcome}
use Rattle.decoder_core.specs.declared.outcome.StepOutcome.TheVariants.{Copied, Executed, Idle, Bad, Lost, NoMemory}
use Rattle.decoder_core.specs.Execution.{Did}
use Rattle.decoder_core.specs.ServiceView.{wire_of}
use Rattle.decoder_core.specs.Side.{Side, seen_side}
use Rattle.decoder_core.specs.RunsSoFar.{HasRun}
use Rattle.decoder_core.specs.Replying.{replied}

-- no driver call was made, and the driver is as before: its state, its journal, its stop and its counts
pub record LeavesDriver (a b : Side History) (entries : List DriverEntry) : Type 0 where
  pub no_calls : entries ≡ []
  pub same_driver : b.driver ≡ a.driver

-- one copy was made of a command, perhaps its last
pub record DidCopies (a b : Side History) (entries : List DriverEntry) : Type 0 where
  pub going : a.service.stop ≡ None
  pub none_waiting : a.service.waiting ≡ None
  pub copy : (DidCopy a.service.fetch a.memory b.service.fetch b.memory × (b.service ≡ record a.service { fetch = b.service.fetch }))
      ⊎ ((command : Fetched) × DidRead a.service.fetch a.memory b.service.fetch b.memory command × (b.service ≡ record a.service { fetch = b.service.fetch; waiting = Some command }))
  pub untouched : LeavesDriver a b entries

-- The command that waited was executed, and its reply written. If the commands before, with their replies and entries, were a run as the
-- definition has it, so they are with this one.
pub record DidExecute (a b : Side History) (entries : List DriverEntry) (reply : Reply) : Type 0 where
  pub going : a.service.stop ≡ None
  pub command : Fetched
  pub waited : a.service.waiting ≡ Some command
  pub did : Did command (wire_of a.service) a.driver b.driver entries (wire_of b.service) reply
  pub after : b.service ≡ record a.service { waiting = None; tables = b.service.tables }
  pub put : b.memory ≡ replied a.memory command reply
  pub run : (w : WireState) (commands : List Fetched) (replies : List Reply) (entered : List DriverEntry)
      → HasRun w commands (wire_of a.service) replies entered → HasRun w (commands ++ command ∷ []) (wire_of b.service) (replies ++ reply ∷ []) (entered ++ entries)

-- there is nothing to do
pub record DidNothing (a b : Side History) (entries : List DriverEntry) : Type 0 where
  pub going : a.service.stop ≡ None
  pub none_waiting : a.service.waiting ≡ None
  pub at_put : IsAtPut a.service.fetch a.memory b.service.fetch b.memory
  pub after : b.service ≡ a.service
  pub untouched : LeavesDriver a b entries

-- a command is malformed: as it was read, or by its arguments in the state of the service
abbrev pub IsFaulty : Side History → Side History → Stop → Type 0
IsFaulty a b stop = ((a.service.waiting ≡ None) × FoundBad a.service.fetch a.memory b.service.fetch b.memory stop)
    ⊎ ((command : Fetched) × (a.service.waiting ≡ Some command) × ((meaning_of (wire_of a.service) command).bad ≡ true) × (stop.kind ≡ InvalidArguments) × (stop.place ≡ command.place)
    × (b.memory ≡ a.memory) × (b.service.fetch ≡ a.service.fetch))

-- a command was found malformed, and nothing was executed
pub record DidFindBad (a b : Side History) (entries : List DriverEntry) (stop : Stop) : Type 0 where
  pub going : a.service.stop ≡ None
  pub faulty : IsFaulty a b stop
  pub after : b.service ≡ record a.service { fetch = b.service.fetch; tables = b.service.tables; stop = Some (stops.Bad stop) }
  pub same_state : wire_of b.service ≡ wire_of a.service
  pub untouched : LeavesDriver a b entries

-- the driver was lost at a call of the command that waited, behind a proper front of its calls
pub record DidLose (a b : Side History) (entries : List DriverEntry) : Type 0 where
  pub going : a.service.stop ≡ None
  pub command : Fetched
  pub waited : a.service.waiting ≡ Some command
  pub lost : WasLost (meaning_of (wire_of a.service) command) a.driver b.driver entries
  pub after : b.service ≡ record a.service { tables = b.service.tables; stop = Some stops.Lost }
  pub same : b.memory ≡ a.memory

-- there was no memory: for a copy, or behind a front of the calls of the command that waited, none where it is malformed
abbrev pub IsShort : Side History → Side History → List DriverEntry → Type 0
IsShort a b entries = ((a.service.waiting ≡ None) × FoundNoMemory a.service.fetch a.memory b.service.fetch b.memory × (b.service.tables ≡ a.service.tables) × LeavesDriver a b entries)
    ⊎ ((command : Fetched) × (a.service.waiting ≡ Some command) × IsFairFrontOf (meaning_of (wire_of a.service) command).bad (meaning_of (wire_of a.service) command).calls entries
    × (b.service.fetch ≡ a.service.fetch))

-- there was no memory, and no copy and no put was made
pub record DidRunShort (a b : Side History) (entries : List DriverEntry) : Type 0 where
  pub going : a.service.stop ≡ None
  pub short : IsShort a b entries
  pub after : b.service ≡ record a.service { fetch = b.service.fetch; tables = b.service.tables; stop = Some stops.NoMemory }
  pub same : b.memory ≡ a.memory

-- the service stopped before
pub record WasStopped (a b : Side History) (entries : List DriverEntry) (stop : ServiceStop) : Type 0 where
  pub stopped : a.service.stop ≡ Some stop
  pub after : b.service ≡ a.service
  pub same : b.memory ≡ a.memory
  pub untouched : LeavesDriver a b entries

-- what an outcome says
abbrev pub IsStep : Side History → Side History → List DriverEntry → StepOutcome → Type 0
IsStep a b entries Copied = DidCopies a b entries
IsStep a b entries (Executed reply) = DidExecute a b entries reply
IsStep a b entries Idle = DidNothing a b entries
IsStep a b entries (Bad kind place) = let stop : Stop = record { kind = kind; place = place } in DidFindBad a b entries stop ⊎ WasStopped a b entries (stops.Bad stop)
IsStep a b entries Lost = DidLose a b entries ⊎ WasStopped a b entries stops.Lost
IsStep a b entries NoMemory = DidRunShort a b entries ⊎ WasStopped a b entries stops.NoMemory

-- one step: the driver calls that were made, and what the outcome says
pub record Steps {D : Type 0} (history : D → History) (grown : D → D → Type 0) (a b : Side D) (outcome : StepOutcome) : Type 0 where
  pub entries : List DriverEntry
  pub served : Served history grown a.driver b.driver entries
  pub step : IsStep (seen_side history a) (seen_side history b) entries outcome
