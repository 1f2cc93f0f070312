-- What is done with the commands up to each of several puts.
use Rattle.std.specs.Prelude.{◌≡◌, ℕ, Bool, true, false, List, [], ◌++◌, length, Some, Result, Ok, Err}
use Rattle.gl_plain.specs.declared.calls.Reply.{Reply}
use Rattle.gl_plain.specs.declared.commands.Stop.{Stop}
use Rattle.gl_plain.specs.declared.driver_calls.DriverEntry.{DriverEntry}
use Rattle.gl_plain.specs.Agreement.{Agrees}
use Rattle.gl_driver.specs.History.{Served}
use Rattle.gl_driver.specs.declared.stop.DriverStop.TheVariants as driver
use Rattle.strict_driver.specs.StrictView.{StrictView}
use Rattle.strict_driver.specs.StrictHistory.{history_of, Continues}
use Rattle.cb_shm.specs.Memory.{MemoryView}
use Rattle.cb_fetch.specs.Seen.{Reads, AreGiven, Seen, seen_puts}
use Rattle.decoder_core.specs.declared.outcome.ServiceStop.{ServiceStop}
use Rattle.decoder_core.specs.declared.outcome.ServiceStop.TheVariants.{Bad, Lost, NoMemory}
use Rattle.decoder_core.specs.ServiceView.{ServiceView, wire_of, IsAtRest}
use Rattle.decoder_core.specs.Side.{Side}
use Rattle.decoder_core.specs.RunsSoFar.{GoesOn, StopsWith, IsCutOff}

-- the commands from where the service stands up to each of these puts, as the next copies read them
abbrev pub seen_by_puts : Reads → MemoryView → ServiceView → List ℕ → Seen
seen_by_puts reads m s puts = seen_puts reads m.sizes s.fetch.entries (length m.copies) s.fetch.get puts

-- All commands up to the puts before those left were executed as OpenGL ES does: with these replies, one part of the entries for each, and
-- tables that agree. What is left is the run of the commands up to the puts left.
pub record HasTaken (a : Side StrictView) (before : List Reply) (puts : List ℕ) (b : Side StrictView) (after : List Reply) (left : List ℕ) : Type 0 where
  pub entries : List DriverEntry
  pub replies : List Reply
  pub answered : after ≡ before ++ replies
  pub served : Served history_of Continues a.driver b.driver entries
  pub run : (reads : Reads) → AreGiven reads 0 b.memory.copies → GoesOn (wire_of a.service) (seen_by_puts reads a.memory a.service puts) (wire_of b.service) (seen_by_puts reads b.memory b.service left) replies entries
  pub agrees : Agrees (wire_of b.service) (history_of b.driver).state
  pub at_rest : IsAtRest b.service
  pub same_ring : b.service.fetch.entries ≡ a.service.fetch.entries

-- The commands before the first malformed one were executed as OpenGL ES does, and the run of all stops there.
pub record HasStopped (a : Side StrictView) (before : List Reply) (puts : List ℕ) (b : Side StrictView) (after : List Reply) (stop : Stop) : Type 0 where
  pub entries : List DriverEntry
  pub replies : List Reply
  pub answered : after ≡ before ++ replies
  pub served : Served history_of Continues a.driver b.driver entries
  pub run : (reads : Reads) → AreGiven reads 0 b.memory.copies → StopsWith (wire_of a.service) (seen_by_puts reads a.memory a.service puts) (wire_of b.service) stop replies entries
  pub agrees : Agrees (wire_of b.service) (history_of b.driver).state

-- The run was cut off, by a lost driver or for want of memory: the commands before were executed as OpenGL ES does, and the next one, if
-- any, made a front of its calls.
pub record WasCutOff (lost : Bool) (a : Side StrictView) (before : List Reply) (puts : List ℕ) (b : Side StrictView) (after : List Reply) : Type 0 where
  pub entries : List DriverEntry
  pub replies : List Reply
  pub answered : after ≡ before ++ replies
  pub served : Served history_of Continues a.driver b.driver entries
  pub run : (reads : Reads) → AreGiven reads 0 b.memory.copies → IsCutOff lost (wire_of a.service) (seen_by_puts reads a.memory a.service puts) replies entries

-- the puts in order
abbrev pub TookPuts : (a : Side StrictView) (before : List Reply) (puts : List ℕ) (b : Side StrictView) (after : List Reply) → Result (Unit {0}) ServiceStop → Type 0
TookPuts a before puts b after (Ok u) = HasTaken a before puts b after []
TookPuts a before puts b after (Err (Bad stop)) = HasStopped a before puts b after stop
TookPuts a before puts b after (Err Lost) = WasCutOff true a before puts b after × (b.driver.stop ≡ Some driver.Lost)
TookPuts a before puts b after (Err NoMemory) = WasCutOff false a before puts b after
