-- What the service does with the commands up to put.
use Rattle.std.specs.Prelude.{◌≡◌, ℕ, Bool, true, false, List, ◌++◌, length, Some, Result, Ok, Err}
use Rattle.gl_plain.specs.declared.calls.Reply.{Reply}
use Rattle.gl_plain.specs.declared.commands.Stop.{Stop}
use Rattle.gl_plain.specs.declared.driver_calls.DriverEntry.{DriverEntry}
use Rattle.gl_plain.specs.Agreement.{Agrees}
use Rattle.gl_driver.specs.History.{History, Served}
use Rattle.gl_driver.specs.declared.stop.DriverStop.TheVariants as driver
use Rattle.cb_shm.specs.Memory.{CopyEntry, MemoryView}
use Rattle.cb_fetch.specs.Seen.{Reads, AreGiven, Seen, seen_from}
use Rattle.decoder_core.specs.declared.outcome.ServiceStop.{ServiceStop}
use Rattle.decoder_core.specs.declared.outcome.ServiceStop.TheVariants.{Bad, Lost, NoMemory}
use Rattle.decoder_core.specs.ServiceView.{ServiceView, wire_of, IsAtRest}
use Rattle.decoder_core.specs.Side.{Side}
use Rattle.decoder_core.specs.RunsSoFar.{GoesFurther, ComesTo, BreaksOff}

-- the commands from get up to put, where copies give what is read at their numbers, and then others
abbrev pub seen_by : Reads → MemoryView → ServiceView → (ℕ → Seen) → Seen
seen_by reads m s then = seen_from reads m.sizes s.fetch.entries s.fetch.put s.fetch.entries (length m.copies) s.fetch.get then

-- more copies were made of the memory, and its regions kept their sizes
pub record HasMore (m m2 : MemoryView) : Type 0 where
  pub more : List CopyEntry
  pub copies : m2.copies ≡ m.copies ++ more
  pub sizes : m2.sizes ≡ m.sizes

-- All commands up to put were executed as OpenGL ES does: with these replies, one part of the entries for each, and tables that agree at
-- the end, where the service rests at put. The driver's stop is as before.
pub record RanOn {D : Type 0} (history : D → History) (grown : D → D → Type 0) (a : Side D) (before : List Reply) (b : Side D) (after : List Reply) : Type 0 where
  pub entries : List DriverEntry
  pub replies : List Reply
  pub answered : after ≡ before ++ replies
  pub served : Served history grown a.driver b.driver entries
  pub further : (reads : Reads) (then : ℕ → Seen) → AreGiven reads 0 b.memory.copies
      → GoesFurther (wire_of a.service) (seen_by reads a.memory a.service then) (wire_of b.service) (then (length b.memory.copies)) replies entries
  pub agrees : Agrees (wire_of b.service) (history b.driver).state
  pub stop : (history b.driver).stop ≡ (history a.driver).stop
  pub memory : HasMore a.memory b.memory
  pub at_rest : IsAtRest b.service
  pub at_put : b.service.fetch.get ≡ a.service.fetch.put
  pub same_ring : b.service.fetch.entries ≡ a.service.fetch.entries

-- the commands before the first malformed one were executed as OpenGL ES does, and the driver's stop is as before
pub record RanTo {D : Type 0} (history : D → History) (grown : D → D → Type 0) (a : Side D) (before : List Reply) (b : Side D) (after : List Reply) (at : Stop) : Type 0 where
  pub entries : List DriverEntry
  pub replies : List Reply
  pub answered : after ≡ before ++ replies
  pub served : Served history grown a.driver b.driver entries
  pub comes : (reads : Reads) (then : ℕ → Seen) → AreGiven reads 0 b.memory.copies → ComesTo (wire_of a.service) (seen_by reads a.memory a.service then) (wire_of b.service) at replies entries
  pub agrees : Agrees (wire_of b.service) (history b.driver).state
  pub stop : (history b.driver).stop ≡ (history a.driver).stop
  pub memory : HasMore a.memory b.memory

-- The run was cut off, by a lost driver or for want of memory: the commands before were executed as OpenGL ES does, and the next one, if
-- any, made a front of its calls.
pub record RanShort {D : Type 0} (history : D → History) (grown : D → D → Type 0) (lost : Bool) (a : Side D) (before : List Reply) (b : Side D) (after : List Reply) : Type 0 where
  pub entries : List DriverEntry
  pub replies : List Reply
  pub answered : after ≡ before ++ replies
  pub served : Served history grown a.driver b.driver entries
  pub breaks : (reads : Reads) (then : ℕ → Seen) → AreGiven reads 0 b.memory.copies → BreaksOff lost (wire_of a.service) (seen_by reads a.memory a.service then) replies entries
  pub memory : HasMore a.memory b.memory

-- the commands up to put
abbrev pub IsServed : {D : Type 0} (history : D → History) (grown : D → D → Type 0) (a : Side D) (before : List Reply) (b : Side D) (after : List Reply) → Result (Unit {0}) ServiceStop → Type 0
IsServed history grown a before b after (Ok u) = RanOn history grown a before b after
IsServed history grown a before b after (Err (Bad at)) = RanTo history grown a before b after at
IsServed history grown a before b after (Err Lost) = RanShort history grown true a before b after × ((history b.driver).stop ≡ Some driver.Lost)
IsServed history grown a before b after (Err NoMemory) = RanShort history grown false a before b after
