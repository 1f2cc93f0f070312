-- What one step of the service does for the commands up to put.
use Rattle.std.specs.Prelude.{◌≡◌, ◌<◌, ℕ, Bool, true, false, List, [], ◌++◌, length, Option, None, Result, Ok, Err, Some}
use Rattle.gl_plain.specs.declared.calls.Reply.{Reply}
use Rattle.gl_plain.specs.declared.commands.Stop.{Stop}
use Rattle.gl_plain.specs.declared.driver_calls.DriverEntry.{DriverEntry}
use Rattle.gl_plain.specs.Agreement.{Agrees}
use Rattle.gl_driver.specs.History.{History, Served}
use Rattle.gl_driver.specs.declared.stop.DriverStop.TheVariants as driver
use Rattle.cb_fetch.specs.Fetching.{distance}
use Rattle.cb_fetch.specs.Seen.{Reads, AreGiven, Seen, seen_from}
use Rattle.decoder_core.specs.declared.outcome.ServiceStop.{ServiceStop}
use Rattle.decoder_core.specs.declared.outcome.ServiceStop.TheVariants.{Bad, Lost, NoMemory}
use Rattle.decoder_core.specs.ServiceView.{ServiceView, wire_of, IsAtRest, get_in}
use Rattle.decoder_core.specs.Side.{Side}
use Rattle.decoder_core.specs.Remaining.{left_to_do}
use Rattle.decoder_core.specs.Place.{Stands}
use Rattle.decoder_core.specs.RunsSoFar.{GoesFurther, ComesTo, BreaksOff}
use Rattle.decoder_core.specs.Serving.{HasMore}

-- the service stands at the command whose header is copy n, and no more than k commands fit before put, which is fewer than there is room for
pub record IsAmong (reads : Reads) (sizes : ℕ → Option ℕ) (s : ServiceView) (n now k : ℕ) : Type 0 where
  pub stands : Stands reads sizes s n now
  pub some : 0 < k
  pub near : s.fetch.put < s.fetch.entries → distance s.fetch.entries s.fetch.put (get_in s) < k

-- the commands that are left up to put, and then others
abbrev pub left_seen : Reads → (ℕ → Option ℕ) → ServiceView → ℕ → ℕ → (ℕ → Seen) → Seen
left_seen reads sizes s n k then = seen_from reads sizes s.fetch.entries s.fetch.put k n (get_in s) then

-- the ring and its put are the same
pub record HasSameRing (s s2 : ServiceView) : Type 0 where
  pub entries : s2.fetch.entries ≡ s.fetch.entries
  pub put : s2.fetch.put ≡ s.fetch.put

-- where the commands that are left go further, with these replies and entries
abbrev pub LeadsOn : {D : Type 0} → Side D → Side D → List Reply → List DriverEntry → Type 0
LeadsOn a b replies entries = (reads : Reads) (then : ℕ → Seen) (n k : ℕ) → AreGiven reads 0 b.memory.copies → IsAmong reads a.memory.sizes a.service n (length a.memory.copies) k
    → (n2 k2 : ℕ) × IsAmong reads a.memory.sizes b.service n2 (length b.memory.copies) k2
    × GoesFurther (wire_of a.service) (left_seen reads a.memory.sizes a.service n k then) (wire_of b.service) (left_seen reads a.memory.sizes b.service n2 k2 then) replies entries

-- a copy was made, or a command executed and its reply added
pub record Took {D : Type 0} (history : D → History) (grown : D → D → Type 0) (a : Side D) (before : List Reply) (b : Side D) (after : List Reply) : Type 0 where
  pub entries : List DriverEntry
  pub replies : List Reply
  pub answered : after ≡ before ++ replies
  pub served : Served history grown a.driver b.driver entries
  pub leads : LeadsOn a b replies entries
  pub agrees : Agrees (wire_of b.service) (history b.driver).state
  pub stop : (history b.driver).stop ≡ (history a.driver).stop
  pub going : b.service.stop ≡ None
  pub memory : HasMore a.memory b.memory
  pub same_ring : HasSameRing a.service b.service
  pub less : left_to_do b.service < left_to_do a.service

-- there was nothing to do
pub record Rested {D : Type 0} (history : D → History) (grown : D → D → Type 0) (a : Side D) (before : List Reply) (b : Side D) (after : List Reply) : Type 0 where
  pub answered : after ≡ before
  pub served : Served history grown a.driver b.driver []
  pub same_driver : history b.driver ≡ history a.driver
  pub same : b.service ≡ a.service
  pub same_memory : b.memory ≡ a.memory
  pub at_rest : IsAtRest a.service
  pub at_put : a.service.fetch.get ≡ a.service.fetch.put

-- the command at get is malformed
pub record FoundFault {D : Type 0} (history : D → History) (grown : D → D → Type 0) (a : Side D) (before : List Reply) (b : Side D) (after : List Reply) (at : Stop) : Type 0 where
  pub answered : after ≡ before
  pub served : Served history grown a.driver b.driver []
  pub same_driver : history b.driver ≡ history a.driver
  pub comes : (reads : Reads) (then : ℕ → Seen) (n k : ℕ) → AreGiven reads 0 b.memory.copies → IsAmong reads a.memory.sizes a.service n (length a.memory.copies) k
      → ComesTo (wire_of a.service) (left_seen reads a.memory.sizes a.service n k then) (wire_of b.service) at [] []
  pub agrees : Agrees (wire_of b.service) (history b.driver).state
  pub memory : HasMore a.memory b.memory

-- the step was cut off, by a lost driver or for want of memory, behind these calls
pub record WasCut {D : Type 0} (history : D → History) (grown : D → D → Type 0) (lost : Bool) (a : Side D) (before : List Reply) (b : Side D) (after : List Reply) : Type 0 where
  pub entries : List DriverEntry
  pub answered : after ≡ before
  pub served : Served history grown a.driver b.driver entries
  pub breaks : (reads : Reads) (then : ℕ → Seen) (n k : ℕ) → AreGiven reads 0 b.memory.copies → IsAmong reads a.memory.sizes a.service n (length a.memory.copies) k
      → BreaksOff lost (wire_of a.service) (left_seen reads a.memory.sizes a.service n k then) [] entries
  pub memory : HasMore a.memory b.memory

-- one step, by whether there may be more to do
abbrev pub Takes : {D : Type 0} (history : D → History) (grown : D → D → Type 0) (a : Side D) (before : List Reply) (b : Side D) (after : List Reply) → Result Bool ServiceStop → Type 0
Takes history grown a before b after (Ok true) = Took history grown a before b after
Takes history grown a before b after (Ok false) = Rested history grown a before b after
Takes history grown a before b after (Err (Bad at)) = FoundFault history grown a before b after at
Takes history grown a before b after (Err Lost) = WasCut history grown true a before b after × ((history b.driver).stop ≡ Some driver.Lost)
Takes history grown a before b after (Err NoMemory) = WasCut history grown false a before b after
