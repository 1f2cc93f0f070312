-- How a run of commands stands behind some of them: what was answered and entered, and what may come.
use Rattle.std.specs.Prelude.{◌≡◌, List, [], ◌++◌, Option, Some, ℕ, Bool, ◌+◌, length}
use Rattle.gl_plain.specs.declared.calls.Reply.{Reply}
use Rattle.gl_plain.specs.declared.commands.Fetched.{Fetched}
use Rattle.gl_plain.specs.declared.commands.Stop.{Stop}
use Rattle.gl_plain.specs.declared.driver_calls.DriverEntry.{DriverEntry}
use Rattle.gl_plain.specs.Oracle.{Oracle}
use Rattle.gl_plain.specs.State.{WireState}
use Rattle.gl_plain.specs.driver.Answers.{told}
use Rattle.gl_plain.specs.Run.{wire_run, after_replies}
use Rattle.gl_plain.specs.Parts.{AreParts, AreCutParts}
use Rattle.cb_fetch.specs.Seen.{Seen}

-- What was answered and entered so far, with any run of the commands that are left, is a run of all, from this state of the service.
pub record GoesOn (w : WireState) (all : Seen) (now : WireState) (left : Seen) (replies : List Reply) (entries : List DriverEntry) : Type 0 where
  pub run : (rest : Oracle) → wire_run w all.commands all.stop (told entries rest) ≡ after_replies replies (wire_run now left.commands left.stop rest)
  pub parts : (more : List DriverEntry) (rest : Oracle) → AreParts now left.commands (told more rest) more → AreParts w all.commands (told (entries ++ more) rest) (entries ++ more)
  pub cut : (lost : Bool) (n : ℕ) (more : List DriverEntry) (rest : Oracle) → AreCutParts lost now left.commands n (told more rest) more
      → AreCutParts lost w all.commands (length replies + n) (told (entries ++ more) rest) (entries ++ more)

-- these commands, whatever comes behind them
abbrev pub then_seen : List Fetched → List Fetched → Option Stop → Seen
then_seen commands more stop = record { commands = commands ++ more; stop = stop }

-- the commands were executed with these replies and entries, as a run of the definition does, whatever comes behind them
abbrev pub HasRun : WireState → List Fetched → WireState → List Reply → List DriverEntry → Type 0
HasRun w commands now replies entries = (more : List Fetched) (stop : Option Stop) → GoesOn w (then_seen commands more stop) now (then_seen [] more stop) replies entries

-- from here a run goes further, with these replies and entries, whatever run it is
abbrev pub GoesFurther : WireState → Seen → WireState → Seen → List Reply → List DriverEntry → Type 0
GoesFurther now left now2 left2 replies entries = (w : WireState) (all : Seen) (before : List Reply) (entered : List DriverEntry)
    → GoesOn w all now left before entered → GoesOn w all now2 left2 (before ++ replies) (entered ++ entries)

-- the run of all stops with these replies and entries
pub record StopsWith (w : WireState) (all : Seen) (now : WireState) (stop : Stop) (replies : List Reply) (entries : List DriverEntry) : Type 0 where
  pub run : (rest : Oracle) → wire_run w all.commands all.stop (told entries rest) ≡ record { replies = replies; stop = Some stop; state = now }
  pub parts : (rest : Oracle) → AreParts w all.commands (told entries rest) entries

-- from here a run comes to this stop, with these replies and entries, whatever run it is
abbrev pub ComesTo : WireState → Seen → WireState → Stop → List Reply → List DriverEntry → Type 0
ComesTo now left now2 stop replies entries = (w : WireState) (all : Seen) (before : List Reply) (entered : List DriverEntry)
    → GoesOn w all now left before entered → StopsWith w all now2 stop (before ++ replies) (entered ++ entries)

-- The run of all was cut off behind these replies: they are the first of those that it gives, and the entries are one part for each
-- command that was answered and a front of the part of the next one, a proper front where the driver was lost.
pub record IsCutOff (lost : Bool) (w : WireState) (all : Seen) (replies : List Reply) (entries : List DriverEntry) : Type 0 where
  pub run : (rest : Oracle) → (more : List Reply) × ((wire_run w all.commands all.stop (told entries rest)).replies ≡ replies ++ more)
  pub parts : (rest : Oracle) → AreCutParts lost w all.commands (length replies) (told entries rest) entries

-- from here a run is cut off, with these replies and entries, whatever run it is
abbrev pub BreaksOff : (lost : Bool) → WireState → Seen → List Reply → List DriverEntry → Type 0
BreaksOff lost now left replies entries = (w : WireState) (all : Seen) (before : List Reply) (entered : List DriverEntry)
    → GoesOn w all now left before entered → IsCutOff lost w all (before ++ replies) (entered ++ entries)
