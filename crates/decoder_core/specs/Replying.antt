-- A command that is executed, with its reply written into shared memory.
use Rattle.std.specs.Prelude.{◌≡◌, List, Result, Ok, Err}
use Rattle.gl_plain.specs.declared.calls.Reply.{Reply}
use Rattle.gl_plain.specs.declared.commands.Fetched.{Fetched}
use Rattle.gl_plain.specs.declared.driver_calls.DriverEntry.{DriverEntry}
use Rattle.gl_plain.specs.State.{WireState}
use Rattle.gl_plain.specs.Meaning.{meaning_of}
use Rattle.gl_plain.specs.Parts.{IsFairFrontOf}
use Rattle.gl_driver.specs.History.{History, Served}
use Rattle.gl_driver.specs.Performed.{WasBad, WasLost}
use Rattle.cb_format.specs.declared.layouts.Plan.{Plan}
use Rattle.cb_format.specs.declared.layouts.Plan.TheVariants as plan
use Rattle.cb_format.specs.Plans.{plan_of}
use Rattle.cb_format.specs.Replied.{reply_bytes}
use Rattle.cb_shm.specs.Memory.{MemoryView, stored}
use Rattle.decoder_core.specs.declared.outcome.ServiceStop.{ServiceStop}
use Rattle.decoder_core.specs.declared.outcome.ServiceStop.TheVariants as stops
use Rattle.decoder_core.specs.Execution.{Did}

-- the bytes of the reply are written where the command's words say
abbrev pub replied_by : Plan → MemoryView → Reply → MemoryView
replied_by plan.Nothing m reply = m
replied_by (plan.Read region offset count) m reply = m
replied_by (plan.Write region offset count) m reply = stored m region offset (reply_bytes reply)

-- the memory after the reply of a command
abbrev pub replied : MemoryView → Fetched → Reply → MemoryView
replied m command reply = replied_by (plan_of command.number command.words.items) m reply

-- what the execution of a command answers, with its reply written; nothing is written where there is no reply
abbrev pub IsCarriedOut : Fetched → WireState → MemoryView → History → List DriverEntry → WireState → MemoryView → History → Result Reply ServiceStop → Type 0
IsCarriedOut f w m h entries w2 m2 h2 (Ok reply) = Did f w h h2 entries w2 reply × (m2 ≡ replied m f reply)
IsCarriedOut f w m h entries w2 m2 h2 (Err (stops.Bad stop)) = WasBad (meaning_of w f) h h2 entries w w2 stop.kind × (stop.place ≡ f.place) × (m2 ≡ m)
IsCarriedOut f w m h entries w2 m2 h2 (Err stops.Lost) = WasLost (meaning_of w f) h h2 entries × (m2 ≡ m)
IsCarriedOut f w m h entries w2 m2 h2 (Err stops.NoMemory) = IsFairFrontOf (meaning_of w f).bad (meaning_of w f).calls entries × (m2 ≡ m)

-- a command was executed by tables whose state was w and is w2, over memory and a driver, and its reply written
pub record CarriesOut {D : Type 0} (history : D → History) (grown : D → D → Type 0) (f : Fetched) (w : WireState) (m : MemoryView) (d : D) (w2 : WireState) (m2 : MemoryView) (d2 : D) (result : Result Reply ServiceStop) : Type 0 where
  pub entries : List DriverEntry
  pub served : Served history grown d d2 entries
  pub carried : IsCarriedOut f w m (history d) entries w2 m2 (history d2) result
