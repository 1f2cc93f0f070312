-- Where the service stands among the commands that memory holds.
use Rattle.std.specs.Prelude.{◌≡◌, ◌≢◌, ◌<◌, ◌⊎◌, ℕ, ◌+◌, true, length, Option, None, Some}
use Rattle.gl_plain.specs.declared.commands.Fetched.{Fetched}
use Rattle.gl_plain.specs.declared.commands.Malformed.{Malformed}
use Rattle.gl_plain.specs.declared.commands.Malformed.TheVariants.{InvalidArguments}
use Rattle.gl_plain.specs.Meaning.{meaning_of}
use Rattle.cb_format.specs.Ring.{size_in, next_get}
use Rattle.cb_fetch.specs.Begun.{Nothing}
use Rattle.cb_fetch.specs.FetchViews.{FetchView}
use Rattle.cb_fetch.specs.Seen.{Reads, AreGiven, header_read, command_at, copies_at, fault_at}
use Rattle.cb_fetch.specs.Fetching.{distance}
use Rattle.cb_fetch.specs.Reading.{IsBegun}
use Rattle.decoder_core.specs.declared.outcome.StepOutcome.{StepOutcome}
use Rattle.decoder_core.specs.declared.outcome.StepOutcome.TheVariants.{Copied, Executed, Idle, Bad, Lost, NoMemory}
use Rattle.decoder_core.specs.ServiceView.{ServiceView, wire_of, get_in}
use Rattle.decoder_core.specs.Side.{Side}

-- the command that waits is the one at get whose header is copy n, and all its tests hold
pub record IsWaiting (reads : Reads) (sizes : ℕ → Option ℕ) (f : FetchView) (n now : ℕ) (command : Fetched) : Type 0 where
  pub apart : command.place ≢ f.put
  pub fair : fault_at reads sizes f.entries f.put n command.place ≡ None
  pub command_is : command ≡ command_at reads n command.place
  pub copies : now ≡ n + copies_at reads n command.place
  pub next : f.get ≡ next_get f.entries command.place (size_in (header_read reads n command.place))
  pub closer : distance f.entries f.put f.get < distance f.entries f.put command.place
  pub none_begun : f.begun ≡ Nothing

-- the service stands at the command whose header is copy n, where `now` copies were made in all: it waits, or so much of it was copied
abbrev pub StandsBy : Reads → (ℕ → Option ℕ) → FetchView → ℕ → ℕ → Option Fetched → Type 0
StandsBy reads sizes f n now (Some command) = IsWaiting reads sizes f n now command
StandsBy reads sizes f n now None = IsBegun reads sizes f.entries f.put f.get n now f.begun

-- the same of a service
abbrev pub Stands : Reads → (ℕ → Option ℕ) → ServiceView → ℕ → ℕ → Type 0
Stands reads sizes s n now = StandsBy reads sizes s.fetch n now s.waiting

-- the first test that fails at the command whose header is copy n gives this kind
abbrev pub IsFault : Reads → (ℕ → Option ℕ) → ServiceView → ℕ → Malformed → Type 0
IsFault reads sizes s n kind = (get_in s ≢ s.fetch.put) × (
    (fault_at reads sizes s.fetch.entries s.fetch.put n (get_in s) ≡ Some kind)
    ⊎ ((fault_at reads sizes s.fetch.entries s.fetch.put n (get_in s) ≡ None) × ((meaning_of (wire_of s) (command_at reads n (get_in s))).bad ≡ true) × (kind ≡ InvalidArguments)))

-- what a step says of the command whose header is copy n, where `now` copies were made by then
abbrev pub StandsAfter : Reads → (ℕ → Option ℕ) → ServiceView → ServiceView → ℕ → ℕ → StepOutcome → Type 0
StandsAfter reads sizes s s2 n now Copied = Stands reads sizes s2 n now × (get_in s2 ≡ get_in s)
StandsAfter reads sizes s s2 n now (Executed reply) = Stands reads sizes s2 now now
StandsAfter reads sizes s s2 n now Idle = Unit {0}
StandsAfter reads sizes s s2 n now (Bad kind place) = s.stop ≡ None → IsFault reads sizes s n kind × (place ≡ get_in s)
StandsAfter reads sizes s s2 n now Lost = Unit {0}
StandsAfter reads sizes s s2 n now NoMemory = Unit {0}

-- where each copy gave what is read at its number, the service goes through the commands that stand there
abbrev pub KeepsPlace : {D : Type 0} → Side D → Side D → StepOutcome → Type 0
KeepsPlace a b outcome = (reads : Reads) (n : ℕ) → AreGiven reads 0 b.memory.copies → Stands reads a.memory.sizes a.service n (length a.memory.copies)
    → StandsAfter reads a.memory.sizes a.service b.service n (length b.memory.copies) outcome
