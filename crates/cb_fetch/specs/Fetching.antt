-- What one step of a fetcher does.
use Rattle.std.specs.Prelude.{◌≡◌, ◌≢◌, ◌≤◌, ◌<◌, ◌⊎◌, ℕ, ◌+◌, ◌-◌, ◌*◌, ◌^◌, nat_le, if◌then◌else◌, List, length, Some, None, IsSome}
use Rattle.gl_plain.specs.declared.commands.Malformed.TheVariants.{OutOfBounds}
use Rattle.gl_plain.specs.declared.commands.Fetched.{Fetched}
use Rattle.gl_plain.specs.declared.commands.Stop.{Stop}
use Rattle.cb_format.specs.Plans.{plan_of, data_count}
use Rattle.cb_format.specs.Ring.{number_in, size_in, next_get}
use Rattle.cb_shm.specs.Memory.{MemoryView, copied}
use Rattle.cb_fetch.specs.declared.outcome.FetchStop.{FetchStop}
use Rattle.cb_fetch.specs.declared.outcome.FetchStop.TheVariants as stops
use Rattle.cb_fetch.specs.declared.outcome.FetchOutcome.{FetchOutcome}
use Rattle.cb_fetch.specs.declared.outcome.FetchOutcome.TheVariants.{Copied, Ready, Idle, Bad, NoMemory}
use Rattle.cb_fetch.specs.Begun.{Begun, Nothing, Header, Body, Range, next_range, with_copy, fault_in, header_in, fetched_in}
use Rattle.cb_fetch.specs.FetchViews.{FetchView}

-- a command is there to be read: one is begun, or put is elsewhere in the ring
abbrev pub IsReading : FetchView → Type 0
IsReading f = f.begun ≡ Nothing → (f.get ≢ f.put) × (f.put < f.entries)

-- One copy was made, the planned one, and with it this was copied of the command.
pub record MadeCopy (f : FetchView) (m m2 : MemoryView) (now : Begun) : Type 0 where
  pub going : f.stop ≡ None
  pub reading : IsReading f
  pub range : Range
  pub planned : next_range f.get f.begun ≡ Some range
  pub bytes : List ℕ
  pub whole : length bytes ≡ range.count
  pub made : m2 ≡ copied m range.region range.offset bytes
  pub now_is : now ≡ with_copy f.begun bytes

-- the command needs more copies
pub record DidCopy (f : FetchView) (m : MemoryView) (f2 : FetchView) (m2 : MemoryView) : Type 0 where
  pub now : Begun
  pub copy : MadeCopy f m m2 now
  pub fair : fault_in m.sizes f.entries f.put f.get now ≡ None
  pub more : IsSome (next_range f.get now)
  pub after : f2 ≡ record f { begun = now }

-- that was the last copy of the command
pub record DidRead (f : FetchView) (m : MemoryView) (f2 : FetchView) (m2 : MemoryView) (command : Fetched) : Type 0 where
  pub now : Begun
  pub copy : MadeCopy f m m2 now
  pub fair : fault_in m.sizes f.entries f.put f.get now ≡ None
  pub whole : next_range f.get now ≡ None
  pub command_is : command ≡ fetched_in f.get now
  pub after : f2 ≡ record f { get = next_get f.entries f.get (size_in (header_in now)); begun = Nothing }

-- there is nothing to read
pub record IsAtPut (f : FetchView) (m : MemoryView) (f2 : FetchView) (m2 : MemoryView) : Type 0 where
  pub going : f.stop ≡ None
  pub none_begun : f.begun ≡ Nothing
  pub at_put : f.get ≡ f.put
  pub after : f2 ≡ f
  pub same : m2 ≡ m

-- the command at get was found malformed: before its header was copied, since put is not below the entries, or at this copy
pub record FoundBad (f : FetchView) (m : MemoryView) (f2 : FetchView) (m2 : MemoryView) (stop : Stop) : Type 0 where
  pub place : stop.place ≡ f.get
  pub fault : ((f.stop ≡ None) × (f.begun ≡ Nothing) × (f.get ≢ f.put) × (f.entries ≤ f.put) × (stop.kind ≡ OutOfBounds) × (m2 ≡ m))
      ⊎ ((now : Begun) × MadeCopy f m m2 now × (fault_in m.sizes f.entries f.put f.get now ≡ Some stop.kind))
  pub after : f2 ≡ record f { begun = f2.begun; stop = Some (stops.Bad stop) }

-- the fetcher stopped before
pub record StoppedBefore (f : FetchView) (m : MemoryView) (f2 : FetchView) (m2 : MemoryView) (stop : FetchStop) : Type 0 where
  pub stopped : f.stop ≡ Some stop
  pub after : f2 ≡ f
  pub same : m2 ≡ m

-- there was no memory for a copy, and none was made
pub record FoundNoMemory (f : FetchView) (m : MemoryView) (f2 : FetchView) (m2 : MemoryView) : Type 0 where
  pub going : f.stop ≡ None
  pub after : f2 ≡ record f { begun = f2.begun; stop = Some stops.NoMemory }
  pub same : m2 ≡ m

-- what an outcome says
abbrev pub IsFetch : FetchView → MemoryView → FetchView → MemoryView → FetchOutcome → Type 0
IsFetch f m f2 m2 Copied = DidCopy f m f2 m2
IsFetch f m f2 m2 (Ready command) = DidRead f m f2 m2 command
IsFetch f m f2 m2 Idle = IsAtPut f m f2 m2
IsFetch f m f2 m2 (Bad kind place) = let stop : Stop = record { kind = kind; place = place } in FoundBad f m f2 m2 stop ⊎ StoppedBefore f m f2 m2 (stops.Bad stop)
IsFetch f m f2 m2 NoMemory = FoundNoMemory f m f2 m2 ⊎ StoppedBefore f m f2 m2 stops.NoMemory

-- how many entries there are from get up to put
abbrev pub distance : ℕ → ℕ → ℕ → ℕ
distance entries put get = if nat_le get put then put - get else entries - get + put

-- how much is left of the command that is begun
abbrev pub left_of : Begun → ℕ
left_of Nothing = 0
left_of (Header header) = 2 ^ 32 + 1
left_of (Body header words payload) = data_count (plan_of (number_in header) words) - length payload

-- the entry from which on no command is begun
abbrev pub unbegun : FetchView → Begun → ℕ
unbegun f Nothing = f.get
unbegun f (Header header) = next_get f.entries f.get (size_in header)
unbegun f (Body header words payload) = next_get f.entries f.get (size_in header)

-- how much is left to be read up to put
abbrev pub left_in : FetchView → ℕ
left_in f = 2 ^ 33 * distance f.entries f.put (unbegun f f.begun) + left_of f.begun

-- there is less left after a copy
abbrev pub IsLess : FetchView → FetchView → FetchOutcome → Type 0
IsLess f f2 Copied = left_in f2 < left_in f
IsLess f f2 (Ready command) = left_in f2 < left_in f
IsLess f f2 Idle = Unit {0}
IsLess f f2 (Bad kind place) = Unit {0}
IsLess f f2 NoMemory = Unit {0}
