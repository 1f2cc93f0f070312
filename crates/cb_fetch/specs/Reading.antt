-- What a fetcher copies is what memory holds at the number of each copy.
use Rattle.std.specs.Prelude.{◌≡◌, ◌≢◌, ◌<◌, ℕ, ◌+◌, ◌*◌, List, length, Option, Some, None}
use Rattle.gl_plain.specs.declared.commands.Fetched.{Fetched}
use Rattle.cb_format.specs.declared.layouts.Plan.TheVariants as plan
use Rattle.cb_format.specs.Plans.{plan_of}
use Rattle.cb_format.specs.Ring.{number_in, size_in, first_fault, range_fault, next_get}
use Rattle.cb_fetch.specs.declared.outcome.FetchOutcome.{FetchOutcome}
use Rattle.cb_fetch.specs.declared.outcome.FetchOutcome.TheVariants.{Copied, Ready, Idle, Bad, NoMemory}
use Rattle.gl_base.specs.declared.limits.TheConstants.{COPY_LIMIT}
use Rattle.cb_fetch.specs.Begun.{Begun, Nothing, Header, Body}
use Rattle.cb_fetch.specs.Fetching.{distance}
use Rattle.cb_fetch.specs.FetchViews.{FetchView}
use Rattle.cb_fetch.specs.Seen.{Reads, header_read, words_read, pieces_read, command_at, copies_at, fault_at}

-- Whole pieces of the data were copied, from copy n on; this many copies were made before.
pub record ArePieces (reads : Reads) (n now region offset count : ℕ) (payload : List ℕ) : Type 0 where
  pub pieces : ℕ
  pub made : now ≡ n + pieces
  pub bytes : payload ≡ pieces_read reads n region offset count pieces
  pub full : length payload ≡ COPY_LIMIT * pieces

-- What was copied of the command at get, whose header is copy n, where `now` copies were made in all; its tests so far hold.
abbrev pub HasCopied : Reads → (ℕ → Option ℕ) → ℕ → ℕ → ℕ → ℕ → ℕ → Begun → Type 0
HasCopied reads sizes entries put get n now Nothing = now ≡ n
HasCopied reads sizes entries put get n now (Header header) = (now ≡ n + 1) × (header ≡ header_read reads n get) × (first_fault entries put get header ≡ None)
HasCopied reads sizes entries put get n now (Body header words payload) =
    (header ≡ header_read reads n get) × (first_fault entries put get header ≡ None)
    × (words ≡ words_read reads n get) × (range_fault sizes (plan_of (number_in header) words) ≡ None)
    × ((region offset count : ℕ) × (plan_of (number_in header) words ≡ plan.Read region offset count) × ArePieces reads (n + 2) now region offset count payload)

-- get is not put, where a command is begun
abbrev pub IsApart : ℕ → ℕ → Begun → Type 0
IsApart put get Nothing = Unit {0}
IsApart put get (Header header) = get ≢ put
IsApart put get (Body header words payload) = get ≢ put

-- both
abbrev pub IsBegun : Reads → (ℕ → Option ℕ) → ℕ → ℕ → ℕ → ℕ → ℕ → Begun → Type 0
IsBegun reads sizes entries put get n now begun = HasCopied reads sizes entries put get n now begun × IsApart put get begun

-- the command that begins with copy n was read whole
pub record HasRead (reads : Reads) (sizes : ℕ → Option ℕ) (f f2 : FetchView) (n now : ℕ) (command : Fetched) : Type 0 where
  pub fair : fault_at reads sizes f.entries f.put n f.get ≡ None
  pub command_is : command ≡ command_at reads n f.get
  pub copies : now ≡ n + copies_at reads n f.get
  pub next : f2.get ≡ next_get f.entries f.get (size_in (header_read reads n f.get))

-- a command was read whole, and get came closer to put
pub record IsRead (reads : Reads) (sizes : ℕ → Option ℕ) (f f2 : FetchView) (n now : ℕ) (command : Fetched) : Type 0 where
  pub whole : HasRead reads sizes f f2 n now command
  pub apart : f.get ≢ f.put
  pub closer : distance f.entries f.put f2.get < distance f.entries f.put f.get

-- what an outcome says of the command that begins with copy n, where `now` copies were made by then
abbrev pub IsSeen : Reads → (ℕ → Option ℕ) → FetchView → FetchView → ℕ → ℕ → FetchOutcome → Type 0
IsSeen reads sizes f f2 n now Copied = IsBegun reads sizes f.entries f.put f.get n now f2.begun
IsSeen reads sizes f f2 n now (Ready command) = IsRead reads sizes f f2 n now command
IsSeen reads sizes f f2 n now Idle = Unit {0}
IsSeen reads sizes f f2 n now (Bad kind place) = f.stop ≡ None → (f.get ≢ f.put) × (fault_at reads sizes f.entries f.put n f.get ≡ Some kind)
IsSeen reads sizes f f2 n now NoMemory = Unit {0}
