-- What a fetcher holds.
use Rattle.std.specs.Prelude.{◌≡◌, ◌≤◌, ◌<◌, ℕ, ◌+◌, ◌^◌, length}
use Rattle.cb_format.specs.declared.layouts.Layout.{Layout}
use Rattle.cb_format.specs.declared.layouts.Plan.TheVariants as plan
use Rattle.cb_format.specs.Headers.{header_of, header_word}
use Rattle.cb_format.specs.Plans.{plan_of}
use Rattle.cb_format.specs.Ring.{number_in}
use Rattle.cb_fetch.specs.declared.stages.Body as stages
use Rattle.cb_fetch.specs.declared.stages.Stage.{Stage}
use Rattle.cb_fetch.specs.declared.stages.Stage.TheVariants as next
use Rattle.cb_fetch.specs.declared.fetcher.Fetcher.TheInside.{Inside}
use Rattle.cb_fetch.specs.Begun.{Begun, Nothing, Header, Body}
use Rattle.cb_fetch.specs.FetchViews.{FetchView}
use Rattle.cb_fetch.specs.Steps.{HasLayout, IsStart}

-- what was copied of a command, by the copy that comes next
abbrev pub begun_of : Stage → Begun
begun_of next.Header = Nothing
begun_of (next.Words start) = Header (header_word start.header)
begun_of (next.Data body) = Body (header_word body.header) body.words.items body.payload.items

abbrev pub view_of : Inside → FetchView
view_of a = record { entries = a.entries; put = a.put; get = a.get; begun = begun_of a.stage; stop = a.stop }

-- a command whose header and words passed their tests, with the range that its words name and a front of the data in it
pub record IsBody (entries get : ℕ) (body : stages.Body) : Type 0 where
  pub read : body.header ≡ header_of (header_word body.header)
  pub layout : Layout
  pub passed : HasLayout entries get (header_word body.header) layout
  pub words : length body.words.items ≡ layout.words
  pub some : 0 < layout.words
  pub planned : plan_of (number_in (header_word body.header)) body.words.items ≡ plan.Read body.region body.offset body.count
  pub left : length body.payload.items < body.count
  pub small : body.offset + body.count < 2 ^ 32

-- what was copied of a command passed its tests so far, and is not all of it
abbrev pub IsPart : ℕ → ℕ → Stage → Type 0
IsPart entries get next.Header = Unit {0}
IsPart entries get (next.Words start) = IsStart entries get (header_word start.header) start × (0 < start.layout.words)
IsPart entries get (next.Data body) = IsBody entries get body

-- the ring has 2 to 1,048,576 entries, get is one of them, and what is begun is a part of a command
pub record IsFetcher (a : Inside) : Type 0 where
  pub some : 2 ≤ a.entries
  pub few : a.entries ≤ 1048576
  pub inside : a.get < a.entries
  pub part : IsPart a.entries a.get a.stage
