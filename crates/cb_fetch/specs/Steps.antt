-- What the functions behind one step of a fetcher find and leave.
use Rattle.std.specs.Prelude.{◌≡◌, ◌≢◌, ◌≤◌, ◌<◌, ℕ, ◌+◌, ◌^◌, List, length, Some, None}
use Rattle.cb_shm.specs.Memory.{MemoryView, copied}
use Rattle.cb_format.specs.declared.layouts.Layout.{Layout}
use Rattle.cb_format.specs.declared.layouts.Plan.{Plan}
use Rattle.cb_format.specs.declared.layouts.Plan.TheVariants as plan
use Rattle.cb_format.specs.Headers.{header_of, header_word}
use Rattle.cb_format.specs.Layouts.{IsFitting, layout_of}
use Rattle.cb_format.specs.Ring.{number_in, size_in}
use Rattle.cb_fetch.specs.declared.outcome.FetchOutcome.{FetchOutcome}
use Rattle.cb_fetch.specs.declared.stages.Start.{Start}
use Rattle.cb_fetch.specs.Begun.{Range, Begun, Nothing, Header, Body}
use Rattle.cb_fetch.specs.FetchViews.{FetchView}
use Rattle.cb_fetch.specs.Fetching.{IsFetch, IsLess}
use Rattle.cb_fetch.specs.Readable.{BringsReadable}
use Rattle.cb_fetch.specs.Seen.{Reads, AreGiven}
use Rattle.cb_fetch.specs.Reading.{IsBegun, IsSeen}

-- a copy of this range was made, and gave these bytes
pub record Gave (m : MemoryView) (range : Range) (bytes : List ℕ) (m2 : MemoryView) : Type 0 where
  pub whole : length bytes ≡ range.count
  pub made : m2 ≡ copied m range.region range.offset bytes

-- a header that passed its five tests, of a command with this layout
pub record HasLayout (entries get header : ℕ) (layout : Layout) : Type 0 where
  pub known : layout_of (number_in header) ≡ Some layout
  pub fitting : IsFitting layout
  pub sized : 0 < layout.words → size_in header ≡ layout.words + 1
  pub some : 0 < size_in header
  pub inside : get + size_in header ≤ entries

-- so it is parsed
pub record IsStart (entries get header : ℕ) (start : Start) : Type 0 where
  pub word : header_word start.header ≡ header
  pub read : start.header ≡ header_of header
  pub passed : HasLayout entries get header start.layout

-- so many bytes are a front of the data of a plan, whose range has an end of 32 bits
abbrev pub IsFront : Plan → ℕ → Type 0
IsFront plan.Nothing done = done ≡ 0
IsFront (plan.Read region offset count) done = (done ≤ count) × (offset + count < 2 ^ 32)
IsFront (plan.Write region offset count) done = done ≡ 0

-- a fetcher goes on, nothing is begun, and get is not put
pub record IsAtHeader (f : FetchView) : Type 0 where
  pub going : f.stop ≡ None
  pub begun : f.begun ≡ Nothing
  pub apart : f.get ≢ f.put

-- a fetcher goes on, and this header was copied, whose command has words
pub record IsAtWords (f : FetchView) (start : Start) : Type 0 where
  pub going : f.stop ≡ None
  pub begun : f.begun ≡ Header (header_word start.header)
  pub read : IsStart f.entries f.get (header_word start.header) start
  pub some : 0 < start.layout.words

-- the words were copied
abbrev pub HasBody : Begun → Type 0
HasBody Nothing = ⊥
HasBody (Header header) = ⊥
HasBody (Body header words payload) = Unit {0}

-- a fetcher goes on, and the words of a command were copied
pub record IsAtData (f : FetchView) : Type 0 where
  pub going : f.stop ≡ None
  pub begun : HasBody f.begun

-- one step of a fetcher
pub record IsStep (f : FetchView) (m : MemoryView) (f2 : FetchView) (m2 : MemoryView) (outcome : FetchOutcome) : Type 0 where
  pub fetch : IsFetch f m f2 m2 outcome
  pub readable : BringsReadable outcome
  pub seen : (reads : Reads) (n : ℕ) → AreGiven reads 0 m2.copies → IsBegun reads m.sizes f.entries f.put f.get n (length m.copies) f.begun → IsSeen reads m.sizes f f2 n (length m2.copies) outcome
  pub less : IsLess f f2 outcome
