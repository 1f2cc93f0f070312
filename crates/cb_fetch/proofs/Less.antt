-- Each copy leaves less to be read.
use Rattle.std.proofs.Common.{◌≡◌, ◌≢◌, ◌<◌, ◌≤◌, ℕ, ◌+◌, ◌^◌, ◌++◌, List, [], length, Option, None, refl, subst, arith, length-append}
use Rattle.std.proofs.lemmas.Bool.Decides.{nat_tests}
use Rattle.gl_plain.specs.Bytes.{word_at, words_from}
use Rattle.gl_plain.specs.declared.commands.Fetched.{Fetched}
use Rattle.cb_format.specs.declared.layouts.Plan.{Plan}
use Rattle.cb_format.specs.declared.layouts.Plan.TheVariants as plan
use Rattle.cb_format.specs.Plans.{plan_of, data_count}
use Rattle.cb_format.specs.Ring.{number_in, size_in, ready, next_get, first_fault}
use Rattle.cb_shm.specs.Memory.{MemoryView}
use Rattle.cb_fetch.specs.declared.outcome.FetchStop.{FetchStop}
use Rattle.cb_fetch.specs.Begun.{Begun, Nothing, Header, Body, word_count, header_in, fault_in}
use Rattle.cb_fetch.specs.FetchViews.{FetchView}
use Rattle.cb_fetch.specs.Fetching.{MadeCopy, DidCopy, DidRead, distance, left_in}
use Rattle.cb_fetch.specs.Steps.{IsFront}
use Rattle.cb_fetch.proofs.Layouts.{put_below, size_some, size_ready}
use Rattle.cb_fetch.proofs.Passed.{HasPassed, piece_some}

-- the entry behind a command that is ready is nearer to put
nearer_by : (entries put get size : ℕ) → get ≢ put → put < entries → get < entries → 0 < size → size ≤ ready entries put get → distance entries put (next_get entries get size) + 1 ≤ distance entries put get
nearer_by entries put get size apart lt inside some fit = grind (arith, nat_tests)

-- so is the one behind a header that passed its tests
pub nearer : (entries put get header : ℕ) → get < entries → get ≢ put → first_fault entries put get header ≡ None → distance entries put (next_get entries get (size_in header)) + 1 ≤ distance entries put get
nearer entries put get header lt apart fair =
    nearer_by entries put get (size_in header) apart (put_below entries put get header fair) lt (size_some entries put get header fair) (size_ready entries put get header fair)

small_data : (p : Plan) (done : ℕ) → IsFront p done → data_count p < 2 ^ 32
small_data plan.Nothing done f = omega arith
small_data (plan.Read region offset count) done f = omega (arith, f.1)
small_data (plan.Write region offset count) done f = omega arith

module _ (entries put get : ℕ) (stop : Option FetchStop) (m m2 : MemoryView) (lt : get < entries) where
  -- a fetcher that has begun so
  abbrev with_begun : Begun → FetchView
  with_begun begun = record { entries = entries; put = put; get = get; begun = begun; stop = stop }

  -- one that is behind a command
  abbrev behind : ℕ → FetchView
  behind header = record { entries = entries; put = put; get = next_get entries get (size_in header); begun = Nothing; stop = stop }

  copied_less : (begun now : Begun) → MadeCopy (with_begun begun) m m2 now → fault_in m.sizes entries put get now ≡ None → HasPassed entries get now → left_in (with_begun now) < left_in (with_begun begun)
  copied_less Nothing now c fair passed = rw c.now_is (header_less (word_at c.bytes 0) (rw c.now_is at fair)) where
    header_less : (header : ℕ) → first_fault entries put get header ≡ None → left_in (with_begun (Header header)) < left_in (with_begun Nothing)
    header_less header fair =
        let n = nearer entries put get header lt (c.reading refl).0 fair in
        omega arith
  copied_less (Header header) now c fair passed = rw c.now_is (words_less (words_from c.bytes 0 (word_count header)) (subst (HasPassed entries get) c.now_is passed).front) where
    words_less : (words : List ℕ) → IsFront (plan_of (number_in header) words) 0 → left_in (with_begun (Body header words [])) < left_in (with_begun (Header header))
    words_less words front =
        let n = small_data (plan_of (number_in header) words) 0 front in
        omega arith
  copied_less (Body header words payload) now c fair passed =
      let p = piece_some (plan_of (number_in header) words) (length payload) c.range c.planned in
      let n : length (payload ++ c.bytes) ≡ length payload + length c.bytes = length-append payload c.bytes in
      let w = c.whole in
      rw c.now_is (omega (arith, n, w, p.0, p.1, p.2))

  read_less : (begun now : Begun) → MadeCopy (with_begun begun) m m2 now → fault_in m.sizes entries put get now ≡ None → left_in (behind (header_in now)) < left_in (with_begun begun)
  read_less Nothing now c fair = rw c.now_is (header_less (word_at c.bytes 0) (rw c.now_is at fair)) where
    header_less : (header : ℕ) → first_fault entries put get header ≡ None → left_in (behind header) < left_in (with_begun Nothing)
    header_less header fair =
        let n = nearer entries put get header lt (c.reading refl).0 fair in
        omega arith
  read_less (Header header) now c fair = rw c.now_is (omega arith)
  read_less (Body header words payload) now c fair =
      let p = piece_some (plan_of (number_in header) words) (length payload) c.range c.planned in
      rw c.now_is (omega (arith, p.2))

module _ (f f2 : FetchView) (m m2 : MemoryView) (inside : f.get < f.entries) where
  pub less_copied : (d : DidCopy f m f2 m2) → HasPassed f.entries f.get d.now → left_in f2 < left_in f
  less_copied d passed = rw d.after (copied_less f.entries f.put f.get f.stop m m2 inside f.begun d.now d.copy d.fair passed)

  pub less_read : (command : Fetched) → DidRead f m f2 m2 command → left_in f2 < left_in f
  less_read command d = rw d.after (read_less f.entries f.put f.get f.stop m m2 inside f.begun d.now d.copy d.fair)
