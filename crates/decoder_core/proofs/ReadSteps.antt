-- From a step of the fetcher to a step of the service.
use Rattle.std.proofs.Common.{◌≡◌, ◌≢◌, ◌⊎◌, ℕ, ◌+◌, [], refl, sym, ◌∙◌, ap, subst, Option, None, Some, inl, inr}
use Rattle.gl_plain.specs.declared.commands.Fetched.{Fetched}
use Rattle.gl_plain.specs.declared.commands.Malformed.{Malformed}
use Rattle.gl_plain.specs.declared.commands.Stop.{Stop}
use Rattle.gl_driver.specs.History.{History}
use Rattle.cb_shm.specs.Memory.{MemoryView}
use Rattle.cb_fetch.specs.FetchViews.{FetchView}
use Rattle.cb_fetch.specs.Fetching.{DidCopy, DidRead, FoundBad, StoppedBefore, FoundNoMemory}
use Rattle.cb_fetch.specs.declared.outcome.FetchStop.TheVariants as fetch
use Rattle.cb_fetch.specs.Seen.{Reads, command_at, copies_at, fault_at}
use Rattle.cb_fetch.specs.Reading.{IsBegun, IsRead}
use Rattle.decoder_core.specs.declared.outcome.ServiceStop.TheVariants as stops
use Rattle.decoder_core.specs.ServiceView.{ServiceView, get_in, get_of}
use Rattle.decoder_core.specs.Side.{side}
use Rattle.decoder_core.specs.Step.{DidFindBad, DidRunShort}
use Rattle.decoder_core.specs.Place.{StandsBy, Stands, IsWaiting, IsFault}

pub place_at : (reads : Reads) (n get : ℕ) → (command_at reads n get).place ≡ get
unfolding command_at
place_at reads n get = refl

module _ (reads : Reads) (sizes : ℕ → Option ℕ) (s : ServiceView) (none : s.waiting ≡ None) (n : ℕ) where
  -- no command waits, so one may be begun
  pub stands_begun : (now : ℕ) → Stands reads sizes s n now → IsBegun reads sizes s.fetch.entries s.fetch.put s.fetch.get n now s.fetch.begun
  stands_begun now stands = subst (StandsBy reads sizes s.fetch n now) none stands

  -- one more copy of it was made
  pub stands_copied : (f : FetchView) (m m2 : MemoryView) (now : ℕ) → DidCopy s.fetch m f m2 → IsBegun reads sizes s.fetch.entries s.fetch.put s.fetch.get n now f.begun
      → Stands reads sizes (record s { fetch = f }) n now × (get_in (record s { fetch = f }) ≡ get_in s)
  stands_copied f m m2 now did begun = (
    subst (StandsBy reads sizes f n now) (sym none) (
        rw (ap (λ (v : FetchView). v.entries) did.after, ap (λ (v : FetchView). v.put) did.after, ap (λ (v : FetchView). v.get) did.after) begun
        ),
    ap (get_of s.waiting) (ap (λ (v : FetchView). v.get) did.after),
  )

  -- its last copy was made
  pub stands_ready : (f : FetchView) (m m2 : MemoryView) (command : Fetched) (now : ℕ) → DidRead s.fetch m f m2 command → IsRead reads sizes s.fetch f n now command
      → IsWaiting reads sizes f n now command × (command.place ≡ get_in s)
  stands_ready f m m2 command now did read =
      let place : command.place ≡ s.fetch.get = ap (λ (c : Fetched). c.place) read.whole.command_is ∙ place_at reads n s.fetch.get in
      let entries : f.entries ≡ s.fetch.entries = ap (λ (v : FetchView). v.entries) did.after in
      let put : f.put ≡ s.fetch.put = ap (λ (v : FetchView). v.put) did.after in (
        record {
          apart = rw (put, place) read.apart;
          fair = rw (entries, put, place) read.whole.fair;
          command_is = read.whole.command_is ∙ ap (command_at reads n) (sym place);
          copies = read.whole.copies ∙ ap (λ (g : ℕ). n + copies_at reads n g) (sym place);
          next = rw (entries, place) read.whole.next;
          closer = rw (entries, put, place) read.closer;
          none_begun = ap (λ (v : FetchView). v.begun) did.after;
        },
        place ∙ ap (λ (w : Option Fetched). get_of w s.fetch.get) (sym none),
      )

  -- it was found malformed
  pub fault_found : (kind : Malformed) (place : ℕ) → (s.fetch.get ≢ s.fetch.put) × (fault_at reads sizes s.fetch.entries s.fetch.put n s.fetch.get ≡ Some kind) → place ≡ s.fetch.get → IsFault reads sizes s n kind × (place ≡ get_in s)
  fault_found kind place fault is =
      let here : get_in s ≡ s.fetch.get = ap (λ (w : Option Fetched). get_of w s.fetch.get) none in
      ((rw here fault.0, inl (ap (fault_at reads sizes s.fetch.entries s.fetch.put n) here ∙ fault.1)), is ∙ sym here)

-- what has not stopped has no stop
no_stop : {A : Type 0} {o : Option A} {x : A} → o ≡ None → o ≡ Some x → ⊥
no_stop none some = let no = sym none ∙ some in absurd (cc)

-- where the second can't be
by_first : {A B C : Type 0} → (A → C) → (B → ⊥) → A ⊎ B → C
by_first take refuse (inl a) = take a
by_first take refuse (inr b) = absurd (refuse b)

module _ (s : ServiceView) (m : MemoryView) (f : FetchView) (m2 : MemoryView) (h : History) (going : s.stop ≡ None) (none : s.waiting ≡ None) (fetching : s.fetch.stop ≡ None) where
  bad_found : (stop : Stop) → FoundBad s.fetch m f m2 stop → DidFindBad (side s m h) (side (record s { fetch = f; stop = Some (stops.Bad stop) }) m2 h) [] stop
  bad_found stop found = record { going = going; faulty = inl (none, found); after = refl; same_state = refl; untouched = record { no_calls = refl; same_driver = refl } }

  bad_before : (stop : Stop) → StoppedBefore s.fetch m f m2 (fetch.Bad stop) → ⊥
  bad_before stop before = no_stop fetching before.stopped

  -- the service finds a command malformed where its fetcher does
  pub finds_bad : (stop : Stop) → (FoundBad s.fetch m f m2 stop) ⊎ (StoppedBefore s.fetch m f m2 (fetch.Bad stop)) → DidFindBad (side s m h) (side (record s { fetch = f; stop = Some (stops.Bad stop) }) m2 h) [] stop
  finds_bad stop either = by_first (bad_found stop) (bad_before stop) either

  -- the service runs short of memory where its fetcher does
  pub runs_short : (FoundNoMemory s.fetch m f m2) ⊎ (StoppedBefore s.fetch m f m2 fetch.NoMemory) → DidRunShort (side s m h) (side (record s { fetch = f; stop = Some stops.NoMemory }) m2 h) []
  runs_short (inl found) = record { going = going; short = inl (none, found, refl, record { no_calls = refl; same_driver = refl }); after = refl; same = found.same }
  runs_short (inr before) = let no = sym fetching ∙ before.stopped in cc

-- the fetcher names the command at get
pub bad_place : (f f2 : FetchView) (m m2 : MemoryView) (stop : Stop) → f.stop ≡ None → (FoundBad f m f2 m2 stop) ⊎ (StoppedBefore f m f2 m2 (fetch.Bad stop)) → stop.place ≡ f.get
bad_place f f2 m m2 stop going (inl found) = found.place
bad_place f f2 m m2 stop going (inr before) = let no = sym going ∙ before.stopped in cc
