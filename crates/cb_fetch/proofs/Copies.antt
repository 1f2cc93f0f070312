-- The one copy that was made of a command, and what a step with it is.
use Rattle.std.proofs.Common.{◌≡◌, ◌≢◌, ◌<◌, ◌≤◌, ℕ, ◌==◌, ◌++◌, true, false, nat_lt, List, [], length, None, Some, IsSome, inl, inr, refl, sym, ◌∙◌, ap, arith}
use Rattle.std.proofs.lemmas.Bool.Decides.{nat_tests}
use Rattle.gl_plain.specs.Bytes.{word_at, words_from}
use Rattle.gl_plain.specs.declared.commands.Fetched.{Fetched}
use Rattle.gl_plain.specs.declared.commands.Malformed.{Malformed}
use Rattle.gl_plain.specs.declared.commands.Malformed.TheVariants.{OutOfBounds}
use Rattle.gl_plain.specs.declared.commands.Stop.{Stop}
use Rattle.cb_format.specs.declared.layouts.Layout.{Layout}
use Rattle.cb_format.specs.declared.layouts.Plan.TheVariants as plan
use Rattle.cb_format.specs.Plans.{plan_of}
use Rattle.cb_format.specs.Ring.{number_in, size_in, next_get}
use Rattle.cb_shm.specs.Memory.{MemoryView}
use Rattle.cb_fetch.specs.declared.outcome.FetchOutcome.TheVariants.{Copied, Ready, Bad, NoMemory}
use Rattle.cb_fetch.specs.declared.outcome.FetchStop.TheVariants as stops
use Rattle.cb_fetch.specs.Begun.{Begun, Nothing, Header, Body, header_range, words_range, piece_range, next_range, word_count, with_copy, header_in, fault_in, fetched_in}
use Rattle.cb_fetch.specs.FetchViews.{FetchView}
use Rattle.cb_fetch.specs.Fetching.{MadeCopy, DidCopy, DidRead, FoundBad}
use Rattle.cb_fetch.specs.Steps.{Gave, HasLayout, IsStep}
use Rattle.cb_fetch.proofs.Layouts.{words_of}
use Rattle.cb_fetch.proofs.Passed.{HasPassed, readable}
use Rattle.cb_fetch.proofs.Less.{less_copied, less_read}
use Rattle.cb_fetch.proofs.Reading.{seen_copied, seen_read, seen_bad}

pub some_words : (count : ℕ) → 0 < count → (count == 0) ≡ false
some_words count lt = grind (arith, nat_tests)

pub data_left : (done count : ℕ) → done < count → nat_lt done count ≡ true
data_left done count lt = grind (arith, nat_tests)

pub none_over : (done count : ℕ) → count ≤ done → nat_lt done count ≡ false
none_over done count le = grind (arith, nat_tests)

module _ (f : FetchView) (m m2 : MemoryView) (going : f.stop ≡ None) where
  pub made_header : f.begun ≡ Nothing → f.get ≢ f.put → f.put < f.entries → (header : ℕ) → ((bytes : List ℕ) × Gave m (header_range f.get) bytes m2 × (header ≡ word_at bytes 0)) → MadeCopy f m m2 (Header header)
  made_header none apart lt header h = record {
    going = going;
    reading = λ _. (apart, lt);
    range = header_range f.get;
    planned = ap (next_range f.get) none;
    bytes = h.0;
    whole = h.1.whole;
    made = h.1.made;
    now_is = ap Header h.2 ∙ ap (λ b. with_copy b h.0) (sym none);
  }

  pub made_words : (header : ℕ) (l : Layout) → f.begun ≡ Header header → HasLayout f.entries f.get header l → 0 < l.words → (words : List ℕ)
      → ((bytes : List ℕ) × Gave m (words_range f.get l.words) bytes m2 × (words ≡ words_from bytes 0 l.words)) → MadeCopy f m m2 (Body header words [])
  made_words header l begun passed some words h =
      let count : l.words ≡ word_count header = sym (words_of header l passed.known) in
      record {
        going = going;
        reading = λ e. let none = sym begun ∙ e in cc;
        range = words_range f.get l.words;
        planned = ap (next_range f.get) begun ∙ rw (words_of header l passed.known, some_words l.words some) refl;
        bytes = h.0;
        whole = h.1.whole;
        made = h.1.made;
        now_is = ap (λ (w : List ℕ). Body header w []) (h.2 ∙ ap (words_from h.0 0) count) ∙ ap (λ b. with_copy b h.0) (sym begun);
      }

  pub made_piece : (header : ℕ) (words payload : List ℕ) (region offset count : ℕ) → f.begun ≡ Body header words payload → plan_of (number_in header) words ≡ plan.Read region offset count → length payload < count → (more : List ℕ)
      → ((bytes : List ℕ) × Gave m (piece_range (record { region = region; offset = offset; count = count }) (length payload)) bytes m2 × (more ≡ payload ++ bytes)) → MadeCopy f m m2 (Body header words more)
  made_piece header words payload region offset count begun planned lt more h = record {
    going = going;
    reading = λ e. let none = sym begun ∙ e in cc;
    range = piece_range (record { region = region; offset = offset; count = count }) (length payload);
    planned = ap (next_range f.get) begun ∙ rw (planned, data_left (length payload) count lt) refl;
    bytes = h.0;
    whole = h.1.whole;
    made = h.1.made;
    now_is = ap (Body header words) h.2 ∙ ap (λ b. with_copy b h.0) (sym begun);
  }

-- a fetcher stopped at the command at get
abbrev pub Stops : FetchView → FetchView → Malformed → Type 0
Stops f f2 kind = f2 ≡ record f { begun = Nothing; stop = Some (stops.Bad (record { kind = kind; place = f.get })) }

module _ (f : FetchView) (m : MemoryView) (f2 : FetchView) (m2 : MemoryView) (inside : f.get < f.entries) where
  -- the command needs more copies
  pub step_copied : (now : Begun) → MadeCopy f m m2 now → fault_in m.sizes f.entries f.put f.get now ≡ None → HasPassed f.entries f.get now → IsSome (next_range f.get now) → f2 ≡ record f { begun = now } → IsStep f m f2 m2 Copied
  step_copied now copy fair passed more after =
      let d : DidCopy f m f2 m2 = record { now = now; copy = copy; fair = fair; more = more; after = after } in
      record { fetch = d; readable = tt; seen = λ reads n given b. seen_copied reads f f2 m m2 n inside given b d; less = less_copied f f2 m m2 inside d passed }

  -- the command was read whole
  pub step_read : (now : Begun) (command : Fetched) → MadeCopy f m m2 now → fault_in m.sizes f.entries f.put f.get now ≡ None → HasPassed f.entries f.get now → next_range f.get now ≡ None → command ≡ fetched_in f.get now
      → f2 ≡ record f { get = next_get f.entries f.get (size_in (header_in now)); begun = Nothing } → IsStep f m f2 m2 (Ready command)
  step_read now command copy fair passed whole is after =
      let d : DidRead f m f2 m2 command = record { now = now; copy = copy; fair = fair; whole = whole; command_is = is; after = after } in
      record { fetch = d; readable = readable f.entries f.get now command passed whole is; seen = λ reads n given b. seen_read reads f f2 m m2 n inside given b command d passed; less = less_read f f2 m m2 inside command d }

  found_bad : (stop : Stop) → FoundBad f m f2 m2 stop → IsStep f m f2 m2 (Bad stop.kind stop.place)
  found_bad stop found = record { fetch = inl found; readable = tt; seen = λ reads n given b going. seen_bad reads f f2 m m2 n inside given b stop found; less = tt }

  stopped : (kind : Malformed) → Stops f f2 kind → f2 ≡ record f { begun = f2.begun; stop = Some (stops.Bad (record { kind = kind; place = f.get })) }
  stopped kind after = after ∙ ap (λ (b : Begun). record f { begun = b; stop = Some (stops.Bad (record { kind = kind; place = f.get })) }) (sym (ap (λ (x : FetchView). x.begun) after))

  -- put is not below the entries
  pub step_unread : f.stop ≡ None → f.begun ≡ Nothing → f.get ≢ f.put → f.entries ≤ f.put → m2 ≡ m → Stops f f2 OutOfBounds → IsStep f m f2 m2 (Bad OutOfBounds f.get)
  step_unread going none apart le same after = found_bad (record { kind = OutOfBounds; place = f.get }) (record { place = refl; fault = inl (going, none, apart, le, refl, same); after = stopped OutOfBounds after })

  -- a test failed at what was copied
  pub step_bad : (now : Begun) (kind : Malformed) → MadeCopy f m m2 now → fault_in m.sizes f.entries f.put f.get now ≡ Some kind → Stops f f2 kind → IsStep f m f2 m2 (Bad kind f.get)
  step_bad now kind copy fault after = found_bad (record { kind = kind; place = f.get }) (record { place = refl; fault = inr (now, copy, fault); after = stopped kind after })

  -- there was no memory for the copy
  pub step_short : f.stop ≡ None → m2 ≡ m → f2 ≡ record f { begun = Nothing; stop = Some stops.NoMemory } → IsStep f m f2 m2 NoMemory
  step_short going same after = record {
    fetch = inl (record { going = going; after = after ∙ ap (λ (b : Begun). record f { begun = b; stop = Some stops.NoMemory }) (sym (ap (λ (x : FetchView). x.begun) after)); same = same });
    readable = tt;
    seen = λ reads n given b. tt;
    less = tt;
  }
