-- What each function behind a step leaves, by the copy that it made.
use Rattle.std.proofs.Common.{Vec, Global, ◌≡◌, ◌<◌, ◌≤◌, ℕ, ◌+◌, ◌-◌, ◌++◌, min, List, [], length, Option, None, Some, refl, sym, ◌∙◌, ap, subst, arith, length-append}
use Rattle.arrayvec.specs.ArrayVec.{ArrayVec}
use Rattle.gl_base.specs.declared.limits.TheConstants.{COPY_LIMIT}
use Rattle.gl_plain.specs.Bytes.{word_at, words_from}
use Rattle.gl_plain.specs.declared.commands.Malformed.{Malformed}
use Rattle.cb_format.specs.declared.headers.Header as format
use Rattle.cb_format.specs.declared.layouts.Plan.{Plan}
use Rattle.cb_format.specs.declared.layouts.Plan.TheVariants as plan
use Rattle.cb_format.specs.Headers.{header_word}
use Rattle.cb_format.specs.Plans.{plan_of}
use Rattle.cb_format.specs.Ring.{number_in, size_in, first_fault, range_fault, next_get}
use Rattle.cb_shm.specs.Memory.{MemoryView}
use Rattle.cb_fetch.specs.declared.outcome.FetchOutcome.TheVariants.{Copied, Ready, Bad}
use Rattle.cb_fetch.specs.declared.stages.Start.{Start}
use Rattle.cb_fetch.specs.declared.stages.Body as stages
use Rattle.cb_fetch.specs.Begun.{Nothing, Header, Body, header_range, words_range, piece_range, word_count, next_piece, fault_in}
use Rattle.cb_fetch.specs.FetchViews.{FetchView}
use Rattle.cb_fetch.specs.Fetching.{MadeCopy}
use Rattle.cb_fetch.specs.Inside.{IsBody}
use Rattle.cb_fetch.specs.Steps.{Gave, IsStart, IsFront, IsAtHeader, IsAtWords, IsStep}
use Rattle.cb_fetch.proofs.Layouts.{words_of}
use Rattle.cb_fetch.proofs.Passed.{HasPassed}
use Rattle.cb_fetch.proofs.Words.{length-words_from}
use Rattle.cb_fetch.proofs.Copies.{made_header, made_words, made_piece, some_words, step_copied, step_read, step_bad, Stops, data_left, none_over}

pub number_of : (entries get header : ℕ) (start : Start) → IsStart entries get header start → start.header.number ≡ number_in header
number_of entries get header start s = ap (λ (h : format.Header). h.number) s.read

pub size_of : (entries get header : ℕ) (start : Start) → IsStart entries get header start → start.header.size ≡ size_in header
size_of entries get header start s = ap (λ (h : format.Header). h.size) s.read

-- no data is left where a plan reads none, or reads nothing
pub none_of_read : (p : Plan) (region offset count : ℕ) → p ≡ plan.Read region offset count → count ≤ 0 → next_piece p 0 ≡ None
none_of_read p region offset count is none = rw (is, none_over 0 count none) refl

pub none_of_other : (p : Plan) → ((region offset count : ℕ) → p ≡ plan.Read region offset count → ⊥) → next_piece p 0 ≡ None
none_of_other plan.Nothing other = refl
none_of_other (plan.Read region offset count) other = absurd (other region offset count refl)
none_of_other (plan.Write region offset count) other = refl

module _ (f : FetchView) (m : MemoryView) (f2 : FetchView) (m2 : MemoryView) (inside : f.get < f.entries) where
  module _ (at : IsAtHeader f) (below : f.put < f.entries) (header : ℕ) (made : (bytes : List ℕ) × Gave m (header_range f.get) bytes m2 × (header ≡ word_at bytes 0)) where
    copy : MadeCopy f m m2 (Header header)
    copy = made_header f m m2 at.going at.begun at.apart below header made

    pub header_bad : (kind : Malformed) → first_fault f.entries f.put f.get header ≡ Some kind → Stops f f2 kind → IsStep f m f2 m2 (Bad kind f.get)
    header_bad kind fault after = step_bad f m f2 m2 inside (Header header) kind copy fault after

    module _ (start : Start) (fair : first_fault f.entries f.put f.get header ≡ None) (read : IsStart f.entries f.get header start) where
      count : word_count header ≡ start.layout.words
      count = words_of header start.layout read.passed.known

      pub header_more : 0 < start.layout.words → f2 ≡ record f { begun = Header (header_word start.header) } → IsStep f m f2 m2 Copied
      header_more some after =
          step_copied f m f2 m2 inside (Header header) copy fair (start.layout, read.passed) (rw (count, some_words start.layout.words some) refl)
          (after ∙ ap (λ h. record f { begun = Header h }) read.word)

      pub header_done : start.layout.words ≡ 0 → (words : ArrayVec ℕ) → words.items ≡ [] → (payload : List ℕ) → payload ≡ [] → f2 ≡ record f { get = next_get f.entries f.get start.header.size; begun = Nothing }
          → IsStep f m f2 m2 (Ready (record { number = start.header.number; words = words; payload = payload; place = f.get }))
      header_done none words no_words payload no_payload after =
          step_read f m f2 m2 inside (Header header) (record { number = start.header.number; words = words; payload = payload; place = f.get }) copy fair (start.layout, read.passed) (rw (count, none) refl)
          (λ i. record { number = number_of f.entries f.get header start read i; words = record { items = no_words i }; payload = no_payload i; place = f.get })
          (after ∙ ap (λ (n : ℕ). record f { get = next_get f.entries f.get n; begun = Nothing }) (size_of f.entries f.get header start read))

  module _ (start : Start) (at : IsAtWords f start) (words : ArrayVec ℕ) (made : (bytes : List ℕ) × Gave m (words_range f.get start.layout.words) bytes m2 × (words.items ≡ words_from bytes 0 start.layout.words)) where
    abbrev header : ℕ
    header = header_word start.header

    pub words_counted : length words.items ≡ start.layout.words
    words_counted = ap length made.2 ∙ length-words_from made.0 0 start.layout.words

    copy_words : MadeCopy f m m2 (Body header words.items [])
    copy_words = made_words f m m2 at.going header start.layout at.begun at.read.passed at.some words.items made

    module _ (planned : Plan) (plan_is : planned ≡ plan_of start.header.number words.items) where
      plan_of_words : planned ≡ plan_of (number_in header) words.items
      plan_of_words = plan_is ∙ ap (λ (n : ℕ). plan_of n words.items) (number_of f.entries f.get header start at.read)

      -- the sixth test, which is made after the copy, is that of the sizes before it
      tested : (o : Option Malformed) → o ≡ range_fault m2.sizes planned → range_fault m.sizes (plan_of (number_in header) words.items) ≡ o
      tested o e = rw (← plan_of_words) (sym (e ∙ ap (λ (x : MemoryView). range_fault x.sizes planned) made.1.made))

      pub words_bad : (kind : Malformed) → Some kind ≡ range_fault m2.sizes planned → Stops f f2 kind → IsStep f m f2 m2 (Bad kind f.get)
      words_bad kind fault after = step_bad f m f2 m2 inside (Body header words.items []) kind copy_words (tested (Some kind) fault) after

      module _ (fair : None ≡ range_fault m2.sizes planned) (front : IsFront planned 0) where
        passed : HasPassed f.entries f.get (Body header words.items [])
        passed = record { layout = start.layout; passed = at.read.passed; some = at.some; counted = words_counted; front = subst (λ (p : Plan). IsFront p 0) plan_of_words front }

        pub words_begun : (region offset count : ℕ) → planned ≡ plan.Read region offset count → 0 < count → (payload : Vec ℕ Global) → payload.items ≡ []
            → IsBody f.entries f.get (record { header = start.header; words = words; region = region; offset = offset; count = count; payload = payload })
        words_begun region offset count is some payload none = record {
          read = at.read.read;
          layout = start.layout;
          passed = at.read.passed;
          words = words_counted;
          some = at.some;
          planned = sym plan_of_words ∙ is;
          left = rw none some;
          small = (subst (λ (p : Plan). IsFront p 0) is front).1;
        }

        pub words_more : (region offset count : ℕ) → planned ≡ plan.Read region offset count → 0 < count → (payload : List ℕ) → payload ≡ [] → f2 ≡ record f { begun = Body header words.items payload } → IsStep f m f2 m2 Copied
        words_more region offset count is some payload none after =
            step_copied f m f2 m2 inside (Body header words.items []) copy_words (tested None fair) passed (rw (← plan_of_words, is, data_left 0 count some) refl) (after ∙ ap (λ (p : List ℕ). record f { begun = Body header words.items p }) none)

        pub words_done : next_piece planned 0 ≡ None → (payload : List ℕ) → payload ≡ [] → f2 ≡ record f { get = next_get f.entries f.get start.header.size; begun = Nothing }
            → IsStep f m f2 m2 (Ready (record { number = start.header.number; words = words; payload = payload; place = f.get }))
        words_done whole payload no_payload after =
            step_read f m f2 m2 inside (Body header words.items []) (record { number = start.header.number; words = words; payload = payload; place = f.get }) copy_words (tested None fair) passed (rw (← plan_of_words) whole)
            (λ i. record { number = number_of f.entries f.get header start at.read i; words = words; payload = no_payload i; place = f.get })
            (after ∙ ap (λ (n : ℕ). record f { get = next_get f.entries f.get n; begun = Nothing }) (size_of f.entries f.get header start at.read))

  module _ (body : stages.Body) (going : f.stop ≡ None) (begun : f.begun ≡ Body (header_word body.header) body.words.items body.payload.items) (is : IsBody f.entries f.get body) (more : List ℕ)
      (made : (bytes : List ℕ) × Gave m (piece_range (record { region = body.region; offset = body.offset; count = body.count }) (length body.payload.items)) bytes m2 × (more ≡ body.payload.items ++ bytes)) where
    abbrev header_of_body : ℕ
    header_of_body = header_word body.header

    copy_piece : MadeCopy f m m2 (Body header_of_body body.words.items more)
    copy_piece = made_piece f m m2 going header_of_body body.words.items body.payload.items body.region body.offset body.count begun is.planned is.left more made

    grown : length more ≡ length body.payload.items + min COPY_LIMIT (body.count - length body.payload.items)
    grown = ap length made.2 ∙ length-append body.payload.items made.0 ∙ ap (λ (n : ℕ). length body.payload.items + n) made.1.whole

    untested : fault_in m.sizes f.entries f.put f.get (Body header_of_body body.words.items more) ≡ None
    untested =
        let left = is.left in
        let g = grown in
        let some : 0 < length more = omega arith in
        rw (some_words (length more) some) refl

    front : IsFront (plan_of (number_in header_of_body) body.words.items) (length more)
    front =
        let left = is.left in
        let g = grown in
        rw is.planned (omega arith, is.small)

    has_passed : HasPassed f.entries f.get (Body header_of_body body.words.items more)
    has_passed = record { layout = is.layout; passed = is.passed; some = is.some; counted = is.words; front = front }

    pub piece_more : length more < body.count → f2 ≡ record f { begun = Body header_of_body body.words.items more } → IsStep f m f2 m2 Copied
    piece_more left after = step_copied f m f2 m2 inside (Body header_of_body body.words.items more) copy_piece untested has_passed (rw (is.planned, data_left (length more) body.count left) refl) after

    pub piece_done : body.count ≤ length more → f2 ≡ record f { get = next_get f.entries f.get body.header.size; begun = Nothing }
        → IsStep f m f2 m2 (Ready (record { number = body.header.number; words = body.words; payload = more; place = f.get }))
    piece_done whole after =
        let number = ap (λ (h : format.Header). h.number) is.read in
        let size = ap (λ (h : format.Header). h.size) is.read in
        step_read f m f2 m2 inside (Body header_of_body body.words.items more) (record { number = body.header.number; words = body.words; payload = more; place = f.get }) copy_piece untested has_passed
        (rw (is.planned, none_over (length more) body.count whole) refl)
        (ap (λ (n : ℕ). record { number = n; words = body.words; payload = more; place = f.get }) number)
        (after ∙ ap (λ (n : ℕ). record f { get = next_get f.entries f.get n; begun = Nothing }) size)
