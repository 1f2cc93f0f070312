-- A command does the same under the answers that its entries tell, where each read's pixels are cut or filled to the length that it asks for, as
-- under the answers that they were given.
use Rattle.std.proofs.Common.{◌≡◌, ◌⊎◌, inl, inr, ℕ, Bool, true, false, not, if◌then◌else◌, List, [], ◌∷◌, ◌++◌, Option, None, Some, refl, sym, ◌∙◌, ap, subst, append-nil}
use Rattle.gl_plain.specs.declared.calls.Reply.TheVariants as reply
use Rattle.gl_plain.specs.declared.commands.Command.{Command}
use Rattle.gl_plain.specs.declared.commands.Command.TheVariants.{Query}
use Rattle.gl_plain.specs.declared.commands.QueryCommand.TheVariants.{ReadPixels}
use Rattle.gl_plain.specs.declared.driver_calls.DriverCall.{DriverCall}
use Rattle.gl_plain.specs.declared.driver_calls.DriverCall.TheVariants.{Image}
use Rattle.gl_plain.specs.declared.driver_calls.DriverEntry.{DriverEntry}
use Rattle.gl_plain.specs.declared.driver_calls.ImageDriver.TheVariants as calls
use Rattle.gl_plain.specs.declared.errors.GlError.{GlError}
use Rattle.gl_plain.specs.declared.image_words.ReadWords.{ReadWords}
use Rattle.gl_plain.specs.subjects.Buckets.{with_reply}
use Rattle.gl_plain.specs.subjects.Copies.{fitted, read_bytes, read_count, reads_nothing}
use Rattle.gl_plain.specs.subjects.Images.{Contents, read_contents}
use Rattle.gl_plain.specs.Words.{natural}
use Rattle.gl_plain.specs.Oracle.{Oracle, behind, first, led_by}
use Rattle.gl_plain.specs.State.{DriverState, WireState}
use Rattle.gl_plain.specs.Outcome.{Outcome}
use Rattle.gl_plain.specs.driver.Answers.{told, behind_call, behind_entries, AreAnsweredBy}
use Rattle.gl_plain.specs.Wire.{is_bad, calls_by, command_calls, command_refusal, given_to, on_wire, reply_bucket, step_by, whole_first, zeroed}
use Rattle.gl_plain.specs.Meaning.{Meaning, breaks_a_bucket_rule, command_meaning, delivering, meaning_by, meaning_if}
use Rattle.gl_plain.specs.Journal.{IsLegal}
use Rattle.gl_plain.specs.Parts.{calls_in}
use Rattle.gl_plain.specs.Records.{Record, contents_after, contents_behind, contents_by, records_by, records_made, step_records}
use Rattle.gl_plain.specs.Agreement.{Agrees}
use Rattle.gl_laws.proofs.Commands.{leaves_it}
use Rattle.gl_laws.proofs.Fronts.{front_records}
use Rattle.gl_laws.proofs.Joined.{zeroings_of}
use Rattle.gl_laws.proofs.Lists.{one_entry}
use Rattle.gl_laws.proofs.PixelAnswers.{HaveNoRead, entries_tell, fitted_twice, none_before, none_behind, pixels_before, pixels_told, with_pixels}
use Rattle.gl_laws.proofs.PixelSteps.{HaveNoReadRecord, calls_blind, contents_blind, first_have_no_read, have_no_read, on_pixels, reads_pixels, records_blind, records_not_read, step_blind}
use Rattle.gl_laws.proofs.Runs.{delivered_bad, delivered_calls}
use Rattle.gl_laws.proofs.Zeroing.{all_of_both, front_of_two, zeroings_record_nothing}

-- what a command means, what it leaves of the contents and what it records are the same under two oracles, of each of which it leaves these answers
pub record Alike (m : Meaning WireState) (contents : Oracle → Contents → Contents) (records : Oracle → Contents → List Record) (a b left_of_a left_of_b : Oracle) : Type 0 where
  pub state : (m.step a).state ≡ (m.step b).state
  pub reply : (m.step a).reply ≡ (m.step b).reply
  pub first_left : (m.step a).oracle ≡ left_of_a
  pub second_left : (m.step b).oracle ≡ left_of_b
  pub calls : m.calls a ≡ m.calls b
  pub contents_are : (k : Contents) → contents a k ≡ contents b k
  pub records_are : (k : Contents) → records a k ≡ records b k

-- a reply that goes into a bucket goes there under both
delivering_alike : (b : Option ℕ) (m : Meaning WireState) (contents : Oracle → Contents → Contents) (records : Oracle → Contents → List Record) (x y left_of_x left_of_y : Oracle) → Alike m contents records x y left_of_x left_of_y
    → Alike (delivering b m) contents records x y left_of_x left_of_y
delivering_alike None m contents records x y left_of_x left_of_y alike = alike
delivering_alike (Some bucket) m contents records x y left_of_x left_of_y alike = record {
  state = λ i. record (alike.state i) { buckets = with_reply (alike.state i).buckets (Some bucket) (alike.reply i) };
  reply = alike.reply;
  first_left = alike.first_left;
  second_left = alike.second_left;
  calls = alike.calls;
  contents_are = alike.contents_are;
  records_are = alike.records_are;
}

-- Entries in two parts

before_append : (xs ys : List DriverEntry) (o : Oracle) (p : ℕ → List ℕ) → pixels_before (xs ++ ys) o p ≡ pixels_before xs o (pixels_before ys (behind_entries xs o) p)
before_append [] ys o p = refl
before_append (e ∷ xs) ys o p = ap (pixels_told e.call o) (before_append xs ys (behind_call e.call o) p)

pub behind_append : (xs ys : List DriverEntry) (o : Oracle) → behind_entries (xs ++ ys) o ≡ behind_entries ys (behind_entries xs o)
behind_append [] ys o = refl
behind_append (e ∷ xs) ys o = behind_append xs ys (behind_call e.call o)

-- Where the pixels that are left are those behind the step's

module _ (w : WireState) (c : Command) (payload : List ℕ) (o : Oracle) (es : List DriverEntry) (answered : AreAnsweredBy o es) (q : ℕ → List ℕ) (x : Oracle) (x_is : x ≡ with_pixels q (behind_entries es o)) where
  abbrev AlikeBy : Option GlError → Type 0
  AlikeBy r = Alike (record { bad = is_bad w c; step = step_by r w c payload; calls = calls_by r w c payload }) (contents_by r w.es c payload) (records_by r w.es c payload) (told es x) o x (behind_entries es o)

  told_is : told es x ≡ with_pixels (pixels_before es o q) o
  told_is = ap (told es) x_is ∙ entries_tell es o answered q

  alike_by : (r : Option GlError) → (step_by r w c payload (told es x)).oracle ≡ x → step_by r w c payload (with_pixels (pixels_before es o q) o) ≡ on_pixels q (step_by r w c payload o)
      → (step_by r w c payload o).oracle.pixels ≡ (behind_entries es o).pixels → AlikeBy r
  alike_by r asked seen pixels =
      let step_is : step_by r w c payload (told es x) ≡ on_pixels q (step_by r w c payload o) = ap (step_by r w c payload) told_is ∙ seen in
      let left : with_pixels q (step_by r w c payload o).oracle ≡ with_pixels q (behind_entries es o) = ap (λ (out : Outcome WireState). out.oracle) (sym step_is) ∙ asked ∙ x_is in
      record {
        state = ap (λ (out : Outcome WireState). out.state) step_is;
        reply = ap (λ (out : Outcome WireState). out.reply) step_is;
        first_left = asked;
        second_left = ap (λ (p : ℕ → List ℕ). with_pixels p (step_by r w c payload o).oracle) pixels ∙ ap (with_pixels (behind_entries es o).pixels) left;
        calls = ap (calls_by r w c payload) told_is ∙ calls_blind (pixels_before es o q) o r w c payload;
        contents_are = λ k. ap (λ (t : Oracle). contents_by r w.es c payload t k) told_is ∙ contents_blind (pixels_before es o q) o r w.es c payload k;
        records_are = λ k. ap (λ (t : Oracle). records_by r w.es c payload t k) told_is ∙ records_blind (pixels_before es o q) o r w.es c payload k;
      }

  -- of a command that reads no pixels
  blind_alike : (r : Option GlError) → (step_by r w c payload (told es x)).oracle ≡ x → reads_pixels r c ≡ false → HaveNoRead es → AlikeBy r
  blind_alike r asked blind none = alike_by r asked
      (ap (λ (p : ℕ → List ℕ). step_by r w c payload (with_pixels p o)) (none_before es o q none) ∙ step_blind q o r w c payload blind)
      (ap (λ (out : Outcome WireState). out.oracle.pixels) (step_blind o.pixels o r w c payload blind) ∙ sym (none_behind es o none))

-- The zeroings of a command, or the first of them, have no read
zeroings_have_no_read : (w : WireState) (d : DriverState) (c : Command) (es : List DriverEntry) (more : List DriverCall) → calls_in es ++ more ≡ zeroings_of w c → HaveNoRead es
zeroings_have_no_read w d c es more h = have_no_read d es (subst HaveNoReadRecord (sym (zeroings_record_nothing w.es.textures.objects w.covers w.marks d (whole_first w c) es more h)) tt)

-- A read of pixels

module _ (w : WireState) (words : ReadWords) (bucket : ℕ) (payload : List ℕ) (some : reads_nothing words ≡ false) where
  abbrev read : Command
  read = Query (ReadPixels words bucket)

  abbrev read_call : DriverCall
  read_call = Image (calls.ReadPixels words.x words.y words.width words.height)

  abbrev count : ℕ
  count = read_count (natural words.width) (natural words.height)

  read_outcome : (t : Oracle) → step_by None w read payload t ≡ on_wire (zeroed w read) (record { state = w.es; oracle = with_pixels (behind t.pixels) t; reply = reply.Bytes (read_bytes w.es.alignments.pack words (fitted count (first t.pixels))) })
  read_outcome t = ap (λ (b : Bool). on_wire (zeroed w read) (if b then record { state = w.es; oracle = t; reply = reply.Bytes [] } else record { state = w.es; oracle = with_pixels (behind t.pixels) t; reply = reply.Bytes (read_bytes w.es.alignments.pack words (fitted count (first t.pixels))) })) some

  -- bytes that have the length already are taken as they are
  read_again : (o : Oracle) (q : ℕ → List ℕ) → step_by None w read payload (with_pixels (led_by (fitted count (first o.pixels)) q) o) ≡ on_pixels q (step_by None w read payload o)
  read_again o q =
      read_outcome (with_pixels (led_by (fitted count (first o.pixels)) q) o)
      ∙ (λ i. on_wire (zeroed w read) (record { state = w.es; oracle = with_pixels q o; reply = reply.Bytes (read_bytes w.es.alignments.pack words (fitted_twice count (first o.pixels) i)) }))
      ∙ ap (on_pixels q) (sym (read_outcome o))

  own_read : (if reads_nothing words then [] else read_call ∷ []) ≡ read_call ∷ []
  own_read = ap (λ (b : Bool). if b then [] else read_call ∷ []) some

  module _ (d : DriverState) (o : Oracle) (es : List DriverEntry) (answered : AreAnsweredBy o es) (q : ℕ → List ℕ) (x : Oracle) (x_is : x ≡ with_pixels q (behind_entries es o)) where
    read_alike : (step_by None w read payload (told es x)).oracle ≡ x → calls_in es ≡ calls_by None w read payload (told es x) → AlikeBy w read payload o es answered q x x_is None
    read_alike asked h =
        let p = all_of_both (zeroings_of w read) (if reads_nothing words then [] else read_call ∷ []) es h in
        let none = zeroings_have_no_read w d read p.0 [] (append-nil (calls_in p.0) ∙ p.3) in
        let before : pixels_before es o q ≡ led_by (fitted count (first o.pixels)) q =
        ap (λ (gs : List DriverEntry). pixels_before gs o q) p.2 ∙ before_append p.0 p.1 o q ∙ none_before p.0 o _ none
        ∙ one_entry (λ (gs : List DriverEntry). pixels_before gs (behind_entries p.0 o) q ≡ led_by (fitted count (first (behind_entries p.0 o).pixels)) q) read_call (λ answer. refl) p.1 (p.4 ∙ own_read)
        ∙ ap (λ (pixels : ℕ → List ℕ). led_by (fitted count (first pixels)) q) (none_behind p.0 o none) in
        let left : (behind_entries es o).pixels ≡ behind o.pixels =
        ap (λ (gs : List DriverEntry). (behind_entries gs o).pixels) p.2 ∙ ap (λ (z : Oracle). z.pixels) (behind_append p.0 p.1 o)
        ∙ one_entry (λ (gs : List DriverEntry). (behind_entries gs (behind_entries p.0 o)).pixels ≡ behind (behind_entries p.0 o).pixels) read_call (λ answer. refl) p.1 (p.4 ∙ own_read)
        ∙ ap (λ (pixels : ℕ → List ℕ). behind pixels) (none_behind p.0 o none) in
        alike_by w read payload o es answered q x x_is None asked (ap (λ (pixels : ℕ → List ℕ). step_by None w read payload (with_pixels pixels o)) before ∙ read_again o q)
        (ap (λ (out : Outcome WireState). out.oracle.pixels) (read_outcome o) ∙ sym left)

  -- a front of its calls has no read, or is all of them
  read_front : (d : DriverState) (es : List DriverEntry) (more : List DriverCall) (z : Oracle) → calls_in es ++ more ≡ calls_by None w read payload z → HaveNoRead es ⊎ ((t : Oracle) → calls_in es ≡ calls_by None w read payload t)
  read_front d es more z h = elim (front_of_two (zeroings_of w read) (if reads_nothing words then [] else read_call ∷ []) es more h) [
    | inl p ↦ inl (zeroings_have_no_read w d read es p.0 p.1)
    | inr p ↦ behind_all p.0 p.1 p.2 p.3 (p.4 ∙ own_read)
  ]
    where
      behind_all : (xs ys : List DriverEntry) → es ≡ xs ++ ys → calls_in xs ≡ zeroings_of w read → calls_in ys ++ more ≡ read_call ∷ [] → HaveNoRead es ⊎ ((t : Oracle) → calls_in es ≡ calls_by None w read payload t)
      behind_all xs [] is are next = inl (subst HaveNoRead (sym (is ∙ append-nil xs)) (zeroings_have_no_read w d read xs [] (append-nil (calls_in xs) ∙ are)))
      behind_all xs (e ∷ []) is are next =
          let no_more : more ≡ [] = cc in
          inr (λ t. sym (append-nil (calls_in es)) ∙ ap (λ (calls : List DriverCall). calls_in es ++ calls) (sym no_more) ∙ h)
      behind_all xs (e ∷ g ∷ ys) is are next = absurd (cc)

-- All commands

not_nothing : (b : Bool) → not b ≡ true → b ≡ false
not_nothing true e = cc
not_nothing false e = refl

module _ (w : WireState) (d : DriverState) (a : Agrees w d) where
  module _ (o : Oracle) (es : List DriverEntry) (answered : AreAnsweredBy o es) (l : IsLegal d es) (q : ℕ → List ℕ) (x : Oracle) (x_is : x ≡ with_pixels q (behind_entries es o)) where
    reading_alike : (r : Option GlError) (c : Command) (payload : List ℕ) → reads_pixels r c ≡ true → (step_by r w c payload (told es x)).oracle ≡ x → calls_in es ≡ calls_by r w c payload (told es x) → AlikeBy w c payload o es answered q x x_is r
    reading_alike None (Query (ReadPixels words bucket)) payload reads asked h =
        let some : reads_nothing words ≡ false = not_nothing (reads_nothing words) reads in
        read_alike w words bucket payload some d o es answered q x x_is asked h
    reading_alike r c payload reads asked h = absurd (cc)

    command_alike : (c : Command) (payload : List ℕ) → is_bad w c ≡ false → calls_in es ≡ command_calls w c payload (told es x)
        → Alike (command_meaning w c payload) (contents_after w.es c payload) (step_records w.es c payload) (told es x) o x (behind_entries es o)
    command_alike c payload fair h =
        let r = command_refusal w.es c payload in
        let asked = (leaves_it w d a c payload fair x es l h).asked in
        elim (reads_pixels r c) as (λ b. reads_pixels r c ≡ b → AlikeBy w c payload o es answered q x x_is r) [
          | true ↦ λ reads. reading_alike r c payload reads asked h
          | false ↦ λ blind. blind_alike w c payload o es answered q x x_is r asked blind
              (first_have_no_read d es (step_records w.es c payload (told es x) (read_contents d.contents)) (records_not_read r w.es c payload (told es x) (read_contents d.contents) blind)
              (front_records w d a c payload fair (told es x) es [] (append-nil (calls_in es) ∙ h) x l))
        ] refl

    alike_if : (broken : Bool) (c : Command) (payload : List ℕ) → (meaning_if broken w c payload).bad ≡ false → calls_in es ≡ (meaning_if broken w c payload).calls (told es x)
        → Alike (meaning_if broken w c payload) (contents_behind w (Some c) payload) (records_made w (Some c) payload) (told es x) o x (behind_entries es o)
    alike_if true c payload fair h = absurd (cc)
    alike_if false c payload fair h =
        let m = command_meaning w c (given_to w c payload) in
        delivering_alike (reply_bucket c) m (contents_after w.es c (given_to w c payload)) (step_records w.es c (given_to w c payload)) (told es x) o x (behind_entries es o)
        (command_alike c (given_to w c payload) (sym (delivered_bad (reply_bucket c) m) ∙ fair) (h ∙ ap (λ (calls : Oracle → List DriverCall). calls (told es x)) (delivered_calls (reply_bucket c) m)))

    -- all entries of a command
    pub part_alike : (c : Option Command) (payload : List ℕ) → (meaning_by w c payload).bad ≡ false → calls_in es ≡ (meaning_by w c payload).calls (told es x)
        → Alike (meaning_by w c payload) (contents_behind w c payload) (records_made w c payload) (told es x) o x (behind_entries es o)
    part_alike None payload fair h = absurd (cc)
    part_alike (Some c) payload fair h = alike_if (breaks_a_bucket_rule w c) c payload fair h

  module _ (es : List DriverEntry) (more : List DriverCall) (z : Oracle) (l : IsLegal d es) where
    reading_front : (r : Option GlError) (c : Command) (payload : List ℕ) → reads_pixels r c ≡ true → calls_in es ++ more ≡ calls_by r w c payload z → HaveNoRead es ⊎ ((t : Oracle) → calls_in es ≡ calls_by r w c payload t)
    reading_front None (Query (ReadPixels words bucket)) payload reads h =
        let some : reads_nothing words ≡ false = not_nothing (reads_nothing words) reads in
        read_front w words bucket payload some d es more z h
    reading_front r c payload reads h = absurd (cc)

    command_front : (c : Command) (payload : List ℕ) → is_bad w c ≡ false → calls_in es ++ more ≡ command_calls w c payload z → HaveNoRead es ⊎ ((t : Oracle) → calls_in es ≡ command_calls w c payload t)
    command_front c payload fair h =
        let r = command_refusal w.es c payload in
        elim (reads_pixels r c) as (λ b. reads_pixels r c ≡ b → HaveNoRead es ⊎ ((t : Oracle) → calls_in es ≡ command_calls w c payload t)) [
          | true ↦ λ reads. reading_front r c payload reads h
          | false ↦ λ blind. inl (first_have_no_read d es (step_records w.es c payload (told es z) (read_contents d.contents)) (records_not_read r w.es c payload (told es z) (read_contents d.contents) blind)
              (front_records w d a c payload fair z es more h z l))
        ] refl

    front_if : (broken : Bool) (c : Command) (payload : List ℕ) → (meaning_if broken w c payload).bad ≡ false → calls_in es ++ more ≡ (meaning_if broken w c payload).calls z
        → HaveNoRead es ⊎ ((t : Oracle) → calls_in es ≡ (meaning_if broken w c payload).calls t)
    front_if true c payload fair h = absurd (cc)
    front_if false c payload fair h =
        let m = command_meaning w c (given_to w c payload) in
        let same : (delivering (reply_bucket c) m).calls ≡ m.calls = delivered_calls (reply_bucket c) m in
        subst (λ (calls : Oracle → List DriverCall). HaveNoRead es ⊎ ((t : Oracle) → calls_in es ≡ calls t)) (sym same)
        (command_front c (given_to w c payload) (sym (delivered_bad (reply_bucket c) m) ∙ fair) (h ∙ ap (λ (calls : Oracle → List DriverCall). calls z) same))

    -- the first entries of a command have no read, or are all
    pub front_kind : (c : Option Command) (payload : List ℕ) → (meaning_by w c payload).bad ≡ false → calls_in es ++ more ≡ (meaning_by w c payload).calls z → HaveNoRead es ⊎ ((t : Oracle) → calls_in es ≡ (meaning_by w c payload).calls t)
    front_kind None payload fair h = absurd (cc)
    front_kind (Some c) payload fair h = front_if (breaks_a_bucket_rule w c) c payload fair h
