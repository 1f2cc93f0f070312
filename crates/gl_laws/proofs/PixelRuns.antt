-- Entries that an oracle answered tell its answers, but each read's pixels cut or filled to the length that the read asks for. A run of commands is
-- the same under what its entries tell as under the oracle itself.
use Prim.Native.Nat.{zero, suc}
use Rattle.std.proofs.Common.{◌≡◌, inl, inr, ℕ, Bool, true, false, if◌then◌else◌, List, [], ◌∷◌, ◌++◌, length, take, Option, MatchBool, refl, sym, ap, ◌∙◌, subst}
use Rattle.std.proofs.Math.Seq.{take-length}
use Rattle.gl_plain.specs.declared.commands.Fetched.{Fetched}
use Rattle.gl_plain.specs.declared.commands.Stop.{Stop}
use Rattle.gl_plain.specs.declared.driver_calls.DriverCall.{DriverCall}
use Rattle.gl_plain.specs.declared.driver_calls.DriverEntry.{DriverEntry}
use Rattle.gl_plain.specs.subjects.Images.{Contents}
use Rattle.gl_plain.specs.Oracle.{Oracle}
use Rattle.gl_plain.specs.State.{DriverState, WireState}
use Rattle.gl_plain.specs.Commands.{command_of}
use Rattle.gl_plain.specs.Meaning.{meaning_of}
use Rattle.gl_plain.specs.Run.{after_replies, stopped_at, wire_run}
use Rattle.gl_plain.specs.driver.Answers.{told, behind_call, behind_entries, AreAnsweredBy}
use Rattle.gl_plain.specs.Journal.{IsLegal, state_after}
use Rattle.gl_plain.specs.Parts.{calls_in, IsFrontOfMeaning, IsNextFront, IsPartOf, AreCutParts, AreParts}
use Rattle.gl_plain.specs.Records.{contents_behind, records_made, run_records}
use Rattle.gl_plain.specs.Agreement.{Agrees}
use Rattle.gl_plain.proofs.Journals.{told-append}
use Rattle.gl_laws.proofs.Lists.{legal_split}
use Rattle.gl_laws.proofs.Runs.{part_left}
use Rattle.gl_laws.proofs.PixelAnswers.{entries_tell, pixels_before, tell_all}
use Rattle.gl_laws.proofs.PixelParts.{Alike, behind_append, front_kind, part_alike}

-- what entries tell before the answers that are left behind them
abbrev pub as_told : List DriverEntry → Oracle → Oracle
as_told es o = told es (behind_entries es o)

-- the run of these commands is the same under both, and so are its records, also those of the first commands alone
pub record SameRun (w : WireState) (fs : List Fetched) (a b : Oracle) : Type 0 where
  pub run : (stop : Option Stop) → wire_run w fs stop a ≡ wire_run w fs stop b
  pub records : (k : Contents) (n : ℕ) → run_records w k (take n fs) a ≡ run_records w k (take n fs) b

-- the records of all commands
pub same_records : (w : WireState) (fs : List Fetched) (a b : Oracle) → SameRun w fs a b → (k : Contents) → run_records w k fs a ≡ run_records w k fs b
same_records w fs a b same k =
    ap (λ (gs : List Fetched). run_records w k gs a) (sym (take-length fs)) ∙ same.records k (length fs) ∙ ap (λ (gs : List Fetched). run_records w k gs b) (take-length fs)

same_where_equal : (w : WireState) (fs : List Fetched) (a b : Oracle) → a ≡ b → SameRun w fs a b
same_where_equal w fs a b e = record { run = λ stop. ap (wire_run w fs stop) e; records = λ k n. ap (run_records w k (take n fs)) e }

-- one command more, which does the same under both
module _ (f : Fetched) (fs : List Fetched) (w : WireState) (a b left_of_a left_of_b : Oracle)
    (alike : Alike (meaning_of w f) (contents_behind w (command_of f) f.payload) (records_made w (command_of f) f.payload) a b left_of_a left_of_b) (later : SameRun ((meaning_of w f).step a).state fs left_of_a left_of_b) where
  rest_run : (stop : Option Stop) → wire_run ((meaning_of w f).step a).state fs stop ((meaning_of w f).step a).oracle ≡ wire_run ((meaning_of w f).step b).state fs stop ((meaning_of w f).step b).oracle
  rest_run stop = ap (wire_run ((meaning_of w f).step a).state fs stop) alike.first_left ∙ later.run stop ∙ (λ i. wire_run (alike.state i) fs stop (sym alike.second_left i))

  rest_records : (k : Contents) (n : ℕ) → run_records ((meaning_of w f).step a).state (contents_behind w (command_of f) f.payload a k) (take n fs) ((meaning_of w f).step a).oracle
      ≡ run_records ((meaning_of w f).step b).state (contents_behind w (command_of f) f.payload b k) (take n fs) ((meaning_of w f).step b).oracle
  rest_records k n =
      (λ i. run_records ((meaning_of w f).step a).state (alike.contents_are k i) (take n fs) (alike.first_left i))
      ∙ later.records (contents_behind w (command_of f) f.payload b k) n
      ∙ (λ i. run_records (alike.state i) (contents_behind w (command_of f) f.payload b k) (take n fs) (sym alike.second_left i))

  more_records : (k : Contents) (n : ℕ) → run_records w k (take n (f ∷ fs)) a ≡ run_records w k (take n (f ∷ fs)) b
  more_records k zero = refl
  more_records k (suc n) = λ i. if (meaning_of w f).bad then [] else alike.records_are k i ++ rest_records k n i

  same_further : SameRun w (f ∷ fs) a b
  same_further = record {
    run = λ stop i. if (meaning_of w f).bad then stopped_at w f.place else after_replies (alike.reply i ∷ []) (rest_run stop i);
    records = more_records;
  }

-- Entries in two parts

answered_split : (es fs : List DriverEntry) (o : Oracle) → AreAnsweredBy o (es ++ fs) → AreAnsweredBy o es × AreAnsweredBy (behind_entries es o) fs
answered_split [] fs o h = (tt, h)
answered_split (e ∷ es) fs o h = let p = answered_split es fs (behind_call e.call o) h.1 in ((h.0, p.0), p.1)

told_both : (es fs : List DriverEntry) (o : Oracle) → as_told (es ++ fs) o ≡ told es (as_told fs (behind_entries es o))
told_both es fs o = told-append es fs (behind_entries (es ++ fs) o) ∙ ap (λ (z : Oracle). told es (told fs z)) (behind_append es fs o)

no_entries : (w : WireState) (fs : List Fetched) (o : Oracle) (es : List DriverEntry) → es ≡ [] → SameRun w fs (as_told es o) o
no_entries w fs o es none = same_where_equal w fs (as_told es o) o (ap (λ (gs : List DriverEntry). as_told gs o) none)

-- One part more

abbrev Law : List Fetched → (WireState → Oracle → List DriverEntry → Type 0) → Type 0
Law fs P = (w : WireState) (d : DriverState) (o : Oracle) (es : List DriverEntry) → Agrees w d → IsLegal d es → AreAnsweredBy o es → P w (as_told es o) es → SameRun w fs (as_told es o) o × P w o es

abbrev StartsWithPart : Fetched → (WireState → Oracle → List DriverEntry → Type 0) → WireState → Oracle → List DriverEntry → Type 0
StartsWithPart f P w o es = (part rest : List DriverEntry) × (es ≡ part ++ rest) × IsPartOf (meaning_of w f).calls o part × P ((meaning_of w f).step o).state ((meaning_of w f).step o).oracle rest

module _ (f : Fetched) (fs : List Fetched) (P : WireState → Oracle → List DriverEntry → Type 0) (law : Law fs P) where
  one_part : (w : WireState) (d : DriverState) (o : Oracle) (es : List DriverEntry) → Agrees w d → IsLegal d es → AreAnsweredBy o es → (meaning_of w f).bad ≡ false → StartsWithPart f P w (as_told es o) es
      → SameRun w (f ∷ fs) (as_told es o) o × StartsWithPart f P w o es
  one_part w d o es a l answered fair p =
      let part = p.0 in
      let rest = p.1 in
      let behind : Oracle = behind_entries part o in
      let next : Oracle = as_told rest behind in
      let same : as_told es o ≡ told part next = ap (λ (gs : List DriverEntry). as_told gs o) p.2 ∙ told_both part rest o in
      let legal = legal_split d part rest (subst (IsLegal d) p.2 l) in
      let answers = answered_split part rest o (subst (AreAnsweredBy o) p.2 answered) in
      let calls : calls_in part ≡ (meaning_of w f).calls (told part next) = p.3 ∙ ap (meaning_of w f).calls same in
      let alike = part_alike w d a o part answers.0 legal.0 (pixels_before rest behind (behind_entries rest behind).pixels) next (entries_tell rest behind answers.1 (behind_entries rest behind).pixels) (command_of f) f.payload fair calls in
      let left = part_left w d (command_of f) f.payload a fair next part legal.0 calls in
      let others : P ((meaning_of w f).step (told part next)).state next rest = subst (λ (t : Oracle). P ((meaning_of w f).step (told part next)).state t rest) alike.first_left
      (subst (λ (t : Oracle). P ((meaning_of w f).step t).state ((meaning_of w f).step t).oracle rest) same p.4) in
      let later = law ((meaning_of w f).step (told part next)).state (state_after d part) behind rest left.agrees legal.1 answers.1 others in (
        subst (λ (t : Oracle). SameRun w (f ∷ fs) t o) (sym same) (same_further f fs w (told part next) o next behind alike later.0),
        (
          part,
          rest,
          p.2,
          calls ∙ alike.calls,
          subst (λ (t : Oracle). P ((meaning_of w f).step o).state t rest) (sym alike.second_left) (subst (λ (s : WireState). P s behind rest) alike.state later.1),
        ),
      )

-- a journal that is one part for each command
abbrev PartsLaw : List Fetched → Type 0
PartsLaw fs = Law fs (λ w o es. AreParts w fs o es)

by_bad : (f : Fetched) (fs : List Fetched) → PartsLaw fs → (w : WireState) (d : DriverState) (o : Oracle) (es : List DriverEntry) → Agrees w d → IsLegal d es → AreAnsweredBy o es → (b : Bool) → (meaning_of w f).bad ≡ b
    → MatchBool b (es ≡ []) (StartsWithPart f (λ s z gs. AreParts s fs z gs) w (as_told es o) es) → SameRun w (f ∷ fs) (as_told es o) o × MatchBool b (es ≡ []) (StartsWithPart f (λ s z gs. AreParts s fs z gs) w o es)
by_bad f fs law w d o es a l answered true bad none = (no_entries w (f ∷ fs) o es none, none)
by_bad f fs law w d o es a l answered false fair p = one_part f fs (λ s z gs. AreParts s fs z gs) law w d o es a l answered fair p

pub same_run : (fs : List Fetched) → PartsLaw fs
same_run [] w d o es a l answered parts = (no_entries w [] o es parts, parts)
same_run (f ∷ fs) w d o es a l answered parts = by_bad f fs (same_run fs) w d o es a l answered (meaning_of w f).bad refl parts

-- Where the run was cut off

module _ (f : Fetched) (fs : List Fetched) (w : WireState) (d : DriverState) (o : Oracle) (es : List DriverEntry) (a : Agrees w d) (l : IsLegal d es) (answered : AreAnsweredBy o es) where
  front_same : (meaning_of w f).bad ≡ false → (z : Oracle) (more : List DriverCall) → calls_in es ++ more ≡ (meaning_of w f).calls (told es z) → SameRun w (f ∷ fs) (as_told es o) o
  front_same fair z more h = elim (front_kind w d a es more (told es z) l (command_of f) f.payload fair h) [
    | inl none ↦ same_where_equal w (f ∷ fs) (as_told es o) o (tell_all es o answered none)
    | inr all ↦ same_further f fs w (as_told es o) o (behind_entries es o) (behind_entries es o)
        (part_alike w d a o es answered l (behind_entries es o).pixels (behind_entries es o) refl (command_of f) f.payload fair (all (as_told es o)))
        (same_where_equal _ fs (behind_entries es o) (behind_entries es o) refl)
  ]

  next_same : (lost : Bool) → IsFrontOfMeaning lost (meaning_of w f) es → SameRun w (f ∷ fs) (as_told es o) o
  next_same true h = front_same h.0 h.1.0 (h.1.1 ∷ h.1.2) h.1.3
  next_same false h = elim (meaning_of w f).bad as (λ b. (meaning_of w f).bad ≡ b → SameRun w (f ∷ fs) (as_told es o) o) [
    | true ↦ λ bad. no_entries w (f ∷ fs) o es (h.1 bad)
    | false ↦ λ fair. front_same fair h.0.0 h.0.1 h.0.2
  ] refl

same_front : (lost : Bool) (fs : List Fetched) → Law fs (λ w o es. IsNextFront lost w fs es)
same_front false [] w d o es a l answered none = (no_entries w [] o es none, none)
same_front true [] w d o es a l answered none = absurd none
same_front false (f ∷ fs) w d o es a l answered h = (next_same f fs w d o es a l answered false h, h)
same_front true (f ∷ fs) w d o es a l answered h = (next_same f fs w d o es a l answered true h, h)

-- a journal that is one part for each of some commands, and a front of the next one's
pub same_cut : (fs : List Fetched) (lost : Bool) (n : ℕ) → Law fs (λ w o es. AreCutParts lost w fs n o es)
same_cut fs lost zero w d o es a l answered h = same_front lost fs w d o es a l answered h
same_cut [] lost (suc n) w d o es a l answered h = absurd h
same_cut (f ∷ fs) lost (suc n) w d o es a l answered h =
    let one = one_part f fs (λ s z gs. AreCutParts lost s fs n z gs) (same_cut fs lost n) w d o es a l answered h.0 h.1 in (one.0, (h.0, one.1))
