-- A journal that is one part for each of some commands, and a front of the next one's, has the first of the records of those commands.
use Prim.Native.Nat.{zero, suc}
use Rattle.std.proofs.Common.{◌≡◌, ℕ, Bool, true, false, List, [], ◌∷◌, ◌++◌, take, Option, None, Some, refl, sym, ap, ◌∙◌, subst}
use Rattle.gl_plain.specs.declared.commands.Command.{Command}
use Rattle.gl_plain.specs.declared.commands.Fetched.{Fetched}
use Rattle.gl_plain.specs.declared.driver_calls.DriverCall.{DriverCall}
use Rattle.gl_plain.specs.declared.driver_calls.DriverEntry.{DriverEntry}
use Rattle.gl_plain.specs.subjects.Images.{read_contents}
use Rattle.gl_plain.specs.Oracle.{Oracle}
use Rattle.gl_plain.specs.State.{WireState, DriverState}
use Rattle.gl_plain.specs.Commands.{command_of}
use Rattle.gl_plain.specs.Wire.{given_to, reply_bucket}
use Rattle.gl_plain.specs.Meaning.{Meaning, breaks_a_bucket_rule, command_meaning, meaning_if, meaning_by, meaning_of}
use Rattle.gl_plain.specs.driver.Answers.{told}
use Rattle.gl_plain.specs.Journal.{IsLegal, state_after, records_in}
use Rattle.gl_plain.specs.Parts.{calls_in, IsFairFrontOf, IsFrontOfMeaning, IsNextFront, AreCutParts}
use Rattle.gl_plain.specs.Records.{Record, step_records, records_made, run_records}
use Rattle.gl_plain.specs.Agreement.{Agrees}
use Rattle.gl_plain.proofs.Journals.{told-append}
use Rattle.gl_laws.proofs.Lists.{append_records, legal_split, records-append}
use Rattle.gl_laws.proofs.Fronts.{AreFirst, none_first, nothing_first, front_records}
use Rattle.gl_laws.proofs.Runs.{delivered_bad, delivered_calls, part_left, records_by}

module _ (w : WireState) (d : DriverState) (a : Agrees w d) (es : List DriverEntry) (more : List DriverCall) (z o : Oracle) (l : IsLegal d es) where
  -- where the command may break a rule on buckets
  first_if : (broken : Bool) (c : Command) (payload : List ℕ) → (meaning_if broken w c payload).bad ≡ false → calls_in es ++ more ≡ (meaning_if broken w c payload).calls z
      → AreFirst (records_in d es) (step_records w.es c (given_to w c payload) (told es o) (read_contents d.contents))
  first_if true c payload fair h = nothing_first d es more _ h
  first_if false c payload fair h =
      let m = command_meaning w c (given_to w c payload) in
      front_records w d a c (given_to w c payload) (sym (delivered_bad (reply_bucket c) m) ∙ fair) z es more (h ∙ ap (λ (calls : Oracle → List DriverCall). calls z) (delivered_calls (reply_bucket c) m)) o l

  -- of the command that is spelled, if one is
  first_of : (c : Option Command) (payload : List ℕ) → (meaning_by w c payload).bad ≡ false → calls_in es ++ more ≡ (meaning_by w c payload).calls z → AreFirst (records_in d es) (records_made w c payload (told es o) (read_contents d.contents))
  first_of None payload fair h = nothing_first d es more _ h
  first_of (Some c) payload fair h = first_if (breaks_a_bucket_rule w c) c payload fair h

-- a proper front is a front
as_fair : (lost : Bool) (m : Meaning WireState) (entries : List DriverEntry) → IsFrontOfMeaning lost m entries → IsFairFrontOf m.bad m.calls entries
as_fair false m entries h = h
as_fair true m entries h = ((h.1.0, h.1.1 ∷ h.1.2, h.1.3), λ bad. let fair = h.0 in absurd (cc))

no_entries : (d : DriverState) (entries : List DriverEntry) → entries ≡ [] → AreFirst (records_in d entries) []
no_entries d entries h = subst (λ (es : List DriverEntry). AreFirst (records_in d es) []) (sym h) (none_first [])

-- these records, and others behind them, are the first of these
first_and : (made all more : List Record) → AreFirst made all → AreFirst made (all ++ more)
first_and made all more h = (h.0 ++ more, ap (λ (z : List Record). z ++ more) h.1 ∙ sym (append_records made h.0 more))

module _ (f : Fetched) (w : WireState) (d : DriverState) (o : Oracle) (entries : List DriverEntry) (a : Agrees w d) (l : IsLegal d entries) where
  -- of a front of one command
  one_first : (b : Bool) → (meaning_of w f).bad ≡ b → IsFairFrontOf (meaning_of w f).bad (meaning_of w f).calls entries → AreFirst (records_in d entries) (records_by b w (read_contents d.contents) f [] (told entries o))
  one_first true is h = no_entries d entries (h.1 is)
  one_first false is h = first_and _ _ [] (first_of w d a entries h.0.1 (told entries h.0.0) o l (command_of f) f.payload is h.0.2)

next_first : (lost : Bool) (fs : List Fetched) (w : WireState) (d : DriverState) (o : Oracle) (entries : List DriverEntry) → Agrees w d → IsLegal d entries → IsNextFront lost w fs entries
    → AreFirst (records_in d entries) (run_records w (read_contents d.contents) (take 1 fs) (told entries o))
next_first false [] w d o entries a l h = no_entries d entries h
next_first true [] w d o entries a l h = absurd h
next_first false (f ∷ fs) w d o entries a l h = one_first f w d o entries a l (meaning_of w f).bad refl (as_fair false (meaning_of w f) entries h)
next_first true (f ∷ fs) w d o entries a l h = one_first f w d o entries a l (meaning_of w f).bad refl (as_fair true (meaning_of w f) entries h)

-- of n commands and a front of the next one
abbrev CutLaw : List Fetched → Type 0
CutLaw fs = (lost : Bool) (n : ℕ) (w : WireState) (d : DriverState) (o : Oracle) (entries : List DriverEntry) → Agrees w d → IsLegal d entries → AreCutParts lost w fs n (told entries o) entries
    → AreFirst (records_in d entries) (run_records w (read_contents d.contents) (take (suc n) fs) (told entries o))

module _ (f : Fetched) (fs : List Fetched) (law : CutLaw fs) (lost : Bool) (n : ℕ) (w : WireState) (d : DriverState) (o : Oracle) (a : Agrees w d) where
  one_more : (meaning_of w f).bad ≡ false → (part rest : List DriverEntry) → IsLegal d (part ++ rest) → calls_in part ≡ (meaning_of w f).calls (told part (told rest o))
      → AreCutParts lost ((meaning_of w f).step (told part (told rest o))).state fs n ((meaning_of w f).step (told part (told rest o))).oracle rest
      → AreFirst (records_in d (part ++ rest)) (records_by false w (read_contents d.contents) f (take (suc n) fs) (told part (told rest o)))
  one_more fair part rest legal is others =
      let both = legal_split d part rest legal in
      let left = part_left w d (command_of f) f.payload a fair (told rest o) part both.0 is in
      let later = law lost n ((meaning_of w f).step (told part (told rest o))).state (state_after d part) o rest left.agrees both.1
      (subst (λ (t : Oracle). AreCutParts lost ((meaning_of w f).step (told part (told rest o))).state fs n t rest) left.asked others) in (
        later.0,
        (λ i. sym left.records i ++ run_records ((meaning_of w f).step (told part (told rest o))).state (sym left.contents i) (take (suc n) fs) (left.asked i))
            ∙ ap (λ (r : List Record). records_in d part ++ r) later.1
            ∙ append_records (records_in d part) (records_in (state_after d part) rest) later.0
            ∙ ap (λ (r : List Record). r ++ later.0) (sym (records-append d part rest)),
      )

  by_parts : (entries : List DriverEntry) → IsLegal d entries → AreCutParts lost w (f ∷ fs) (suc n) (told entries o) entries → AreFirst (records_in d entries) (run_records w (read_contents d.contents) (f ∷ take (suc n) fs) (told entries o))
  by_parts entries l p =
      let part = p.1.0 in
      let rest = p.1.1 in
      let q : told entries o ≡ told part (told rest o) = ap (λ (es : List DriverEntry). told es o) p.1.2 ∙ told-append part rest o in
      let whole = one_more p.0 part rest (subst (IsLegal d) p.1.2 l) (p.1.3 ∙ ap (meaning_of w f).calls q)
      (subst (λ (t : Oracle). AreCutParts lost ((meaning_of w f).step t).state fs n ((meaning_of w f).step t).oracle rest) q p.1.4) in
      subst (λ (b : Bool). AreFirst (records_in d entries) (records_by b w (read_contents d.contents) f (take (suc n) fs) (told entries o))) (sym p.0)
      (subst (λ (es : List DriverEntry). AreFirst (records_in d es) (records_by false w (read_contents d.contents) f (take (suc n) fs) (told entries o))) (sym p.1.2)
      (subst (λ (t : Oracle). AreFirst (records_in d (part ++ rest)) (records_by false w (read_contents d.contents) f (take (suc n) fs) t)) (sym q) whole))

-- where the run was cut off behind n commands, its records are the first of those of the n commands and the next one
pub records_of_cut : (fs : List Fetched) → CutLaw fs
records_of_cut fs lost zero w d o entries a l h = next_first lost fs w d o entries a l h
records_of_cut [] lost (suc n) w d o entries a l h = absurd h
records_of_cut (f ∷ fs) lost (suc n) w d o entries a l h = by_parts f fs (records_of_cut fs) lost n w d o a entries l h
