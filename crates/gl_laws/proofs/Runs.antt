-- A journal that is one part for each command has the records of the run.
use Rattle.std.proofs.Common.{◌≡◌, ℕ, Bool, true, false, if◌then◌else◌, List, [], ◌∷◌, ◌++◌, Option, None, Some, MatchBool, refl, sym, ap, ◌∙◌, subst}
use Rattle.gl_plain.specs.declared.commands.Command.{Command}
use Rattle.gl_plain.specs.declared.commands.Fetched.{Fetched}
use Rattle.gl_plain.specs.declared.driver_calls.DriverEntry.{DriverEntry}
use Rattle.gl_plain.specs.subjects.Images.{Contents, read_contents}
use Rattle.gl_plain.specs.Oracle.{Oracle}
use Rattle.gl_plain.specs.driver.Answers.{told}
use Rattle.gl_plain.specs.State.{WireState, DriverState}
use Rattle.gl_plain.specs.Commands.{command_of}
use Rattle.gl_plain.specs.Meaning.{Meaning, breaks_a_bucket_rule, command_meaning, delivering, meaning_if, meaning_by, meaning_of}
use Rattle.gl_plain.specs.declared.driver_calls.DriverCall.{DriverCall}
use Rattle.gl_plain.specs.Wire.{given_to, reply_bucket}
use Rattle.gl_plain.specs.Journal.{IsLegal, state_after, records_in}
use Rattle.gl_plain.specs.Parts.{calls_in, IsPartOf, AreParts}
use Rattle.gl_plain.specs.Records.{Record, contents_behind, records_made, run_records}
use Rattle.gl_plain.specs.Agreement.{Agrees}
use Rattle.gl_plain.proofs.Journals.{told-append}
use Rattle.gl_laws.proofs.Lists.{legal_split, records-append}
use Rattle.gl_laws.proofs.Commands.{leaves_it}

-- what the part of a command leaves, if one is spelled, by what it means
pub record PartLeft (m : Meaning WireState) (w : WireState) (d : DriverState) (c : Option Command) (payload : List ℕ) (before after : Oracle) (es : List DriverEntry) : Type 0 where
  pub asked : (m.step before).oracle ≡ after
  pub agrees : Agrees (m.step before).state (state_after d es)
  pub contents : read_contents (state_after d es).contents ≡ contents_behind w c payload before (read_contents d.contents)
  pub records : records_in d es ≡ records_made w c payload before (read_contents d.contents)

-- a reply that goes into a bucket changes the buckets alone
delivered : (b : Option ℕ) (w : WireState) (d : DriverState) (c : Command) (payload : List ℕ) (m : Meaning WireState) (before after : Oracle) (es : List DriverEntry) → PartLeft m w d (Some c) payload before after es
    → PartLeft (delivering b m) w d (Some c) payload before after es
delivered None w d c payload m before after es left = left
delivered (Some b) w d c payload m before after es left =
    record { asked = left.asked; agrees = record { tables = left.agrees.tables; images = left.agrees.images; aligned = left.agrees.aligned }; contents = left.contents; records = left.records }

pub delivered_bad : (b : Option ℕ) (m : Meaning WireState) → (delivering b m).bad ≡ m.bad
delivered_bad None m = refl
delivered_bad (Some b) m = refl

pub delivered_calls : (b : Option ℕ) (m : Meaning WireState) → (delivering b m).calls ≡ m.calls
delivered_calls None m = refl
delivered_calls (Some b) m = refl

-- where it may break a rule on buckets
left_if : (broken : Bool) (w : WireState) (d : DriverState) (c : Command) (payload : List ℕ) → Agrees w d → (meaning_if broken w c payload).bad ≡ false → (o : Oracle) (es : List DriverEntry) → IsLegal d es
    → calls_in es ≡ (meaning_if broken w c payload).calls (told es o) → PartLeft (meaning_if broken w c payload) w d (Some c) payload (told es o) o es
left_if true w d c payload a fair o es l h = absurd (cc)
left_if false w d c payload a fair o es l h =
    let m = command_meaning w c (given_to w c payload) in
    let left = leaves_it w d a c (given_to w c payload) (sym (delivered_bad (reply_bucket c) m) ∙ fair) o es l (h ∙ ap (λ (calls : Oracle → List DriverCall). calls (told es o)) (delivered_calls (reply_bucket c) m)) in
    delivered (reply_bucket c) w d c payload m (told es o) o es (record { asked = left.asked; agrees = left.agrees; contents = left.contents; records = left.records })

pub part_left : (w : WireState) (d : DriverState) (c : Option Command) (payload : List ℕ) → Agrees w d → (meaning_by w c payload).bad ≡ false → (o : Oracle) (es : List DriverEntry) → IsLegal d es → calls_in es ≡ (meaning_by w c payload).calls (told es o)
    → PartLeft (meaning_by w c payload) w d c payload (told es o) o es
part_left w d None payload a fair o es l h = absurd (cc)
part_left w d (Some c) payload a fair o es l h = left_if (breaks_a_bucket_rule w c) w d c payload a fair o es l h

abbrev HasParts : Bool → WireState → Fetched → List Fetched → Oracle → List DriverEntry → Type 0
HasParts bad w f fs o entries = MatchBool bad (entries ≡ [])
    ((part rest : List DriverEntry) × (entries ≡ part ++ rest) × IsPartOf (meaning_of w f).calls o part × AreParts ((meaning_of w f).step o).state fs ((meaning_of w f).step o).oracle rest)

abbrev pub records_by : Bool → WireState → Contents → Fetched → List Fetched → Oracle → List Record
records_by bad w k f fs o = if bad then [] else records_made w (command_of f) f.payload o k ++ run_records ((meaning_of w f).step o).state (contents_behind w (command_of f) f.payload o k) fs ((meaning_of w f).step o).oracle

abbrev RunLaw : List Fetched → Type 0
RunLaw fs = (w : WireState) (d : DriverState) (o : Oracle) (entries : List DriverEntry) → Agrees w d → IsLegal d entries → AreParts w fs (told entries o) entries
    → records_in d entries ≡ run_records w (read_contents d.contents) fs (told entries o)

module _ (f : Fetched) (fs : List Fetched) (law : RunLaw fs) (w : WireState) (d : DriverState) (o : Oracle) (a : Agrees w d) where
  one_more : (meaning_of w f).bad ≡ false → (part rest : List DriverEntry) → IsLegal d (part ++ rest) → calls_in part ≡ (meaning_of w f).calls (told part (told rest o))
      → AreParts ((meaning_of w f).step (told part (told rest o))).state fs ((meaning_of w f).step (told part (told rest o))).oracle rest
      → records_in d (part ++ rest) ≡ records_by false w (read_contents d.contents) f fs (told part (told rest o))
  one_more fair part rest legal is others =
      let both = legal_split d part rest legal in
      let left = part_left w d (command_of f) f.payload a fair (told rest o) part both.0 is in
      let later = law ((meaning_of w f).step (told part (told rest o))).state (state_after d part) o rest left.agrees both.1
      (subst (λ (t : Oracle). AreParts ((meaning_of w f).step (told part (told rest o))).state fs t rest) left.asked others) in
      records-append d part rest
      ∙ (λ i. left.records i ++ later i)
      ∙ (λ i. records_made w (command_of f) f.payload (told part (told rest o)) (read_contents d.contents) ++ run_records ((meaning_of w f).step (told part (told rest o))).state (left.contents i) fs (sym left.asked i))

  by_bad : (entries : List DriverEntry) → IsLegal d entries → (b : Bool) → (meaning_of w f).bad ≡ b → HasParts b w f fs (told entries o) entries → records_in d entries ≡ records_by b w (read_contents d.contents) f fs (told entries o)
  by_bad entries l true is p = ap (records_in d) p
  by_bad entries l false is p =
      let q : told entries o ≡ told p.0 (told p.1 o) = ap (λ (es : List DriverEntry). told es o) p.2 ∙ told-append p.0 p.1 o in
      ap (records_in d) p.2 ∙ one_more is p.0 p.1 (subst (IsLegal d) p.2 l) (p.3 ∙ ap (meaning_of w f).calls q)
      (subst (λ (t : Oracle). AreParts ((meaning_of w f).step t).state fs ((meaning_of w f).step t).oracle p.1) q p.4)
      ∙ ap (records_by false w (read_contents d.contents) f fs) (sym q)

pub records_of_run : (fs : List Fetched) → RunLaw fs
records_of_run [] w d o entries a l parts = ap (records_in d) parts
records_of_run (f ∷ fs) w d o entries a l parts = by_bad f fs (records_of_run fs) w d o a entries l (meaning_of w f).bad refl parts
