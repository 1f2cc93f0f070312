-- The zeroings of a command and its own calls, joined: what its own laws say of the state behind the zeroings holds of the whole.
use Rattle.std.proofs.Common.{◌≡◌, inl, inr, ℕ, false, List, [], ◌∷◌, ◌++◌, Option, None, Some, refl, sym, ap, ◌∙◌, subst}
use Rattle.gl_plain.specs.declared.errors.GlError.{GlError}
use Rattle.gl_plain.specs.declared.commands.Command.{Command}
use Rattle.gl_plain.specs.declared.driver_calls.DriverCall.{DriverCall}
use Rattle.gl_plain.specs.declared.driver_calls.DriverEntry.{DriverEntry}
use Rattle.gl_plain.specs.subjects.Images.{Contents, AreWritten, read_contents}
use Rattle.gl_plain.specs.Oracle.{Oracle}
use Rattle.gl_plain.specs.State.{WireState, DriverTables, DriverState}
use Rattle.gl_plain.specs.driver.Allowed.{IsAllowed}
use Rattle.gl_plain.specs.driver.Answers.{told}
use Rattle.gl_plain.specs.Covers.{zeroings}
use Rattle.gl_plain.specs.Wire.{is_bad, IsCommandData, command_refusal, whole_first, zeroed, own_step, step_by, calls_by, own_calls}
use Rattle.gl_plain.specs.Journal.{IsLegal, state_after, records_in}
use Rattle.gl_plain.specs.Parts.{calls_in}
use Rattle.gl_plain.specs.Records.{own_contents, own_records, contents_by, records_by}
use Rattle.gl_plain.specs.Agreement.{TablesAgree, ImagesAgree, Agrees}
use Rattle.gl_plain.proofs.Journals.{state_after-append, told-append}
use Rattle.gl_laws.proofs.Lists.{not_nil, no_entry, legal_split, records-append}
use Rattle.gl_laws.proofs.Tables.{with_errors}
use Rattle.gl_laws.proofs.Stored.{whole_first_stored}
use Rattle.gl_laws.proofs.Zeroing.{ZeroingsLeft, all_of_both, front_of_both, zeroings_leave, zeroings_may}

-- behind the zeroings of a command the service, with those images written whole, agrees with the driver
pub record Behind (w : WireState) (d : DriverState) (c : Command) : Type 0 where
  pub tables : TablesAgree w.es d.tables
  pub images : ImagesAgree w.es.textures.objects w.es.renderbuffers.objects (zeroed w c).covers (zeroed w c).marks d.contents
  pub written : AreWritten w.es.textures.objects w.es.renderbuffers.objects d.contents (whole_first w c)

-- the zeroings of a command that is not refused
abbrev pub zeroings_of : WireState → Command → List DriverCall
zeroings_of w c = zeroings w.es.textures.objects w.covers w.marks (whole_first w c)

-- no command is there that makes no driver call and has one left
pub no_call : (es : List DriverEntry) (next : DriverCall) (more : List DriverCall) (d : DriverState) → calls_in es ++ next ∷ more ≡ [] → IsAllowed (state_after d es) next
no_call es next more d h = absurd (not_nil (calls_in es) next more h)

-- what all own calls of a command leave
pub record OwnLeft (w : WireState) (d : DriverState) (c : Command) (payload : List ℕ) (before after : Oracle) (es : List DriverEntry) : Type 0 where
  pub asked : (own_step (zeroed w c) c payload before).oracle ≡ after
  pub agrees : Agrees (own_step (zeroed w c) c payload before).state (state_after d es)
  pub contents : read_contents (state_after d es).contents ≡ own_contents w.es c payload before (read_contents d.contents)
  pub records : records_in d es ≡ own_records w.es c payload before (read_contents d.contents)

-- the own laws of a command that is not refused, in any state behind its zeroings
pub record OwnLaws (w : WireState) (c : Command) (payload : List ℕ) : Type 0 where
  pub may : IsCommandData c payload → (d : DriverState) → Behind w d c → (o : Oracle) (es : List DriverEntry) (next : DriverCall) (more : List DriverCall) → IsLegal d es
      → calls_in es ++ next ∷ more ≡ own_calls w c payload (told es o) → IsAllowed (state_after d es) next
  pub leaves : (d : DriverState) → Behind w d c → (o : Oracle) (es : List DriverEntry) → IsLegal d es → calls_in es ≡ own_calls w c payload (told es o) → OwnLeft w d c payload (told es o) o es

-- what all calls of a command leave, by its refusal
pub record LeftBy (r : Option GlError) (w : WireState) (d : DriverState) (c : Command) (payload : List ℕ) (before after : Oracle) (es : List DriverEntry) : Type 0 where
  pub asked : (step_by r w c payload before).oracle ≡ after
  pub agrees : Agrees (step_by r w c payload before).state (state_after d es)
  pub contents : read_contents (state_after d es).contents ≡ contents_by r w.es c payload before (read_contents d.contents)
  pub records : records_in d es ≡ records_by r w.es c payload before (read_contents d.contents)

module _ (w : WireState) (d : DriverState) (a : Agrees w d) where
  -- what the zeroings leave
  pub zeroed_left : (c : Command) (payload : List ℕ) → command_refusal w.es c payload ≡ None → (es : List DriverEntry) → calls_in es ≡ zeroings_of w c
      → ZeroingsLeft w.es.textures.objects w.es.renderbuffers.objects w.covers w.marks d (whole_first w c) es
  zeroed_left c payload is es h = zeroings_leave w.es.textures.objects w.es.renderbuffers.objects w.covers w.marks d a.images (whole_first w c) (whole_first_stored w c payload is) es h

  pub behind_zeroings : (c : Command) (payload : List ℕ) → command_refusal w.es c payload ≡ None → (es : List DriverEntry) → calls_in es ≡ zeroings_of w c → Behind w (state_after d es) c
  behind_zeroings c payload is es h =
      let left = zeroed_left c payload is es h in
      record { tables = subst (λ (t : DriverTables). TablesAgree w.es t) (sym left.tables) a.tables; images = left.images; written = left.written }

  -- the zeroings ask nothing
  pub told_behind : (c : Command) (payload : List ℕ) → command_refusal w.es c payload ≡ None → (xs ys : List DriverEntry) → calls_in xs ≡ zeroings_of w c → (o : Oracle) → told (xs ++ ys) o ≡ told ys o
  told_behind c payload is xs ys are o = told-append xs ys o ∙ (zeroed_left c payload is xs are).asked (told ys o)

  module _ (c : Command) (payload : List ℕ) (own : command_refusal w.es c payload ≡ None → OwnLaws w c payload) where
    -- where the zeroings were made, and one of the own calls is next
    own_next : command_refusal w.es c payload ≡ None → IsCommandData c payload → (o : Oracle) (xs ys : List DriverEntry) (next : DriverCall) (more : List DriverCall) → IsLegal d (xs ++ ys)
        → calls_in xs ≡ zeroings_of w c → calls_in ys ++ next ∷ more ≡ own_calls w c payload (told (xs ++ ys) o) → IsAllowed (state_after d (xs ++ ys)) next
    own_next is given o xs ys next more l are h =
        subst (λ (z : DriverState). IsAllowed z next) (sym (state_after-append d xs ys))
        ((own is).may given (state_after d xs) (behind_zeroings c payload is xs are) o ys next more (legal_split d xs ys l).1 (h ∙ ap (own_calls w c payload) (told_behind c payload is xs ys are o)))

    pub may_by : IsCommandData c payload → (r : Option GlError) → command_refusal w.es c payload ≡ r → (o : Oracle) (es : List DriverEntry) (next : DriverCall) (more : List DriverCall) → IsLegal d es
        → calls_in es ++ next ∷ more ≡ calls_by r w c payload (told es o) → IsAllowed (state_after d es) next
    may_by given (Some e) is o es next more l h = no_call es next more d h
    may_by given None is o es next more l h = elim (front_of_both (zeroings_of w c) (own_calls w c payload (told es o)) es next more h) [
      | inl p ↦ zeroings_may w.es.textures.objects w.es.renderbuffers.objects w.covers w.marks d a.tables.textures.objects a.tables.renderbuffers.objects a.images (whole_first w c) (whole_first_stored w c payload is) es next p.0 p.1
      | inr p ↦ subst (λ (gs : List DriverEntry). IsAllowed (state_after d gs) next) (sym p.2)
          (own_next is given o p.0 p.1 next more (subst (IsLegal d) p.2 l) p.3 (p.4 ∙ ap (λ (gs : List DriverEntry). own_calls w c payload (told gs o)) p.2))
    ]

    -- its zeroings and its own calls leave what it leaves
    left_joined : command_refusal w.es c payload ≡ None → (o : Oracle) (xs ys : List DriverEntry) → IsLegal d (xs ++ ys) → calls_in xs ≡ zeroings_of w c → calls_in ys ≡ own_calls w c payload (told ys o)
        → LeftBy None w d c payload (told ys o) o (xs ++ ys)
    left_joined is o xs ys l are given =
        let zeros = zeroed_left c payload is xs are in
        let left = (own is).leaves (state_after d xs) (behind_zeroings c payload is xs are) o ys (legal_split d xs ys l).1 given in
        record {
          asked = left.asked;
          agrees = subst (Agrees (own_step (zeroed w c) c payload (told ys o)).state) (sym (state_after-append d xs ys)) left.agrees;
          contents = ap (λ (z : DriverState). read_contents z.contents) (state_after-append d xs ys) ∙ left.contents ∙ ap (own_contents w.es c payload (told ys o)) zeros.reads;
          records = records-append d xs ys ∙ (λ i. zeros.records i ++ left.records i) ∙ ap (own_records w.es c payload (told ys o)) zeros.reads;
        }

    pub left_by : (r : Option GlError) → command_refusal w.es c payload ≡ r → (o : Oracle) (es : List DriverEntry) → IsLegal d es → calls_in es ≡ calls_by r w c payload (told es o) → LeftBy r w d c payload (told es o) o es
    left_by (Some e) is o es l h =
        no_entry (λ (gs : List DriverEntry). LeftBy (Some e) w d c payload (told gs o) o gs)
        (record { asked = refl; agrees = record { tables = with_errors w.es d.tables _ a.tables; images = a.images; aligned = a.aligned }; contents = refl; records = refl }) es h
    left_by None is o es l h =
        let p = all_of_both (zeroings_of w c) (own_calls w c payload (told es o)) es h in
        let same : told es o ≡ told p.1 o = ap (λ (gs : List DriverEntry). told gs o) p.2 ∙ told_behind c payload is p.0 p.1 p.3 o in
        subst (λ (t : Oracle). LeftBy None w d c payload t o es) (sym same)
        (subst (λ (gs : List DriverEntry). LeftBy None w d c payload (told p.1 o) o gs) (sym p.2)
        (left_joined is o p.0 p.1 (subst (IsLegal d) p.2 l) p.3 (p.4 ∙ ap (own_calls w c payload) same)))
