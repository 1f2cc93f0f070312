-- A bind of a name that is not in use goes on after its call for a new name, in any name space.
use Rattle.std.proofs.Common.{◌≡◌, ◌≢◌, ℕ, ◌==◌, false, inl, inr, [], ◌∷◌, ◌++◌, Option, None, Some, Result, refl, sym, ◌∙◌, ap, subst}
use Rattle.std.proofs.lemmas.Bool.Decides.{eqb_tells}
use Rattle.std.specs.FinMap as map
use Rattle.gl_plain.specs.declared.objects.Name as names
use Rattle.gl_plain.specs.declared.calls.Reply.{Reply}
use Rattle.gl_plain.specs.declared.driver_calls.Answer.TheVariants.{Name}
use Rattle.gl_plain.specs.declared.driver_calls.DriverCall.{DriverCall}
use Rattle.gl_plain.specs.declared.driver_calls.DriverEntry.{DriverEntry}
use Rattle.gl_plain.specs.declared.stop.ExecStop.{ExecStop}
use Rattle.gl_plain.specs.subjects.Names.{new_name}
use Rattle.gl_plain.specs.Oracle.{Oracle, first, behind, default_answers}
use Rattle.gl_plain.specs.State.{EsState, WireState, DriverState}
use Rattle.gl_plain.specs.Spaces.{Space, Buffers, Textures, Renderbuffers, Framebuffers, names_in, with_name, numbers_in, with_numbers, gen_call}
use Rattle.gl_plain.specs.Outcome.{leaves}
use Rattle.gl_plain.specs.driver.Allowed.{IsAllowed}
use Rattle.gl_plain.specs.driver.Answers.{told, told_call}
use Rattle.gl_plain.specs.Journal.{IsLegal, state_after}
use Rattle.gl_plain.specs.Wire.{on_wire}
use Rattle.gl_plain.specs.Meaning.{Meaning}
use Rattle.gl_plain.specs.Parts.{calls_in}
use Rattle.gl_plain.specs.object.Step.{bind_outcome}
use Rattle.gl_plain.specs.object.Calls.{bind_calls}
use Rattle.gl_plain.specs.object.Covers.{bound_covers, bound_marks}
use Rattle.gl_plain.specs.subjects.Images.{Covers, Marks}
use Rattle.gl_laws.proofs.Lists.{entry}
use Rattle.gl_laws.proofs.Binds.{known_name, first_number, numbers_behind, gen_told}
use Rattle.gl_driver.specs.History.{History, Served}
use Rattle.gl_driver.specs.Performed.{Acts, Leads}
use Rattle.gl_driver.proofs.Exits.{goes_on}
use Rattle.decode_objects.specs.Ready.{MayMake}

abbrev pub gen_entry : Space → ℕ → DriverEntry
gen_entry space n = entry (gen_call space) (Name n)

-- what is written of images behind a bind
abbrev pub bind_covers : Space → Covers → ℕ → Oracle → Option names.Name → Covers
bind_covers Buffers f id o found = f
bind_covers Textures f id o found = bound_covers f id o found
bind_covers Renderbuffers f id o found = f
bind_covers Framebuffers f id o found = f

-- which renderbuffers are written behind a bind
abbrev pub bind_marks : Space → Marks → ℕ → Oracle → Option names.Name → Marks
bind_marks Buffers m id o found = m
bind_marks Textures m id o found = m
bind_marks Renderbuffers m id o found = bound_marks m id o found
bind_marks Framebuffers m id o found = m

-- what is left of a bind, once it was found to be neither malformed nor refused
abbrev pub bind_part : Space → (ℕ → DriverCall) → (EsState → EsState) → ℕ → WireState → Meaning WireState
bind_part space call bind id w = record {
  bad = false;
  step = λ o. on_wire (record w { covers = bind_covers space w.covers id o (map.get (names_in space w.es) id); marks = bind_marks space w.marks id o (map.get (names_in space w.es) id) }) (bind_outcome space bind w.es id o (map.get (names_in space w.es) id));
  calls = λ o. bind_calls space call id o (map.get (names_in space w.es) id);
}

-- the state once the name is in use
abbrev pub named_in : Space → ℕ → ℕ → WireState → WireState
named_in space id n w = record w { es = with_name space id n w.es }

pub apart : (n : ℕ) → n ≢ 0 → (n == 0) ≡ false
apart n h = elim (eqb_tells n 0) [ inl p ↦ absurd (h p.1) | inr p ↦ p.0 ]

module _ (space : Space) (call : ℕ → DriverCall) (id : ℕ) where
  -- its calls, whatever the answers
  pub calls_unknown : (found : Option names.Name) → found ≡ None → id ≢ 0 → (o : Oracle) → bind_calls space call id o found ≡ gen_call space ∷ call (first (numbers_in space o)) ∷ []
  calls_unknown found e positive o = rw (e, apart id positive) refl

  module _ (n : ℕ) where
    -- the first number is that of the answer, and the others are left
    number_is : (o : Oracle) → first (numbers_in space (told_call (gen_call space) (Name n) o)) ≡ n
    number_is o = ap (λ (t : Oracle). first (numbers_in space t)) (gen_told space (Name n) o) ∙ first_number space n o

    rest_is : (o : Oracle) → with_numbers space (behind (numbers_in space (told_call (gen_call space) (Name n) o))) (told_call (gen_call space) (Name n) o) ≡ o
    rest_is o = ap (λ (t : Oracle). with_numbers space (behind (numbers_in space t)) t) (gen_told space (Name n) o) ∙ numbers_behind space n o

    -- behind the call for the name, that bind is left
    pub calls_named : (found : Option names.Name) → found ≡ None → id ≢ 0 → (o : Oracle) → calls_in (gen_entry space n ∷ []) ++ call n ∷ [] ≡ bind_calls space call id (told (gen_entry space n ∷ []) o) found
    calls_named found e positive o = sym (calls_unknown found e positive (told (gen_entry space n ∷ []) o) ∙ ap (λ (k : ℕ). gen_call space ∷ call k ∷ []) (number_is o))

    -- and it may be made
    pub bind_allowed : (d : DriverState) → MayMake d (λ o. bind_calls space call id o None) → id ≢ 0 → IsLegal d (gen_entry space n ∷ []) → IsAllowed (state_after d (gen_entry space n ∷ [])) (call n)
    bind_allowed d may positive legal = may default_answers (gen_entry space n ∷ []) (call n) [] legal (calls_named None refl positive default_answers)

    module _ (bind : EsState → EsState) where
      step_known : (s : EsState) (o : Oracle) (found : Option names.Name) (x : names.Name) → found ≡ Some x → bind_outcome space bind s id o found ≡ leaves (bind s) o
      step_known s o found x e = rw e refl

      step_unknown : (s : EsState) (t : Oracle) (found : Option names.Name) → found ≡ None → id ≢ 0
          → bind_outcome space bind s id t found ≡ leaves (bind (with_name space id (first (numbers_in space t)) s)) (with_numbers space (behind (numbers_in space t)) t)
      step_unknown s t found e positive = rw (e, apart id positive) refl

      -- what is written is the same
      covers_unknown : (found : Option names.Name) → found ≡ None → id ≢ 0 → (f : Covers) (o : Oracle) → bind_covers space f id (told_call (gen_call space) (Name n) o) found ≡ bind_covers space f id o (Some (new_name n))
      covers_unknown found e positive f o = elim space as (λ x. bind_covers x f id (told_call (gen_call x) (Name n) o) found ≡ bind_covers x f id o (Some (new_name n))) [
        | Buffers ↦ refl
        | Textures ↦ rw (e, apart id positive) refl
        | Renderbuffers ↦ refl
        | Framebuffers ↦ refl
      ]

      marks_unknown : (found : Option names.Name) → found ≡ None → id ≢ 0 → (m : Marks) (o : Oracle) → bind_marks space m id (told_call (gen_call space) (Name n) o) found ≡ bind_marks space m id o (Some (new_name n))
      marks_unknown found e positive m o = elim space as (λ x. bind_marks x m id (told_call (gen_call x) (Name n) o) found ≡ bind_marks x m id o (Some (new_name n))) [
        | Buffers ↦ refl
        | Textures ↦ refl
        | Renderbuffers ↦ rw (e, apart id positive) refl
        | Framebuffers ↦ refl
      ]

      gen_leads : (w : WireState) → map.get (names_in space w.es) id ≡ None → id ≢ 0 → Leads (bind_part space call bind id w) (bind_part space call bind id (named_in space id n w)) (gen_entry space n ∷ [])
      gen_leads w unknown positive =
          let s : EsState = with_name space id n w.es in
          let known : map.get (names_in space s) id ≡ Some (new_name n) = known_name space w.es id n in
          record {
            fair = refl;
            fair_after = refl;
            step = λ o i. on_wire (record w {
              covers = (covers_unknown (map.get (names_in space w.es) id) unknown positive w.covers o ∙ ap (bind_covers space w.covers id o) (sym known)) i;
              marks = (marks_unknown (map.get (names_in space w.es) id) unknown positive w.marks o ∙ ap (bind_marks space w.marks id o) (sym known)) i;
            }) (
                (step_unknown w.es (told_call (gen_call space) (Name n) o) (map.get (names_in space w.es) id) unknown positive ∙ (λ i. leaves (bind (with_name space id (number_is o i) w.es)) (rest_is o i))
                ∙ sym (step_known s o (map.get (names_in space s) id) (new_name n) known)) i);
            calls = λ o. sym (calls_named (map.get (names_in space w.es) id) unknown positive o) ∙ ap (λ found. gen_call space ∷ bind_calls space call id o found) (sym known);
          }

      -- the whole bind
      pub after_gen : {D : Type 0} {history : D → History} {grown : D → D → Type 0} → ((a b c : D) → grown a b → grown b c → grown a c) → (before between after : WireState → WireState) {d d1 d2 : D} (result : Result Reply ExecStop) → ((s : WireState) → map.get (names_in space (before s).es) id ≡ None) → id ≢ 0
          → ((s : WireState) → named_in space id n (before s) ≡ between s) → Served history grown d d1 (gen_entry space n ∷ []) → (history d1).stop ≡ (history d).stop → Acts history grown (bind_part space call bind id) between after d1 d2 result
          → Acts history grown (bind_part space call bind id) before after d d2 result
      after_gen further before between after result unknown positive is served going a = goes_on further result served going (λ s.
          subst (λ (w : WireState). Leads (bind_part space call bind id (before s)) (bind_part space call bind id w) (gen_entry space n ∷ [])) (is s) (gen_leads (before s) (unknown s) positive)) a
