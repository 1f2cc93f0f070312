-- The own law of Uniform.
use Rattle.std.proofs.Common.{◌≡◌, ◌≢◌, ◌≤◌, inl, inr, ℕ, ℤ, pos, negsuc, ◌*◌, ◌-◌, ◌==◌, Bool, true, false, not, ◌||◌, ◌&&◌, if◌then◌else◌, List, [], ◌∷◌, ◌++◌, length, map, Option, None, Some, is_some, refl, sym, ap, ◌∙◌, subst, arith}
use Rattle.std.specs.Prelude.{min, nat_lt}
use Rattle.std.specs.Option.{option_map}
use Rattle.std.specs.Ordering.{nat_cmp}
use Rattle.std.specs.FinMap as finite
use Rattle.std.specs.FinSet as set
use Rattle.std.proofs.lemmas.Bool.{not-false, and_parts, or_cases, eqb-true}
use Rattle.std.proofs.lemmas.Bool.Decides.{nat_tests}
use Rattle.gl_base.proofs.Found.{test, get-insert_here, get-insert_other, insert-same}
use Rattle.gl_base.specs.declared.limits.TheConstants.{UNIFORM_LIMIT}
use Rattle.gl_plain.specs.declared.commands.DataWords.{DataWords}
use Rattle.gl_plain.specs.declared.commands.ObjectCommand.TheVariants.{Uniform}
use Rattle.gl_plain.specs.declared.driver_calls.DriverCall.{DriverCall}
use Rattle.gl_plain.specs.declared.driver_calls.DriverCall.TheVariants as driver
use Rattle.gl_plain.specs.declared.driver_calls.DriverEntry.{DriverEntry}
use Rattle.gl_plain.specs.declared.driver_calls.ProgramDriver.TheVariants as calls
use Rattle.gl_plain.specs.declared.errors.GlError.{GlError}
use Rattle.gl_plain.specs.declared.programs.Executable.{Executable}
use Rattle.gl_plain.specs.declared.programs.Program.{Program}
use Rattle.gl_plain.specs.declared.programs.Uniform as programs
use Rattle.gl_plain.specs.Bytes.{overwritten, words_from}
use Rattle.gl_plain.specs.Words.{is_negative, natural}
use Rattle.gl_plain.specs.subjects.Data.{IsData, has_no_data, has_needed_data, has_just_needed_data}
use Rattle.gl_plain.specs.subjects.Links.{is_array, is_sampler}
use Rattle.gl_plain.specs.subjects.Programs.{ProgramTables, changed_by, changed_at, ProgramAgrees, AreAlike, ProgramsAgree}
use Rattle.gl_plain.specs.subjects.Uniforms.{is_given_kind, is_matrix, given_words, given_count, uniform_needed, uniform_is_bad, ElementPlace, place_of, as_stored, words_given, suits, has_no_unit, element_refusal, place_refusal, is_nowhere, located_refusal, uniform_refusal, values_by, with_uniform, uniform_effect, uniform_calls, TakesElements, TakesAt, IsUniformAllowed}
use Rattle.gl_plain.specs.State.{EsState, DriverState}
use Rattle.gl_plain.specs.driver.Allowed.{IsAllowed}
use Rattle.gl_plain.specs.driver.Answers.{told}
use Rattle.gl_plain.specs.Journal.{state_after}
use Rattle.gl_plain.specs.Parts.{calls_in}
use Rattle.gl_plain.specs.Agreement.{TablesAgree}
use Rattle.gl_plain.specs.object.Step.{object_step}
use Rattle.gl_laws.proofs.Lists.{no_entry, one_entry, front_of_one, not_nil}
use Rattle.gl_laws.proofs.OwnLaws.{StepLeft, OwnMayGoOn, OwnLeaves}
use Rattle.gl_laws.proofs.Refusals.{not_refused_by}
use Rattle.gl_laws.proofs.Tables.{with_programs}

-- The count of the driver call

-- a count that was cut is cut no further
cut_once : (n : ℕ) → min (min n UNIFORM_LIMIT) UNIFORM_LIMIT ≡ min n UNIFORM_LIMIT
cut_once n = omega arith

within_limit : (n : ℕ) → min n UNIFORM_LIMIT ≤ UNIFORM_LIMIT
within_limit n = omega arith

given_once : (count : ℤ) → given_count (pos (given_count count)) ≡ given_count count
given_once count = cut_once (natural count)

-- several that are left of a count were several
fewer : (n : ℕ) (b : Bool) → (nat_lt 1 n && b) ≡ false → (nat_lt 1 (min n UNIFORM_LIMIT) && b) ≡ false
fewer n b h = grind (arith, nat_tests)

-- The data

none_given : (w : DataWords) (needed : ℕ) (payload : List ℕ) → IsData w payload → (has_no_data w && (needed == 0)) ≡ true → length payload ≡ needed
none_given w needed payload given h =
    let parts : (has_no_data w ≡ true) × ((needed == 0) ≡ true) = and_parts (has_no_data w) (needed == 0) h in
    let three : (((w.source == 0) && (w.count == 0) && (w.a == 0)) ≡ true) × ((w.b == 0) ≡ true) = and_parts ((w.source == 0) && (w.count == 0) && (w.a == 0)) (w.b == 0) parts.0 in
    let two : (((w.source == 0) && (w.count == 0)) ≡ true) × ((w.a == 0) ≡ true) = and_parts ((w.source == 0) && (w.count == 0)) (w.a == 0) three.0 in
    given.none (eqb-true w.source 0 (and_parts (w.source == 0) (w.count == 0) two.0).0) ∙ sym (eqb-true needed 0 parts.1)

some_given : (w : DataWords) (needed : ℕ) (payload : List ℕ) → IsData w payload → has_needed_data w needed ≡ true → length payload ≡ needed
some_given w needed payload given h =
    let parts : (((w.source == 1) || (w.source == 2)) ≡ true) × ((w.count == needed) ≡ true) = and_parts ((w.source == 1) || (w.source == 2)) (w.count == needed) h in
    elim (or_cases (w.source == 1) (w.source == 2) parts.0) [
      | inl e ↦ given.shared (eqb-true w.source 1 e) ∙ eqb-true w.count needed parts.1
      | inr e ↦ given.bucket (eqb-true w.source 2 e) ∙ eqb-true w.count needed parts.1
    ]

-- there are as many bytes as are needed
needed_given : (w : DataWords) (needed : ℕ) (payload : List ℕ) → IsData w payload → has_just_needed_data w needed ≡ true → length payload ≡ needed
needed_given w needed payload given h = elim (or_cases (has_no_data w && (needed == 0)) (has_needed_data w needed) h) [
  | inl e ↦ none_given w needed payload given e
  | inr e ↦ some_given w needed payload given e
]

-- The driver call is allowed

-- what is known of the arguments, besides the element
record Given (kind : ℕ) (count : ℤ) (bytes : List ℕ) : Type 0 where
  some : is_negative count ≡ false
  known : is_given_kind kind ≡ true
  size : length bytes ≡ uniform_needed kind count

given_by : (words : DataWords) (kind : ℕ) (count : ℤ) (bytes : List ℕ) → is_negative count ≡ false → uniform_is_bad kind count words ≡ false → IsData words bytes → Given kind count bytes
given_by words kind count bytes some fair given =
    let parts : (is_given_kind kind ≡ true) × (has_just_needed_data words (uniform_needed kind count) ≡ true) =
    and_parts (is_given_kind kind) (has_just_needed_data words (uniform_needed kind count)) (not-false (is_given_kind kind && has_just_needed_data words (uniform_needed kind count)) fair) in
    record { some = some; known = parts.0; size = needed_given words (uniform_needed kind count) bytes given parts.1 }

-- the words that are given are those of the cut count
same_words : (p : ElementPlace) (kind : ℕ) (count : ℤ) (bytes : List ℕ) → words_given p kind (pos (given_count count)) bytes ≡ words_given p kind count bytes
same_words p kind count bytes = ap (λ (n : ℕ). words_from bytes 0 (given_words kind * min n (p.uniform.size - p.element))) (given_once count)

element_taken : (p : ElementPlace) (kind : ℕ) (count : ℤ) (bytes : List ℕ) → Given kind count bytes → element_refusal p kind count bytes ≡ None → TakesElements p kind (pos (given_count count)) bytes
element_taken p kind count bytes given allowed =
    let first : (not (suits kind p.uniform.kind) ≡ false) × _ = not_refused_by (not (suits kind p.uniform.kind)) _ _ allowed in
    let second : ((nat_lt 1 (natural count) && not (is_array p.uniform)) ≡ false) × _ = not_refused_by (nat_lt 1 (natural count) && not (is_array p.uniform)) _ _ first.1 in
    let third : ((is_sampler p.uniform.kind && has_no_unit (words_given p kind count bytes)) ≡ false) × _ = not_refused_by (is_sampler p.uniform.kind && has_no_unit (words_given p kind count bytes)) _ _ second.1 in
    record {
      suited = not-false (suits kind p.uniform.kind) first.0;
      several = fewer (natural count) (not (is_array p.uniform)) second.0;
      units = ap (λ (words : List ℕ). is_sampler p.uniform.kind && has_no_unit words) (same_words p kind count bytes) ∙ third.0;
      size = given.size;
      few = within_limit (natural count);
      some = refl;
      known = given.known;
    }

place_taken : (p : Option ElementPlace) (kind : ℕ) (count : ℤ) (bytes : List ℕ) → Given kind count bytes → place_refusal p kind count bytes ≡ None → TakesAt p kind (pos (given_count count)) bytes
place_taken None kind count bytes given allowed = absurd (cc)
place_taken (Some p) kind count bytes given allowed = element_taken p kind count bytes given allowed

-- the place is asked for where the location is not -1
place_asked : (nowhere : Bool) (rest : Option GlError) → nowhere ≡ false → (if nowhere then None else rest) ≡ None → rest ≡ None
place_asked true rest is h = absurd (cc)
place_asked false rest is h = h

call_allowed : (installed : Option Executable) (location : ℤ) (kind : ℕ) (count : ℤ) (bytes : List ℕ) → Given kind count bytes → is_nowhere location ≡ false
    → located_refusal installed location kind count bytes ≡ None → IsUniformAllowed installed location kind (pos (given_count count)) bytes
call_allowed None location kind count bytes given somewhere allowed = absurd (cc)
call_allowed (Some e) location kind count bytes given somewhere allowed =
    place_taken (place_of e.answer.uniforms location) kind count bytes given (place_asked (is_nowhere location) (place_refusal (place_of e.answer.uniforms location) kind count bytes) somewhere allowed)

-- Both sides store the same

-- what becomes of the tables where each executable that has the values becomes another
abbrev with_executables : ProgramTables → (Executable → Executable) → ProgramTables
with_executables t f = record t {
  programs = changed_at t.programs t.current (λ p. record p { executable = option_map f p.executable });
  installed = option_map f t.installed;
}

same_values : (p : Option ElementPlace) (kind : ℕ) (count : ℤ) (bytes values : List ℕ) → values_by p kind (pos (given_count count)) bytes values ≡ values_by p kind count bytes values
same_values None kind count bytes values = refl
same_values (Some p) kind count bytes values = ap (λ (words : List ℕ). overwritten values p.word (map (as_stored p.uniform.kind kind) words)) (same_words p kind count bytes)

-- the driver stores by the cut count what the service stores
same_stored : (location : ℤ) (kind : ℕ) (count : ℤ) (bytes : List ℕ) → with_uniform location kind (pos (given_count count)) bytes ≡ with_uniform location kind count bytes
same_stored location kind count bytes = λ i. λ e. record e { values = same_values (place_of e.answer.uniforms location) kind count bytes e.values i }

same_effect : (t : ProgramTables) (location : ℤ) (kind : ℕ) (count : ℤ) (bytes : List ℕ) → uniform_effect t location kind (pos (given_count count)) bytes ≡ uniform_effect t location kind count bytes
same_effect t location kind count bytes = ap (with_executables t) (same_stored location kind count bytes)

-- Where there is no place, nothing is stored

nowhere_place : (us : List programs.Uniform) (location : ℤ) → is_nowhere location ≡ true → place_of us location ≡ None
nowhere_place us (pos n) h = absurd (cc)
nowhere_place us (negsuc n) h = refl

-- an executable keeps its values at the location -1
keeps_values : (location : ℤ) (kind : ℕ) (count : ℤ) (bytes : List ℕ) → is_nowhere location ≡ true → (e : Executable) → with_uniform location kind count bytes e ≡ e
keeps_values location kind count bytes here e =
    ap (λ (p : Option ElementPlace). record e { values = values_by p kind count bytes e.values }) (nowhere_place e.answer.uniforms location here)

module _ (f : Executable → Executable) (same : (e : Executable) → f e ≡ e) where
  mapped_same : (o : Option Executable) → option_map f o ≡ o
  mapped_same None = refl
  mapped_same (Some e) = ap Some (same e)

  changed_same : (m : finite.FinMap nat_cmp Program) (key : ℕ) (o : Option Program) → finite.get m key ≡ o
      → changed_by m key (λ p. record p { executable = option_map f p.executable }) o ≡ m
  changed_same m key None has = refl
  changed_same m key (Some p) has =
      ap (λ (o : Option Executable). finite.insert m key (record p { executable = o })) (mapped_same p.executable) ∙ insert-same m key p has

  unchanged : (t : ProgramTables) → with_executables t f ≡ t
  unchanged t =
      ap (λ (m : finite.FinMap nat_cmp Program). record t { programs = m; installed = option_map f t.installed }) (changed_same t.programs t.current (finite.get t.programs t.current) refl)
      ∙ ap (λ (o : Option Executable). record t { installed = o }) (mapped_same t.installed)

-- Programs that are changed alike agree

module _ {X : Type 0} (m : finite.FinMap nat_cmp X) (key : ℕ) (f : X → X) where
  changed_here : (o : Option X) → finite.get m key ≡ o → finite.get (changed_by m key f o) key ≡ option_map f o
  changed_here None has = has
  changed_here (Some x) has = get-insert_here m key (f x)

  changed_other : (o : Option X) (k : ℕ) → k ≢ key → finite.get (changed_by m key f o) k ≡ finite.get m k
  changed_other None k apart = refl
  changed_other (Some x) k apart = get-insert_other m key (f x) k apart

module _ (f : Program → Program) (alike : (p q : Program) → ProgramAgrees p q → ProgramAgrees (f p) (f q)) where
  both_changed : (x y : Option Program) → AreAlike x y → AreAlike (option_map f x) (option_map f y)
  both_changed None None a = tt
  both_changed None (Some q) a = absurd a
  both_changed (Some p) None a = absurd a
  both_changed (Some p) (Some q) a = alike p q a

  all_alike : (m n : finite.FinMap nat_cmp Program) (key : ℕ) → ((k : ℕ) → AreAlike (finite.get m k) (finite.get n k)) → (k : ℕ) → AreAlike (finite.get (changed_at m key f) k) (finite.get (changed_at n key f) k)
  all_alike m n key a k = elim (test k key) [
    | inl p ↦ subst (λ (j : ℕ). AreAlike (finite.get (changed_at m key f) j) (finite.get (changed_at n key f) j)) (sym p.0)
        (subst (λ (y : Option Program). AreAlike (finite.get (changed_at m key f) key) y) (sym (changed_here n key f (finite.get n key) refl))
        (subst (λ (x : Option Program). AreAlike x (option_map f (finite.get n key))) (sym (changed_here m key f (finite.get m key) refl))
        (both_changed (finite.get m key) (finite.get n key) (a key))))
    | inr p ↦
        subst (λ (y : Option Program). AreAlike (finite.get (changed_at m key f) k) y) (sym (changed_other n key f (finite.get n key) k p.0))
        (subst (λ (x : Option Program). AreAlike x (finite.get n k)) (sym (changed_other m key f (finite.get m key) k p.0)) (a k))
  ]

module _ (f : Executable → Executable) where
  was_linked : (o : Option Executable) → is_some (option_map f o) ≡ true → is_some o ≡ true
  was_linked None h = absurd (cc)
  was_linked (Some e) h = refl

  -- where the service has the program as linked, both had the same executable
  executables_alike : (p q : Program) → ProgramAgrees p q → ProgramAgrees (record p { executable = option_map f p.executable }) (record q { executable = option_map f q.executable })
  executables_alike p q a = record {
    attached = a.attached;
    bound = a.bound;
    is_deleted = a.is_deleted;
    linked = λ h. let both = a.linked (was_linked p.executable h) in (ap (option_map f) both.0, both.1);
  }

  agree_changed : (w t : ProgramTables) (given : set.FinSet nat_cmp) → ProgramsAgree w t given → ProgramsAgree (with_executables w f) (with_executables t f) given
  agree_changed w t given a = record {
    names = a.names;
    ids = a.ids;
    own_ids = a.own_ids;
    shaders = a.shaders;
    programs = subst (λ (key : ℕ). (k : ℕ) → AreAlike (finite.get (changed_at w.programs key (λ p. record p { executable = option_map f p.executable })) k) (finite.get (with_executables t f).programs k)) (sym a.current)
        (all_alike (λ p. record p { executable = option_map f p.executable }) executables_alike w.programs t.programs t.current a.programs);
    current = a.current;
    installed = ap (option_map f) a.installed;
  }

-- Uniform

-- the call, where the location is not -1
calls_by : (P : List DriverCall → Type 0) (location : ℤ) (kind : ℕ) (count : ℤ) (bytes : List ℕ) → (is_nowhere location ≡ true → P []) → (is_nowhere location ≡ false → P (driver.Program (calls.Uniform location kind (pos (given_count count)) bytes) ∷ []))
    → P (uniform_calls location kind count bytes)
calls_by P location kind count bytes none one = elim (is_nowhere location) as (λ b. is_nowhere location ≡ b → P (if b then [] else driver.Program (calls.Uniform location kind (pos (given_count count)) bytes) ∷ [])) [
  | true ↦ none
  | false ↦ one
] refl

module _ (s : EsState) (d : DriverState) (a : TablesAgree s d.tables) (location : ℤ) (kind : ℕ) (count : ℤ) (transpose : Bool) (words : DataWords) (payload : List ℕ)
    (allowed : uniform_refusal s.programs.installed location kind count transpose payload ≡ None) (fair : uniform_is_bad kind count words ≡ false) where
  abbrev own_call : DriverCall
  own_call = driver.Program (calls.Uniform location kind (pos (given_count count)) payload)

  own_allowed : IsData words payload → is_nowhere location ≡ false → IsAllowed d own_call
  own_allowed given somewhere =
      let first : (is_negative count ≡ false) × _ = not_refused_by (is_negative count) _ _ allowed in
      let second : ((transpose && is_matrix kind) ≡ false) × _ = not_refused_by (transpose && is_matrix kind) _ _ first.1 in
      subst (λ (o : Option Executable). IsUniformAllowed o location kind (pos (given_count count)) payload) a.programs.installed
      (call_allowed s.programs.installed location kind count payload (given_by words kind count payload first.0 fair given) somewhere second.1)

  pub uniform_may : IsData words payload → OwnMayGoOn s d (Uniform location kind count transpose words) payload
  uniform_may given o es next more l h = calls_by (λ (cs : List DriverCall). calls_in es ++ next ∷ more ≡ cs → IsAllowed (state_after d es) next) location kind count payload
      (λ nowhere none. absurd (not_nil (calls_in es) next more none))
      (λ somewhere one. front_of_one (λ (gs : List DriverEntry) (c : DriverCall). IsAllowed (state_after d gs) c) own_call (own_allowed given somewhere) es next more one) h

  abbrev stored : Executable → Executable
  stored = with_uniform location kind count payload

  agree_nowhere : is_nowhere location ≡ true → ProgramsAgree (with_executables s.programs stored) d.tables.programs d.tables.given.programs
  agree_nowhere nowhere = subst (λ (t : ProgramTables). ProgramsAgree t d.tables.programs d.tables.given.programs) (sym (unchanged stored (keeps_values location kind count payload nowhere) s.programs)) a.programs

  agree_stored : ProgramsAgree (uniform_effect s.programs location kind count payload) (uniform_effect d.tables.programs location kind (pos (given_count count)) payload) d.tables.given.programs
  agree_stored = subst (λ (t : ProgramTables). ProgramsAgree (with_executables s.programs stored) t d.tables.given.programs) (sym (same_effect d.tables.programs location kind count payload))
      (agree_changed stored s.programs d.tables.programs d.tables.given.programs a.programs)

  pub uniform_leaves : OwnLeaves s d (Uniform location kind count transpose words) payload
  uniform_leaves o es l h = calls_by (λ (cs : List DriverCall). calls_in es ≡ cs → StepLeft d (object_step s (Uniform location kind count transpose words) payload (told es o)) o es) location kind count payload
      (λ nowhere none. no_entry (λ (gs : List DriverEntry). StepLeft d (object_step s (Uniform location kind count transpose words) payload (told gs o)) o gs)
      (record { asked = refl; agrees = with_programs s d.tables _ _ a (agree_nowhere nowhere); contents = refl; records = refl }) es none)
      (λ somewhere one. one_entry (λ (gs : List DriverEntry). StepLeft d (object_step s (Uniform location kind count transpose words) payload (told gs o)) o gs) own_call
      (λ answer. record { asked = refl; agrees = with_programs s d.tables _ _ a agree_stored; contents = refl; records = refl }) es one) h
