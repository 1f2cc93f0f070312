-- Gen and Bind in any name space. A further space is a line in the first lemmas.
use Rattle.std.proofs.Common.{◌≡◌, ◌≢◌, inl, inr, ℕ, ◌==◌, Bool, true, false, if◌then◌else◌, List, [], ◌∷◌, ◌++◌, Option, None, Some, IsSome, refl, sym, ap, ◌∙◌, subst}
use Rattle.std.specs.FinMap as map
use Rattle.std.proofs.lemmas.Bool.Decides.{eqb_tells}
use Rattle.gl_base.proofs.Found.{get-insert_here}
use Rattle.gl_plain.specs.declared.objects.Name as names
use Rattle.gl_plain.specs.declared.driver_calls.Answer.{Answer}
use Rattle.gl_plain.specs.declared.driver_calls.Answer.TheVariants.{Name}
use Rattle.gl_plain.specs.declared.driver_calls.DriverCall.{DriverCall}
use Rattle.gl_plain.specs.declared.driver_calls.DriverEntry.{DriverEntry}
use Rattle.gl_plain.specs.subjects.Names.{new_name, IsFresh}
use Rattle.gl_plain.specs.Oracle.{Oracle, first, behind, led_by}
use Rattle.gl_plain.specs.State.{EsState, DriverTables, DriverState}
use Rattle.gl_plain.specs.Spaces.{Space, Buffers, Textures, Renderbuffers, Framebuffers, names_in, with_name, numbers_in, with_numbers, gen_call, given_in, with_given}
use Rattle.gl_plain.specs.Outcome.{Outcome, leaves}
use Rattle.gl_plain.specs.driver.Allowed.{IsAllowed}
use Rattle.gl_plain.specs.driver.Answers.{told, told_call, told_number}
use Rattle.gl_plain.specs.driver.Effect.{tables_after, contents_after_call, driver_after}
use Rattle.gl_plain.specs.Journal.{IsLegal, state_after}
use Rattle.gl_plain.specs.Records.{call_records}
use Rattle.gl_plain.specs.Parts.{calls_in}
use Rattle.gl_plain.specs.Agreement.{TablesAgree}
use Rattle.gl_plain.specs.object.Step.{bind_outcome}
use Rattle.gl_plain.specs.object.Calls.{bind_calls}
use Rattle.gl_plain.proofs.BuffersAgree.{agree_named}
use Rattle.gl_laws.proofs.OwnLaws.{StepLeft}
use Rattle.gl_laws.proofs.Tables.{with_new_buffer, with_new_texture, with_new_renderbuffer, with_new_framebuffer}
use Rattle.gl_laws.proofs.TargetsAgree.{agree_renderbuffer_named, agree_framebuffer_named}
use Rattle.gl_laws.proofs.TexturesAgree.{agree_texture_named}
use Rattle.gl_laws.proofs.Lists.{entry, one_entry, two_entries, front_of_one, first_entry, head_is, tail_is}

-- a new name
pub agree_gen : (space : Space) (s : EsState) (t : DriverTables) → TablesAgree s t → (id n : ℕ) → map.get (names_in space s) id ≡ None → id ≢ 0 → IsFresh (given_in space t.given) n → TablesAgree (with_name space id n s) (with_given space n t)
agree_gen Buffers s t a id n free positive fresh = with_new_buffer s t _ _ n a (agree_named s.buffers t.buffers t.given.buffers a.buffers id n free positive fresh)
agree_gen Textures s t a id n free positive fresh = with_new_texture s t _ _ n a (agree_texture_named s.textures t.textures t.given.textures a.textures id n free positive fresh)
agree_gen Renderbuffers s t a id n free positive fresh = with_new_renderbuffer s t _ _ n a (agree_renderbuffer_named s.renderbuffers t.renderbuffers t.given.renderbuffers a.renderbuffers id n free positive fresh)
agree_gen Framebuffers s t a id n free positive fresh = with_new_framebuffer s t _ _ n a (agree_framebuffer_named s.framebuffers t.framebuffers t.given.framebuffers a.framebuffers id n free positive fresh)

-- it is in use
pub known_name : (space : Space) (s : EsState) (id n : ℕ) → map.get (names_in space (with_name space id n s)) id ≡ Some (new_name n)
known_name Buffers s id n = get-insert_here s.buffers.names id (new_name n)
known_name Textures s id n = get-insert_here s.textures.names id (new_name n)
known_name Renderbuffers s id n = get-insert_here s.renderbuffers.names id (new_name n)
known_name Framebuffers s id n = get-insert_here s.framebuffers.names id (new_name n)

pub gen_told : (space : Space) (answer : Answer) (o : Oracle) → told_call (gen_call space) answer o ≡ told_number space answer o
gen_told Buffers answer o = refl
gen_told Textures answer o = refl
gen_told Renderbuffers answer o = refl
gen_told Framebuffers answer o = refl

gen_allowed : (space : Space) (d : DriverState) → IsAllowed d (gen_call space)
gen_allowed Buffers d = tt
gen_allowed Textures d = tt
gen_allowed Renderbuffers d = tt
gen_allowed Framebuffers d = tt

-- an answer to a Gen is a new name
pub gen_answered : (space : Space) (d : DriverState) (P : Answer → Type 0) → ((n : ℕ) → IsFresh (given_in space d.tables.given) n → P (Name n)) → (answer : Answer) (es : List DriverEntry) → IsLegal d (entry (gen_call space) answer ∷ es) → P answer
gen_answered Buffers d P f (Name n) es l = f n l.0.answered
gen_answered Buffers d P f answer es l = absurd l.0.answered
gen_answered Textures d P f (Name n) es l = f n l.0.answered
gen_answered Textures d P f answer es l = absurd l.0.answered
gen_answered Renderbuffers d P f (Name n) es l = f n l.0.answered
gen_answered Renderbuffers d P f answer es l = absurd l.0.answered
gen_answered Framebuffers d P f (Name n) es l = f n l.0.answered
gen_answered Framebuffers d P f answer es l = absurd l.0.answered

gen_after : (space : Space) (d : DriverState) (n : ℕ) → driver_after d (gen_call space) (Name n) ≡ record { tables = with_given space n d.tables; contents = d.contents }
gen_after Buffers d n = refl
gen_after Textures d n = refl
gen_after Renderbuffers d n = refl
gen_after Framebuffers d n = refl

gen_records : (space : Space) (d : DriverState) (answer : Answer) → call_records d (gen_call space) answer ≡ []
gen_records Buffers d answer = refl
gen_records Textures d answer = refl
gen_records Renderbuffers d answer = refl
gen_records Framebuffers d answer = refl

-- the numbers behind one that was told
pub numbers_behind : (space : Space) (n : ℕ) (o : Oracle) → with_numbers space (behind (numbers_in space (with_numbers space (led_by n (numbers_in space o)) o))) (with_numbers space (led_by n (numbers_in space o)) o) ≡ o
numbers_behind Buffers n o = refl
numbers_behind Textures n o = refl
numbers_behind Renderbuffers n o = refl
numbers_behind Framebuffers n o = refl

pub first_number : (space : Space) (n : ℕ) (o : Oracle) → first (numbers_in space (with_numbers space (led_by n (numbers_in space o)) o)) ≡ n
first_number Buffers n o = refl
first_number Textures n o = refl
first_number Renderbuffers n o = refl
first_number Framebuffers n o = refl

pub some_is : (o : Option names.Name) (x : names.Name) → o ≡ Some x → IsSome o
some_is o x e = subst (λ (y : Option names.Name). IsSome y) (sym e) refl

pub not_zero : (n : ℕ) → (n == 0) ≡ false → n ≢ 0
not_zero n h e = let q : (0 == 0) ≡ false = subst (λ (k : ℕ). (k == 0) ≡ false) e h in absurd (cc)

pub is_zero : (n : ℕ) → (n == 0) ≡ true → n ≡ 0
is_zero n h = elim (eqb_tells n 0) [ inl p ↦ p.1 | inr p ↦ let f : (n == 0) ≡ false = p.0 in absurd (cc) ]

-- What is so of the call that binds a name of a space, and of what it does to the service's tables. The test says where a bind is refused for
-- what the name stands for.
pub record IsBind (space : Space) (call : ℕ → DriverCall) (bind : EsState → EsState) (id : ℕ) (is_refused : EsState → names.Name → Bool) : Type 0 where
  pub asks_nothing : (name : ℕ) (answer : Answer) (o : Oracle) → told_call (call name) answer o ≡ o
  pub same_contents : (d : DriverState) (name : ℕ) (answer : Answer) → contents_after_call d (call name) answer ≡ d.contents
  pub no_records : (d : DriverState) (name : ℕ) (answer : Answer) → call_records d (call name) answer ≡ []
  -- a name that was just given stands for nothing
  pub new_is_fair : (s : EsState) (n : ℕ) → is_refused s (new_name n) ≡ false
  pub zero_allowed : (s : EsState) (d : DriverState) → TablesAgree s d.tables → IsAllowed d (call 0)
  pub known_allowed : (s : EsState) (d : DriverState) (x : names.Name) → TablesAgree s d.tables → map.get (names_in space s) id ≡ Some x → is_refused s x ≡ false → IsAllowed d (call x.number)
  pub known : (s : EsState) (t : DriverTables) (x : names.Name) (answer : Answer) → TablesAgree s t → map.get (names_in space s) id ≡ Some x → is_refused s x ≡ false → TablesAgree (bind s) (tables_after t (call x.number) answer)
  pub none : (s : EsState) (t : DriverTables) (answer : Answer) → TablesAgree s t → id ≡ 0 → TablesAgree (bind s) (tables_after t (call 0) answer)

module _ (space : Space) (call : ℕ → DriverCall) (bind : EsState → EsState) (id : ℕ) (is_refused : EsState → names.Name → Bool) (is : IsBind space call bind id is_refused) (s : EsState) (d : DriverState) (a : TablesAgree s d.tables)
    (fair : (x : names.Name) → map.get (names_in space s) id ≡ Some x → is_refused s x ≡ false) where
  may_unknown : map.get (names_in space s) id ≡ None → (b : Bool) → (id == 0) ≡ b → (o : Oracle) (es : List DriverEntry) (next : DriverCall) (more : List DriverCall) → IsLegal d es
      → calls_in es ++ next ∷ more ≡ (if b then call 0 ∷ [] else gen_call space ∷ call (first (numbers_in space (told es o))) ∷ []) → IsAllowed (state_after d es) next
  may_unknown free true z o es next more l h = front_of_one (λ (gs : List DriverEntry) (x : DriverCall). IsAllowed (state_after d gs) x) (call 0) (is.zero_allowed s d a) es next more h
  may_unknown free false z o [] next more l h = subst (IsAllowed d) (sym (head_is next (gen_call space) more (call (first (numbers_in space o)) ∷ []) h)) (gen_allowed space d)
  may_unknown free false z o (e ∷ es) next more l h =
      first_entry (λ (gs : List DriverEntry). IsLegal d gs → calls_in gs ++ next ∷ more ≡ gen_call space ∷ call (first (numbers_in space (told gs o))) ∷ [] → IsAllowed (state_after d gs) next) (gen_call space) e es
      (head_is e.call (gen_call space) (calls_in es ++ next ∷ more) (call (first (numbers_in space (told (e ∷ es) o))) ∷ []) h)
      (λ k g. gen_answered space d
      (λ (x : Answer). gen_call space ∷ (calls_in es ++ next ∷ more) ≡ gen_call space ∷ call (first (numbers_in space (told (entry (gen_call space) x ∷ es) o))) ∷ [] → IsAllowed (state_after (driver_after d (gen_call space) x) es) next)
      (λ n fresh g. second n fresh (tail_is (gen_call space) (gen_call space) (calls_in es ++ next ∷ more) (call (first (numbers_in space (told (entry (gen_call space) (Name n) ∷ es) o))) ∷ []) g)) e.answer es k g)
      l h
    where
      second : (n : ℕ) → IsFresh (given_in space d.tables.given) n → calls_in es ++ next ∷ more ≡ call (first (numbers_in space (told_call (gen_call space) (Name n) (told es o)))) ∷ [] → IsAllowed (state_after (driver_after d (gen_call space) (Name n)) es) next
      second n fresh g =
          let number : first (numbers_in space (told_call (gen_call space) (Name n) (told es o))) ≡ n = ap (λ (q : Oracle). first (numbers_in space q)) (gen_told space (Name n) (told es o)) ∙ first_number space n (told es o) in
          let middle : DriverState = record { tables = with_given space n d.tables; contents = d.contents } in
          front_of_one (λ (gs : List DriverEntry) (x : DriverCall). IsAllowed (state_after (driver_after d (gen_call space) (Name n)) gs) x) (call n)
          (subst (λ (q : DriverState). IsAllowed q (call n)) (sym (gen_after space d n))
          (is.known_allowed (with_name space id n s) middle (new_name n) (agree_gen space s d.tables a id n free (not_zero id z) fresh) (known_name space s id n) (is.new_is_fair (with_name space id n s) n)))
          es next more (g ∙ ap (λ (k : ℕ). call k ∷ []) number)

  may_by : (found : Option names.Name) → map.get (names_in space s) id ≡ found → (o : Oracle) (es : List DriverEntry) (next : DriverCall) (more : List DriverCall) → IsLegal d es
      → calls_in es ++ next ∷ more ≡ bind_calls space call id (told es o) found → IsAllowed (state_after d es) next
  may_by (Some x) e o es next more l h = front_of_one (λ (gs : List DriverEntry) (y : DriverCall). IsAllowed (state_after d gs) y) (call x.number)
      (is.known_allowed s d x a e (fair x e)) es next more h
  may_by None e o es next more l h = may_unknown e (id == 0) refl o es next more l h

  -- each driver call of a bind may be made
  pub bind_may : (o : Oracle) (es : List DriverEntry) (next : DriverCall) (more : List DriverCall) → IsLegal d es → calls_in es ++ next ∷ more ≡ bind_calls space call id (told es o) (map.get (names_in space s) id) → IsAllowed (state_after d es) next
  bind_may o es next more l h = may_by (map.get (names_in space s) id) refl o es next more l h

  -- what a bind of a name that is not in use leaves
  abbrev unknown : Bool → Oracle → Outcome EsState
  unknown b t = if b then leaves (bind s) t else leaves (bind (with_name space id (first (numbers_in space t)) s)) (with_numbers space (behind (numbers_in space t)) t)

  -- one call, that of a bind
  left_one : (name : ℕ) (answer : Answer) (o : Oracle) → TablesAgree (bind s) (tables_after d.tables (call name) answer) → StepLeft d (leaves (bind s) (told (entry (call name) answer ∷ []) o)) o (entry (call name) answer ∷ [])
  left_one name answer o agree = record { asked = is.asks_nothing name answer o; agrees = agree; contents = is.same_contents d name answer; records = ap (λ r. r ++ []) (is.no_records d name answer) }

  -- after the call for a new name
  left_named : (free : map.get (names_in space s) id ≡ None) (positive : id ≢ 0) (o t : Oracle) (n : ℕ) (b : Answer) → t ≡ told_number space (Name n) o → IsFresh (given_in space d.tables.given) n
      → StepLeft d (unknown false t) o (entry (gen_call space) (Name n) ∷ entry (call (first (numbers_in space t))) b ∷ [])
  left_named free positive o t n b told_is fresh =
      let number : first (numbers_in space t) ≡ n = ap (λ (q : Oracle). first (numbers_in space q)) told_is ∙ first_number space n o in
      let middle : DriverState = record { tables = with_given space n d.tables; contents = d.contents } in
      record {
        asked = ap (λ (q : Oracle). with_numbers space (behind (numbers_in space q)) q) told_is ∙ numbers_behind space n o;
        agrees = subst (λ (k : ℕ). TablesAgree (bind (with_name space id k s)) (state_after d (entry (gen_call space) (Name n) ∷ entry (call k) b ∷ [])).tables) (sym number)
            (subst (λ (z : DriverState). TablesAgree (bind (with_name space id n s)) (tables_after z.tables (call n) b)) (sym (gen_after space d n))
            (is.known (with_name space id n s) middle.tables (new_name n) b (agree_gen space s d.tables a id n free positive fresh) (known_name space s id n) (is.new_is_fair (with_name space id n s) n)));
        contents = is.same_contents (driver_after d (gen_call space) (Name n)) (first (numbers_in space t)) b ∙ ap (λ (z : DriverState). z.contents) (gen_after space d n);
        records = (λ i. gen_records space d (Name n) i ++ (is.no_records (driver_after d (gen_call space) (Name n)) (first (numbers_in space t)) b i ++ []));
      }

  left_unknown : (free : map.get (names_in space s) id ≡ None) (b : Bool) → (id == 0) ≡ b → (o : Oracle) (es : List DriverEntry) → IsLegal d es
      → calls_in es ≡ (if b then call 0 ∷ [] else gen_call space ∷ call (first (numbers_in space (told es o))) ∷ []) → StepLeft d (unknown b (told es o)) o es
  left_unknown free true z o es l h = one_entry (λ (gs : List DriverEntry). StepLeft d (unknown true (told gs o)) o gs) (call 0)
      (λ answer. left_one 0 answer o (is.none s d.tables answer a (is_zero id z))) es h
  left_unknown free false z o es l h = two_entries (λ (gs : List DriverEntry). IsLegal d gs → told es o ≡ told gs o → StepLeft d (unknown false (told gs o)) o gs) (gen_call space) (call (first (numbers_in space (told es o))))
      both es h l refl
    where
      both : (x b : Answer) → IsLegal d (entry (gen_call space) x ∷ entry (call (first (numbers_in space (told es o)))) b ∷ [])
          → told es o ≡ told (entry (gen_call space) x ∷ entry (call (first (numbers_in space (told es o)))) b ∷ []) o
          → StepLeft d (unknown false (told (entry (gen_call space) x ∷ entry (call (first (numbers_in space (told es o)))) b ∷ []) o)) o (entry (gen_call space) x ∷ entry (call (first (numbers_in space (told es o)))) b ∷ [])
      both x b k told_is =
          subst (λ (t : Oracle). StepLeft d (unknown false t) o (entry (gen_call space) x ∷ entry (call (first (numbers_in space (told es o)))) b ∷ [])) told_is
          (gen_answered space d
          (λ (x : Answer). told es o ≡ told (entry (gen_call space) x ∷ entry (call (first (numbers_in space (told es o)))) b ∷ []) o → StepLeft d (unknown false (told es o)) o (entry (gen_call space) x ∷ entry (call (first (numbers_in space (told es o)))) b ∷ []))
          (λ n fresh e. left_named free (not_zero id z) o (told es o) n b (e ∙ gen_told space (Name n) (told_call (call (first (numbers_in space (told es o)))) b o) ∙ ap (told_number space (Name n)) (is.asks_nothing (first (numbers_in space (told es o))) b o)) fresh)
          x (entry (call (first (numbers_in space (told es o)))) b ∷ []) k told_is)

  left_by : (found : Option names.Name) → map.get (names_in space s) id ≡ found → (o : Oracle) (es : List DriverEntry) → IsLegal d es → calls_in es ≡ bind_calls space call id (told es o) found → StepLeft d (bind_outcome space bind s id (told es o) found) o es
  left_by (Some x) e o es l h = one_entry (λ (gs : List DriverEntry). StepLeft d (bind_outcome space bind s id (told gs o) (Some x)) o gs) (call x.number)
      (λ answer. left_one x.number answer o (is.known s d.tables x answer a e (fair x e))) es h
  left_by None e o es l h = left_unknown e (id == 0) refl o es l h

  -- what the driver calls of a bind leave
  pub bind_leaves : (o : Oracle) (es : List DriverEntry) → IsLegal d es → calls_in es ≡ bind_calls space call id (told es o) (map.get (names_in space s) id) → StepLeft d (bind_outcome space bind s id (told es o) (map.get (names_in space s) id)) o es
  bind_leaves o es l h = left_by (map.get (names_in space s) id) refl o es l h
