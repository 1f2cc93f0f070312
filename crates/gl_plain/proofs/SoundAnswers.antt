-- The answers that lines say are such as a driver may give: each line that may stand keeps what the lines before it say so.
use Rattle.std.proofs.Common.{◌≡◌, Bool, true, false, List, [], ◌∷◌, ◌++◌, length, refl, arith, Option, None, Some, ◌==◌, ◌&&◌, ◌||◌, if◌then◌else◌, subst, not}
use Rattle.std.proofs.lemmas.Grind.{common_steps}
use Rattle.std.proofs.lemmas.List.{append-nil, append_assoc}
use Rattle.std.specs.Prelude.{ℕ, IsTrue, is_none}
use Rattle.std.specs.List.{list_all}
use Rattle.gl_plain.specs.declared.driver_calls.Answer.{Answer}
use Rattle.gl_plain.specs.declared.driver_calls.Answer.TheVariants as answer
use Rattle.gl_plain.specs.declared.programs.Attribute.{Attribute}
use Rattle.gl_plain.specs.declared.programs.LinkAnswer.{LinkAnswer}
use Rattle.gl_plain.specs.declared.programs.Uniform.{Uniform}
use Rattle.gl_plain.specs.declared.programs.Verdict.{Verdict}
use Rattle.gl_plain.specs.declared.common_lines.AnswersDraft.{AnswersDraft}
use Rattle.gl_plain.specs.subjects.Links.{are_attributes, are_uniforms, is_log, is_sound_link, may_follow, may_follow_uniforms}
use Rattle.gl_plain.specs.Distinct.{is_listed}
use Rattle.gl_plain.specs.Oracle.{compile_in, link_in, validate_in}
use Rattle.gl_plain.specs.CommonLines.{answers_in, are_sound_answers, bare_link, closed, closed_by, no_draft, with_attribute, with_attribute_by, with_compile, with_link, with_lost, with_oom, with_uniform, with_uniform_by, with_validate, IsSoundDraft, IsSoundLast}

-- what a test lets through
pub let_through : {A : Type 0} (b : Bool) (x y : A) → (if b then Some x else None) ≡ Some y → (b ≡ true) × (x ≡ y)
let_through true x y e = (refl, cc)
let_through false x y e = absurd (cc)

-- both of two tests pass
both : (a b : Bool) → a ≡ true → b ≡ true → (a && b) ≡ true
both true b x y = y
both false b x y = absurd (cc)

each : (a b : Bool) → (a && b) ≡ true → (a ≡ true) × (b ≡ true)
each true b e = (refl, e)
each false b e = absurd (cc)

-- a test that each passes, and one more
all_push : {X : Type 0} (p : X → Bool) (xs : List X) (x : X) → list_all p xs ≡ true → p x ≡ true → list_all p (xs ++ x ∷ []) ≡ true
all_push p [] x all one = both (p x) true one refl
all_push p (y ∷ xs) x all one = let parts = each (p y) (list_all p xs) all in both (p y) (list_all p (xs ++ x ∷ [])) parts.0 (all_push p xs x parts.1 one)

-- one more attribute that may stand behind the others
attributes_push : (before as' : List Attribute) (a : Attribute) → are_attributes before as' ≡ true → may_follow (before ++ as') a ≡ true → are_attributes before (as' ++ a ∷ []) ≡ true
attributes_push before [] a all one =
    let behind : may_follow before a ≡ true = rw append-nil at one in both (may_follow before a) true behind refl
attributes_push before (b ∷ as') a all one =
    let parts = each (may_follow before b) (are_attributes (before ++ b ∷ []) as') all in
    let behind : may_follow ((before ++ b ∷ []) ++ as') a ≡ true = rw append_assoc one in
    both (may_follow before b) (are_attributes (before ++ b ∷ []) (as' ++ a ∷ [])) parts.0 (attributes_push (before ++ b ∷ []) as' a parts.1 behind)

-- one more uniform that may stand behind the others
uniforms_push : (before us : List Uniform) (u : Uniform) → are_uniforms before us ≡ true → may_follow_uniforms (before ++ us) u ≡ true → are_uniforms before (us ++ u ∷ []) ≡ true
uniforms_push before [] u all one =
    let behind : may_follow_uniforms before u ≡ true = rw append-nil at one in both (may_follow_uniforms before u) true behind refl
uniforms_push before (v ∷ us) u all one =
    let parts = each (may_follow_uniforms before v) (are_uniforms (before ++ v ∷ []) us) all in
    let behind : may_follow_uniforms ((before ++ v ∷ []) ++ us) u ≡ true = rw append_assoc one in
    both (may_follow_uniforms before v) (are_uniforms (before ++ v ∷ []) (us ++ u ∷ [])) parts.0 (uniforms_push (before ++ v ∷ []) us u parts.1 behind)

-- no line was read
pub sound_no_draft : IsSoundDraft no_draft
sound_no_draft = record { compile = refl; link = refl; last = tt; validate = refl }

-- a `compile` line that may stand
pub sound_compile : (draft next : AnswersDraft) (v : Verdict) → IsSoundDraft draft → with_compile draft v ≡ Some next → IsSoundDraft next
unfolding with_compile
sound_compile draft next v sound e =
    let chosen = let_through (is_log v.log) (record draft { compile = draft.compile ++ answer.Compile v.ok v.log ∷ [] }) next e in
    subst IsSoundDraft chosen.1 (record {
      compile = all_push (λ (a : Answer). is_log (compile_in (Some a)).log) draft.compile (answer.Compile v.ok v.log) sound.compile chosen.0;
      link = sound.link;
      last = sound.last;
      validate = sound.validate;
    })

-- a `validate` line that may stand
pub sound_validate : (draft next : AnswersDraft) (v : Verdict) → IsSoundDraft draft → with_validate draft v ≡ Some next → IsSoundDraft next
unfolding with_validate
sound_validate draft next v sound e =
    let chosen = let_through (is_log v.log) (record draft { validate = draft.validate ++ answer.Validate v.ok v.log ∷ [] }) next e in
    subst IsSoundDraft chosen.1 (record {
      compile = sound.compile;
      link = sound.link;
      last = sound.last;
      validate = all_push (λ (a : Answer). is_log (validate_in (Some a)).log) draft.validate (answer.Validate v.ok v.log) sound.validate chosen.0;
    })

-- an `oom` line that may stand
pub sound_oom : (draft next : AnswersDraft) (question : ℕ) → IsSoundDraft draft → with_oom draft question ≡ Some next → IsSoundDraft next
unfolding with_oom
sound_oom draft next question sound e =
    let chosen = let_through (not (is_listed draft.oom question)) (record draft { oom = draft.oom ++ question ∷ [] }) next e in
    subst IsSoundDraft chosen.1 (record { compile = sound.compile; link = sound.link; last = sound.last; validate = sound.validate })

-- a `lost` line that may stand
pub sound_lost : (draft next : AnswersDraft) (call : ℕ) → IsSoundDraft draft → with_lost draft call ≡ Some next → IsSoundDraft next
unfolding with_lost
sound_lost draft next call sound e =
    let chosen = let_through (is_none draft.lost) (record draft { lost = Some call }) next e in
    subst IsSoundDraft chosen.1 (record { compile = sound.compile; link = sound.link; last = sound.last; validate = sound.validate })

-- the list of the last link ends
pub sound_closed : (draft : AnswersDraft) → IsSoundDraft draft → IsSoundDraft (closed draft)
sound_closed draft sound = go draft.last sound.last
  where
    go : (last : Option LinkAnswer) → IsSoundLast last → IsSoundDraft (closed_by draft last)
    go None so = sound
    go (Some l) so = record {
      compile = sound.compile;
      link = all_push (λ (a : Answer). is_sound_link (link_in (Some a))) draft.link (answer.Link l) sound.link (each l.ok (is_sound_link l) so).1;
      last = tt;
      validate = sound.validate;
    }

-- a link of which nothing more was said is sound where its log is
bare_parts : (g ok : Bool) → g ≡ true → (g && (ok || true) && true && true) ≡ true
bare_parts true true e = refl
bare_parts true false e = refl
bare_parts false ok e = absurd (cc)

bare_sound : (v : Verdict) → is_log v.log ≡ true → is_sound_link (bare_link v) ≡ true
bare_sound v e = bare_parts (is_log v.log) v.ok e

-- a `link` line that may stand
pub sound_link : (draft next : AnswersDraft) (v : Verdict) → IsSoundDraft draft → with_link draft v ≡ Some next → IsSoundDraft next
unfolding with_link
sound_link draft next v sound e = go (is_log v.log) v.ok refl refl e
  where
    before : IsSoundDraft (closed draft)
    before = sound_closed draft sound

    go : (short ok : Bool) → is_log v.log ≡ short → v.ok ≡ ok
        → (if not short then None else if ok then Some (record (closed draft) { last = Some (bare_link v) }) else Some (record (closed draft) { link = (closed draft).link ++ answer.Link (bare_link v) ∷ [] })) ≡ Some next → IsSoundDraft next
    go false ok short is e = absurd (cc)
    go true true short is e =
        let same : record (closed draft) { last = Some (bare_link v) } ≡ next = cc in
        subst IsSoundDraft same (record { compile = before.compile; link = before.link; last = both v.ok (is_sound_link (bare_link v)) is (bare_sound v short); validate = before.validate })
    go true false short is e =
        let same : record (closed draft) { link = (closed draft).link ++ answer.Link (bare_link v) ∷ [] } ≡ next = cc in
        subst IsSoundDraft same (record {
          compile = before.compile;
          link = all_push (λ (a : Answer). is_sound_link (link_in (Some a))) (closed draft).link (answer.Link (bare_link v)) before.link (bare_sound v short);
          last = before.last;
          validate = before.validate;
        })

-- the tests of a link that went well, one by one
link_parts : (ok short none attributes uniforms : Bool) → (ok && (short && (ok || none) && attributes && uniforms)) ≡ true
    → (ok ≡ true) × (short ≡ true) × (attributes ≡ true) × (uniforms ≡ true)
link_parts ok short none attributes uniforms e = grind (arith, common_steps)

-- and together
link_whole : (ok short none attributes uniforms : Bool) → ok ≡ true → short ≡ true → attributes ≡ true → uniforms ≡ true
    → (ok && (short && (ok || none) && attributes && uniforms)) ≡ true
link_whole ok short none attributes uniforms a b c d = grind (arith, common_steps)

-- an `attr` line that may stand
pub sound_attribute : (draft next : AnswersDraft) (a : Attribute) → IsSoundDraft draft → with_attribute draft a ≡ Some next → IsSoundDraft next
unfolding with_attribute
sound_attribute draft next a sound e = go draft.last sound.last e
  where
    go : (last : Option LinkAnswer) → IsSoundLast last → with_attribute_by draft a last ≡ Some next → IsSoundDraft next
    go None so e = absurd (cc)
    go (Some l) so e =
        let chosen = let_through ((length l.uniforms == 0) && may_follow l.attributes a) (record draft { last = Some (record l { attributes = l.attributes ++ a ∷ [] }) }) next e in
        let behind = each (length l.uniforms == 0) (may_follow l.attributes a) chosen.0 in
        let parts = link_parts l.ok (is_log l.log) ((length l.attributes == 0) && (length l.uniforms == 0)) (are_attributes [] l.attributes) (are_uniforms [] l.uniforms) so in
        subst IsSoundDraft chosen.1 (record {
          compile = sound.compile;
          link = sound.link;
          last = link_whole l.ok (is_log l.log) ((length (l.attributes ++ a ∷ []) == 0) && (length l.uniforms == 0)) (are_attributes [] (l.attributes ++ a ∷ [])) (are_uniforms [] l.uniforms) parts.0 parts.1
              (attributes_push [] l.attributes a parts.2 behind.1) parts.3;
          validate = sound.validate;
        })

-- a `uniform` line that may stand
pub sound_uniform : (draft next : AnswersDraft) (u : Uniform) → IsSoundDraft draft → with_uniform draft u ≡ Some next → IsSoundDraft next
unfolding with_uniform
sound_uniform draft next u sound e = go draft.last sound.last e
  where
    go : (last : Option LinkAnswer) → IsSoundLast last → with_uniform_by draft u last ≡ Some next → IsSoundDraft next
    go None so e = absurd (cc)
    go (Some l) so e =
        let chosen = let_through (may_follow_uniforms l.uniforms u) (record draft { last = Some (record l { uniforms = l.uniforms ++ u ∷ [] }) }) next e in
        let parts = link_parts l.ok (is_log l.log) ((length l.attributes == 0) && (length l.uniforms == 0)) (are_attributes [] l.attributes) (are_uniforms [] l.uniforms) so in
        subst IsSoundDraft chosen.1 (record {
          compile = sound.compile;
          link = sound.link;
          last = link_whole l.ok (is_log l.log) ((length l.attributes == 0) && (length (l.uniforms ++ u ∷ []) == 0)) (are_attributes [] l.attributes) (are_uniforms [] (l.uniforms ++ u ∷ [])) parts.0 parts.1 parts.2
              (uniforms_push [] l.uniforms u parts.3 chosen.0);
          validate = sound.validate;
        })

-- the answers that sound lines say
pub sound_answers : (draft : AnswersDraft) → IsSoundDraft draft → IsTrue (are_sound_answers (answers_in draft))
sound_answers draft sound =
    let last = sound_closed draft sound in
    both (list_all (λ (a : Answer). is_log (compile_in (Some a)).log) draft.compile && list_all (λ (a : Answer). is_sound_link (link_in (Some a))) (closed draft).link)
    (list_all (λ (a : Answer). is_log (validate_in (Some a)).log) draft.validate)
    (both (list_all (λ (a : Answer). is_log (compile_in (Some a)).log) draft.compile) (list_all (λ (a : Answer). is_sound_link (link_in (Some a))) (closed draft).link) sound.compile last.link)
    sound.validate
