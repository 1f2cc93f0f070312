-- The own laws of the commands on renderbuffers.
use Rattle.std.proofs.Common.{◌≡◌, ◌≢◌, inl, inr, ℕ, Bool, true, false, not, List, [], ◌∷◌, ◌++◌, Option, None, Some, is_some, refl, sym, ap, ◌∙◌, subst}
use Rattle.std.specs.FinMap as map
use Rattle.gl_base.specs.declared.gl_enum.GlEnum.{GlEnum}
use Rattle.gl_base.specs.Names.{is_ordinary}
use Rattle.gl_plain.specs.declared.objects.Name as names
use Rattle.gl_plain.specs.declared.commands.ObjectCommand.TheVariants.{GenRenderbuffers, BindRenderbuffer, DeleteRenderbuffers}
use Rattle.gl_plain.specs.declared.driver_calls.Answer.{Answer}
use Rattle.gl_plain.specs.declared.driver_calls.Answer.TheVariants.{Name}
use Rattle.gl_plain.specs.declared.driver_calls.DriverCall.{DriverCall}
use Rattle.gl_plain.specs.declared.driver_calls.DriverCall.TheVariants.{Object}
use Rattle.gl_plain.specs.declared.driver_calls.DriverEntry.{DriverEntry}
use Rattle.gl_plain.specs.declared.driver_calls.ObjectDriver.TheVariants as calls
use Rattle.gl_plain.specs.subjects.Names.{gen_is_bad}
use Rattle.gl_plain.specs.subjects.Targets.{RenderbuffersAgree, FramebuffersAgree, new_renderbuffer, bind_effect, delete_by, delete_calls, delete_effect, without_object, detach, detach_deleted}
use Rattle.gl_plain.specs.Oracle.{Oracle}
use Rattle.gl_plain.specs.State.{EsState, DriverState}
use Rattle.gl_plain.specs.Spaces.{Renderbuffers}
use Rattle.gl_plain.specs.driver.Allowed.{IsAllowed}
use Rattle.gl_plain.specs.driver.Answers.{told}
use Rattle.gl_plain.specs.Journal.{IsLegal, state_after}
use Rattle.gl_plain.specs.Parts.{calls_in}
use Rattle.gl_plain.specs.Agreement.{TablesAgree}
use Rattle.gl_plain.specs.Outcome.{leaves}
use Rattle.gl_plain.specs.object.Step.{object_step}
use Rattle.gl_plain.specs.object.Calls.{bind_renderbuffer_call}
use Rattle.gl_laws.proofs.Lists.{entry, no_entry, one_entry, front_of_one, not_nil}
use Rattle.gl_laws.proofs.OwnLaws.{StepLeft, OwnMayGoOn, OwnLeaves}
use Rattle.gl_laws.proofs.Refusals.{or_false, none_of}
use Rattle.gl_laws.proofs.Tables.{with_renderbuffers, with_framebuffers}
use Rattle.gl_laws.proofs.TargetsAgree.{agree_renderbuffer_bound, agree_renderbuffer_unbound, agree_renderbuffer_deleted, agree_detached}
use Rattle.gl_laws.proofs.Binds.{IsBind, agree_gen, some_is, bind_may, bind_leaves}

-- GenRenderbuffers
module _ (s : EsState) (d : DriverState) (a : TablesAgree s d.tables) (id : ℕ) (payload : List ℕ) (fair : gen_is_bad s.renderbuffers.names id ≡ false) where
  pub gen_renderbuffers_may : OwnMayGoOn s d (GenRenderbuffers id) payload
  gen_renderbuffers_may o es next more l h = front_of_one (λ (gs : List DriverEntry) (x : DriverCall). IsAllowed (state_after d gs) x) (Object calls.GenRenderbuffer) tt es next more h

  free : map.get s.renderbuffers.names id ≡ None
  free = none_of (map.get s.renderbuffers.names id) (or_false (not (is_ordinary id)) (is_some (map.get s.renderbuffers.names id)) fair).1

  positive : id ≢ 0
  positive zero = let no : gen_is_bad s.renderbuffers.names 0 ≡ false = subst (λ (k : ℕ). gen_is_bad s.renderbuffers.names k ≡ false) zero fair in absurd (cc)

  gen_by : (o : Oracle) (answer : Answer) → IsLegal d (entry (Object calls.GenRenderbuffer) answer ∷ []) → StepLeft d (object_step s (GenRenderbuffers id) payload (told (entry (Object calls.GenRenderbuffer) answer ∷ []) o)) o (entry (Object calls.GenRenderbuffer) answer ∷ [])
  gen_by o (Name n) l = record { asked = refl; agrees = agree_gen Renderbuffers s d.tables a id n free positive l.0.answered; contents = refl; records = refl }
  gen_by o answer l = absurd l.0.answered

  pub gen_renderbuffers_leaves : OwnLeaves s d (GenRenderbuffers id) payload
  gen_renderbuffers_leaves o es l h = one_entry (λ (gs : List DriverEntry). IsLegal d gs → StepLeft d (object_step s (GenRenderbuffers id) payload (told gs o)) o gs) (Object calls.GenRenderbuffer) (gen_by o) es h l

-- BindRenderbuffer

abbrev bind : ℕ → EsState → EsState
bind id s = record s { renderbuffers = bind_effect new_renderbuffer s.renderbuffers id }

-- no name is refused for what it stands for
abbrev no_refusal : EsState → names.Name → Bool
no_refusal s x = false

renderbuffer_bind : (id : ℕ) → IsBind Renderbuffers bind_renderbuffer_call (bind id) id no_refusal
renderbuffer_bind id = record {
  asks_nothing = λ name answer o. refl;
  same_contents = λ d name answer. refl;
  no_records = λ d name answer. refl;
  new_is_fair = λ s n. refl;
  zero_allowed = λ s d a. inl refl;
  known_allowed = λ s d x a there fair. inr (some_is (map.get d.tables.renderbuffers.names x.number) x (a.renderbuffers.names.live id x there));
  known = λ s t x answer a there fair. with_renderbuffers s t _ _ a (agree_renderbuffer_bound s.renderbuffers t.renderbuffers t.given.renderbuffers a.renderbuffers id x there);
  none = λ s t answer a zero. with_renderbuffers s t _ _ a
      (subst (λ (k : ℕ). RenderbuffersAgree (bind_effect new_renderbuffer s.renderbuffers k) (bind_effect new_renderbuffer t.renderbuffers 0) t.given.renderbuffers) (sym zero) (agree_renderbuffer_unbound s.renderbuffers t.renderbuffers t.given.renderbuffers a.renderbuffers));
}

module _ (s : EsState) (d : DriverState) (a : TablesAgree s d.tables) (target : GlEnum) (id : ℕ) (payload : List ℕ) where
  pub bind_renderbuffer_may : OwnMayGoOn s d (BindRenderbuffer target id) payload
  bind_renderbuffer_may o es next more l h = bind_may Renderbuffers bind_renderbuffer_call (bind id) id no_refusal (renderbuffer_bind id) s d a (λ x there. refl) o es next more l h

  pub bind_renderbuffer_leaves : OwnLeaves s d (BindRenderbuffer target id) payload
  bind_renderbuffer_leaves o es l h = bind_leaves Renderbuffers bind_renderbuffer_call (bind id) id no_refusal (renderbuffer_bind id) s d a (λ x there. refl) o es l h

-- DeleteRenderbuffers
module _ (s : EsState) (d : DriverState) (a : TablesAgree s d.tables) (id : ℕ) (payload : List ℕ) where
  abbrev delete_call : ℕ → DriverCall
  delete_call n = Object (calls.DeleteRenderbuffer n)

  delete_may_by : (found : Option names.Name) → map.get s.renderbuffers.names id ≡ found → (es : List DriverEntry) (next : DriverCall) (more : List DriverCall) → calls_in es ++ next ∷ more ≡ delete_calls delete_call found → IsAllowed (state_after d es) next
  delete_may_by None e es next more h = absurd (not_nil (calls_in es) next more h)
  delete_may_by (Some x) e es next more h = front_of_one (λ (gs : List DriverEntry) (y : DriverCall). IsAllowed (state_after d gs) y) (delete_call x.number)
      (some_is (map.get d.tables.renderbuffers.names x.number) x (a.renderbuffers.names.live id x e)) es next more h

  pub delete_renderbuffers_may : OwnMayGoOn s d (DeleteRenderbuffers id) payload
  delete_renderbuffers_may o es next more l h = delete_may_by (map.get s.renderbuffers.names id) refl es next more h

  -- what a deletion leaves, by what the table has of the name
  abbrev deleted : Option names.Name → EsState
  deleted found = record s { renderbuffers = delete_by s.renderbuffers id found; framebuffers = detach_deleted s.framebuffers false found }

  left_by : (found : Option names.Name) → map.get s.renderbuffers.names id ≡ found → (o : Oracle) (es : List DriverEntry) → calls_in es ≡ delete_calls delete_call found → StepLeft d (leaves (deleted found) (told es o)) o es
  left_by None e o es h = no_entry (λ (gs : List DriverEntry). StepLeft d (leaves s (told gs o)) o gs) (record { asked = refl; agrees = a; contents = refl; records = refl }) es h
  left_by (Some x) e o es h = one_entry (λ (gs : List DriverEntry). StepLeft d (leaves (deleted (Some x)) (told gs o)) o gs) (delete_call x.number)
      (λ answer. record {
        asked = refl;
        agrees = with_framebuffers (record s { renderbuffers = without_object s.renderbuffers id x.number }) (record d.tables { renderbuffers = delete_effect d.tables.renderbuffers x.number }) _ _
            (with_renderbuffers s d.tables _ _ a (agree_renderbuffer_deleted s.renderbuffers d.tables.renderbuffers d.tables.given.renderbuffers a.renderbuffers id x e))
            (subst (λ (found : Option names.Name). FramebuffersAgree (detach s.framebuffers false x.number) (detach_deleted d.tables.framebuffers false found) d.tables.given.framebuffers) (sym (a.renderbuffers.names.live id x e))
            (agree_detached s.framebuffers d.tables.framebuffers d.tables.given.framebuffers a.framebuffers false x.number));
        contents = refl;
        records = refl;
      }) es h

  pub delete_renderbuffers_leaves : OwnLeaves s d (DeleteRenderbuffers id) payload
  delete_renderbuffers_leaves o es l h = left_by (map.get s.renderbuffers.names id) refl o es h
