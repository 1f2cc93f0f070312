-- The own laws of the commands that name, bind and delete textures.
use Rattle.std.proofs.Common.{◌≡◌, ◌≢◌, inl, inr, ℕ, Bool, true, false, not, List, [], ◌∷◌, ◌++◌, Option, None, Some, is_some, refl, sym, ap, ◌∙◌, subst}
use Rattle.std.specs.FinMap as map
use Rattle.gl_base.specs.declared.gl_enum.GlEnum.{GlEnum}
use Rattle.gl_base.specs.Names.{is_ordinary}
use Rattle.gl_plain.specs.declared.objects.Name as names
use Rattle.gl_plain.specs.declared.commands.ObjectCommand.TheVariants.{GenTextures, BindTexture, DeleteTextures}
use Rattle.gl_plain.specs.declared.driver_calls.Answer.{Answer}
use Rattle.gl_plain.specs.declared.driver_calls.Answer.TheVariants.{Name}
use Rattle.gl_plain.specs.declared.driver_calls.DriverCall.{DriverCall}
use Rattle.gl_plain.specs.declared.driver_calls.DriverCall.TheVariants.{Object}
use Rattle.gl_plain.specs.declared.driver_calls.DriverEntry.{DriverEntry}
use Rattle.gl_plain.specs.declared.driver_calls.ObjectDriver.TheVariants as calls
use Rattle.gl_plain.specs.subjects.Names.{gen_is_bad, is_bind_over_limit}
use Rattle.gl_plain.specs.subjects.Levels.{is_texture_target, is_cube_target}
use Rattle.gl_plain.specs.subjects.Textures.{is_of_other_target, bind_texture_refusal, bind_texture_effect, delete_textures_by, delete_textures_calls, delete_textures_effect, without_texture, TexturesAgree}
use Rattle.gl_plain.specs.subjects.Targets.{FramebuffersAgree, detach, detach_deleted}
use Rattle.gl_plain.specs.Oracle.{Oracle}
use Rattle.gl_plain.specs.State.{EsState, DriverState}
use Rattle.gl_plain.specs.Spaces.{Textures}
use Rattle.gl_plain.specs.driver.Allowed.{IsAllowed}
use Rattle.gl_plain.specs.driver.Answers.{told}
use Rattle.gl_plain.specs.Journal.{IsLegal, state_after}
use Rattle.gl_plain.specs.Parts.{calls_in}
use Rattle.gl_plain.specs.Agreement.{TablesAgree}
use Rattle.gl_plain.specs.Outcome.{leaves}
use Rattle.gl_plain.specs.object.Step.{object_step}
use Rattle.gl_plain.specs.object.Calls.{bind_texture_call}
use Rattle.gl_laws.proofs.Lists.{entry, no_entry, one_entry, front_of_one, not_nil}
use Rattle.gl_laws.proofs.OwnLaws.{StepLeft, OwnMayGoOn, OwnLeaves}
use Rattle.gl_laws.proofs.Refusals.{or_false, not_false, none_of, not_refused_by}
use Rattle.gl_laws.proofs.Tables.{with_textures, with_framebuffers}
use Rattle.gl_laws.proofs.TargetsAgree.{agree_detached}
use Rattle.gl_laws.proofs.TexturesAgree.{same_target, agree_texture_bound, agree_texture_unbound, agree_texture_deleted}
use Rattle.gl_laws.proofs.Binds.{IsBind, agree_gen, some_is, bind_may, bind_leaves}

-- GenTextures
module _ (s : EsState) (d : DriverState) (a : TablesAgree s d.tables) (id : ℕ) (payload : List ℕ) (fair : gen_is_bad s.textures.names id ≡ false) where
  pub gen_textures_may : OwnMayGoOn s d (GenTextures id) payload
  gen_textures_may o es next more l h = front_of_one (λ (gs : List DriverEntry) (x : DriverCall). IsAllowed (state_after d gs) x) (Object calls.GenTexture) tt es next more h

  free : map.get s.textures.names id ≡ None
  free = none_of (map.get s.textures.names id) (or_false (not (is_ordinary id)) (is_some (map.get s.textures.names id)) fair).1

  positive : id ≢ 0
  positive zero = let no : gen_is_bad s.textures.names 0 ≡ false = subst (λ (k : ℕ). gen_is_bad s.textures.names k ≡ false) zero fair in absurd (cc)

  gen_by : (o : Oracle) (answer : Answer) → IsLegal d (entry (Object calls.GenTexture) answer ∷ []) → StepLeft d (object_step s (GenTextures id) payload (told (entry (Object calls.GenTexture) answer ∷ []) o)) o (entry (Object calls.GenTexture) answer ∷ [])
  gen_by o (Name n) l = record { asked = refl; agrees = agree_gen Textures s d.tables a id n free positive l.0.answered; contents = refl; records = refl }
  gen_by o answer l = absurd l.0.answered

  pub gen_textures_leaves : OwnLeaves s d (GenTextures id) payload
  gen_textures_leaves o es l h = one_entry (λ (gs : List DriverEntry). IsLegal d gs → StepLeft d (object_step s (GenTextures id) payload (told gs o)) o gs) (Object calls.GenTexture) (gen_by o) es h l

-- BindTexture

abbrev bind : GlEnum → ℕ → EsState → EsState
bind target id s = record s { textures = bind_texture_effect s.textures target id }

-- a name is refused whose texture is of the other target
abbrev is_refused : GlEnum → EsState → names.Name → Bool
is_refused target s x = is_of_other_target s.textures (is_cube_target target) (Some x)

texture_bind : (target : GlEnum) (id : ℕ) → is_texture_target target ≡ true → IsBind Textures (bind_texture_call target) (bind target id) id (is_refused target)
texture_bind target id is = record {
  asks_nothing = λ name answer o. refl;
  same_contents = λ d name answer. refl;
  no_records = λ d name answer. refl;
  new_is_fair = λ s n. refl;
  zero_allowed = λ s d a. record { target_is = is; name_is = inl refl; same_target = ap (is_of_other_target d.tables.textures (is_cube_target target)) a.textures.names.no_zero };
  known_allowed = λ s d x a there fair. record {
    target_is = is;
    name_is = inr (some_is (map.get d.tables.textures.names x.number) x (a.textures.names.live id x there));
    same_target = same_target s.textures d.tables.textures d.tables.given.textures a.textures (is_cube_target target) id x there ∙ fair;
  };
  known = λ s t x answer a there fair. with_textures s t _ _ a (agree_texture_bound s.textures t.textures t.given.textures a.textures target id x there fair);
  none = λ s t answer a zero. with_textures s t _ _ a
      (subst (λ (k : ℕ). TexturesAgree (bind_texture_effect s.textures target k) (bind_texture_effect t.textures target 0) t.given.textures) (sym zero) (agree_texture_unbound s.textures t.textures t.given.textures a.textures target));
}

module _ (s : EsState) (d : DriverState) (a : TablesAgree s d.tables) (target : GlEnum) (id : ℕ) (payload : List ℕ) (allowed : bind_texture_refusal s.textures target id ≡ None) where
  texture_bind_here : IsBind Textures (bind_texture_call target) (bind target id) id (is_refused target)
  texture_bind_here = texture_bind target id (not_false (is_texture_target target) (not_refused_by (not (is_texture_target target)) _ _ allowed).0)

  same_first_target : (x : names.Name) → map.get s.textures.names id ≡ Some x → is_refused target s x ≡ false
  same_first_target x there =
      let first : (not (is_texture_target target) ≡ false) × _ = not_refused_by (not (is_texture_target target)) _ _ allowed in
      let second : (is_bind_over_limit s.textures.names id ≡ false) × _ = not_refused_by (is_bind_over_limit s.textures.names id) _ _ first.1 in
      ap (is_of_other_target s.textures (is_cube_target target)) (sym there) ∙ (not_refused_by (is_of_other_target s.textures (is_cube_target target) (map.get s.textures.names id)) _ _ second.1).0

  pub bind_texture_may : OwnMayGoOn s d (BindTexture target id) payload
  bind_texture_may o es next more l h = bind_may Textures (bind_texture_call target) (bind target id) id (is_refused target) texture_bind_here s d a same_first_target o es next more l h

  pub bind_texture_leaves : OwnLeaves s d (BindTexture target id) payload
  bind_texture_leaves o es l h = bind_leaves Textures (bind_texture_call target) (bind target id) id (is_refused target) texture_bind_here s d a same_first_target o es l h

-- DeleteTextures
module _ (s : EsState) (d : DriverState) (a : TablesAgree s d.tables) (id : ℕ) (payload : List ℕ) where
  delete_may_by : (found : Option names.Name) → map.get s.textures.names id ≡ found → (es : List DriverEntry) (next : DriverCall) (more : List DriverCall) → calls_in es ++ next ∷ more ≡ delete_textures_calls found → IsAllowed (state_after d es) next
  delete_may_by None e es next more h = absurd (not_nil (calls_in es) next more h)
  delete_may_by (Some x) e es next more h = front_of_one (λ (gs : List DriverEntry) (y : DriverCall). IsAllowed (state_after d gs) y) (Object (calls.DeleteTexture x.number))
      (some_is (map.get d.tables.textures.names x.number) x (a.textures.names.live id x e)) es next more h

  pub delete_textures_may : OwnMayGoOn s d (DeleteTextures id) payload
  delete_textures_may o es next more l h = delete_may_by (map.get s.textures.names id) refl es next more h

  delete_by : (found : Option names.Name) → map.get s.textures.names id ≡ found → (o : Oracle) (es : List DriverEntry) → calls_in es ≡ delete_textures_calls found → StepLeft d (leaves (record s { textures = delete_textures_by s.textures id found; framebuffers = detach_deleted s.framebuffers true found }) (told es o)) o es
  delete_by None e o es h = no_entry (λ (gs : List DriverEntry). StepLeft d (leaves s (told gs o)) o gs) (record { asked = refl; agrees = a; contents = refl; records = refl }) es h
  delete_by (Some x) e o es h = one_entry (λ (gs : List DriverEntry). StepLeft d (leaves (record s { textures = delete_textures_by s.textures id (Some x); framebuffers = detach_deleted s.framebuffers true (Some x) }) (told gs o)) o gs) (Object (calls.DeleteTexture x.number))
      (λ answer. record {
        asked = refl;
        agrees = with_framebuffers (record s { textures = without_texture s.textures id x.number }) (record d.tables { textures = delete_textures_effect d.tables.textures x.number }) _ _
            (with_textures s d.tables _ _ a (agree_texture_deleted s.textures d.tables.textures d.tables.given.textures a.textures id x e))
            (subst (λ (found : Option names.Name). FramebuffersAgree (detach s.framebuffers true x.number) (detach_deleted d.tables.framebuffers true found) d.tables.given.framebuffers) (sym (a.textures.names.live id x e))
            (agree_detached s.framebuffers d.tables.framebuffers d.tables.given.framebuffers a.framebuffers true x.number));
        contents = refl;
        records = refl;
      }) es h

  pub delete_textures_leaves : OwnLeaves s d (DeleteTextures id) payload
  delete_textures_leaves o es l h = delete_by (map.get s.textures.names id) refl o es h
