-- The own laws of the commands on framebuffers, and of those that attach to them.
use Rattle.std.proofs.Common.{◌≡◌, ◌≢◌, inl, inr, ℕ, ℤ, pos, ◌==◌, Bool, true, false, not, ◌||◌, ◌&&◌, if◌then◌else◌, List, [], ◌∷◌, ◌++◌, Option, None, Some, is_some, refl, sym, ap, ◌∙◌, subst}
use Rattle.std.specs.FinMap as map
use Rattle.std.specs.FinSet as set
use Rattle.std.specs.Ordering.{nat_cmp}
use Rattle.gl_base.specs.declared.gl_enum.GlEnum.{GlEnum}
use Rattle.gl_base.specs.Names.{is_ordinary}
use Rattle.gl_plain.specs.declared.objects.Name as names
use Rattle.gl_plain.specs.declared.commands.ObjectCommand.TheVariants.{GenFramebuffers, BindFramebuffer, DeleteFramebuffers, FramebufferTexture2D, FramebufferRenderbuffer}
use Rattle.gl_plain.specs.declared.driver_calls.Answer.{Answer}
use Rattle.gl_plain.specs.declared.driver_calls.Answer.TheVariants.{Name}
use Rattle.gl_plain.specs.declared.driver_calls.DriverCall.{DriverCall}
use Rattle.gl_plain.specs.declared.driver_calls.DriverCall.TheVariants.{Object}
use Rattle.gl_plain.specs.declared.driver_calls.DriverEntry.{DriverEntry}
use Rattle.gl_plain.specs.declared.driver_calls.ObjectDriver.TheVariants as calls
use Rattle.gl_plain.specs.declared.errors.GlError.{GlError}
use Rattle.gl_plain.specs.declared.errors.GlError.TheVariants.{InvalidEnum, InvalidValue, InvalidOperation}
use Rattle.gl_plain.specs.declared.targets.Attached.{Attached}
use Rattle.gl_plain.specs.Words.{is_negative, natural}
use Rattle.gl_base.specs.declared.target_enums.TheConstants.{FRAMEBUFFER, RENDERBUFFER}
use Rattle.gl_plain.specs.subjects.Levels.{is_image_target}
use Rattle.gl_plain.specs.subjects.Textures.{TextureTables, TextureObjects, TexturesAgree}
use Rattle.gl_plain.specs.subjects.Names.{Names, gen_is_bad, number_named}
use Rattle.gl_plain.specs.subjects.Targets.{FramebufferTables, FramebuffersAgree, RenderbufferTables, RenderbuffersAgree, new_framebuffer, bind_effect, delete_by, delete_calls, is_attachable, is_made, has_face, framebuffer_texture_refusal, framebuffer_renderbuffer_refusal, texture_attached, renderbuffer_attached, is_attachment, attach_effect, framebuffer_texture_effect, framebuffer_renderbuffer_effect, unnamed}
use Rattle.gl_plain.specs.Oracle.{Oracle}
use Rattle.gl_plain.specs.State.{EsState, DriverState}
use Rattle.gl_plain.specs.Spaces.{Framebuffers}
use Rattle.gl_plain.specs.driver.Allowed.{IsAllowed}
use Rattle.gl_plain.specs.driver.Answers.{told}
use Rattle.gl_plain.specs.Journal.{IsLegal, state_after}
use Rattle.gl_plain.specs.Parts.{calls_in}
use Rattle.gl_plain.specs.Agreement.{TablesAgree}
use Rattle.gl_plain.specs.Outcome.{leaves}
use Rattle.gl_plain.specs.object.Step.{object_step}
use Rattle.gl_plain.specs.object.Calls.{bind_framebuffer_call}
use Rattle.gl_laws.proofs.Lists.{entry, no_entry, one_entry, front_of_one, not_nil}
use Rattle.gl_laws.proofs.OwnLaws.{StepLeft, OwnMayGoOn, OwnLeaves}
use Rattle.gl_laws.proofs.Refusals.{or_false, none_of, none_refused}
use Rattle.gl_laws.proofs.Tables.{with_framebuffers}
use Rattle.gl_laws.proofs.TargetsAgree.{agree_framebuffer_bound, agree_framebuffer_unbound, agree_framebuffer_deleted, agree_attached}
use Rattle.gl_laws.proofs.Binds.{IsBind, agree_gen, is_zero, some_is, bind_may, bind_leaves}

-- GenFramebuffers
module _ (s : EsState) (d : DriverState) (a : TablesAgree s d.tables) (id : ℕ) (payload : List ℕ) (fair : gen_is_bad s.framebuffers.names id ≡ false) where
  pub gen_framebuffers_may : OwnMayGoOn s d (GenFramebuffers id) payload
  gen_framebuffers_may o es next more l h = front_of_one (λ (gs : List DriverEntry) (x : DriverCall). IsAllowed (state_after d gs) x) (Object calls.GenFramebuffer) tt es next more h

  free : map.get s.framebuffers.names id ≡ None
  free = none_of (map.get s.framebuffers.names id) (or_false (not (is_ordinary id)) (is_some (map.get s.framebuffers.names id)) fair).1

  positive : id ≢ 0
  positive zero = let no : gen_is_bad s.framebuffers.names 0 ≡ false = subst (λ (k : ℕ). gen_is_bad s.framebuffers.names k ≡ false) zero fair in absurd (cc)

  gen_by : (o : Oracle) (answer : Answer) → IsLegal d (entry (Object calls.GenFramebuffer) answer ∷ []) → StepLeft d (object_step s (GenFramebuffers id) payload (told (entry (Object calls.GenFramebuffer) answer ∷ []) o)) o (entry (Object calls.GenFramebuffer) answer ∷ [])
  gen_by o (Name n) l = record { asked = refl; agrees = agree_gen Framebuffers s d.tables a id n free positive l.0.answered; contents = refl; records = refl }
  gen_by o answer l = absurd l.0.answered

  pub gen_framebuffers_leaves : OwnLeaves s d (GenFramebuffers id) payload
  gen_framebuffers_leaves o es l h = one_entry (λ (gs : List DriverEntry). IsLegal d gs → StepLeft d (object_step s (GenFramebuffers id) payload (told gs o)) o gs) (Object calls.GenFramebuffer) (gen_by o) es h l

-- BindFramebuffer

abbrev bind : ℕ → EsState → EsState
bind id s = record s { framebuffers = bind_effect new_framebuffer s.framebuffers id }

-- no name is refused for what it stands for
abbrev no_refusal : EsState → names.Name → Bool
no_refusal s x = false

framebuffer_bind : (id : ℕ) → IsBind Framebuffers bind_framebuffer_call (bind id) id no_refusal
framebuffer_bind id = record {
  asks_nothing = λ name answer o. refl;
  same_contents = λ d name answer. refl;
  no_records = λ d name answer. refl;
  new_is_fair = λ s n. refl;
  zero_allowed = λ s d a. inl refl;
  known_allowed = λ s d x a there fair. inr (some_is (map.get d.tables.framebuffers.names x.number) x (a.framebuffers.names.live id x there));
  known = λ s t x answer a there fair. with_framebuffers s t _ _ a (agree_framebuffer_bound s.framebuffers t.framebuffers t.given.framebuffers a.framebuffers id x there);
  none = λ s t answer a zero. with_framebuffers s t _ _ a
      (subst (λ (k : ℕ). FramebuffersAgree (bind_effect new_framebuffer s.framebuffers k) (bind_effect new_framebuffer t.framebuffers 0) t.given.framebuffers) (sym zero) (agree_framebuffer_unbound s.framebuffers t.framebuffers t.given.framebuffers a.framebuffers));
}

module _ (s : EsState) (d : DriverState) (a : TablesAgree s d.tables) (target : GlEnum) (id : ℕ) (payload : List ℕ) where
  pub bind_framebuffer_may : OwnMayGoOn s d (BindFramebuffer target id) payload
  bind_framebuffer_may o es next more l h = bind_may Framebuffers bind_framebuffer_call (bind id) id no_refusal (framebuffer_bind id) s d a (λ x there. refl) o es next more l h

  pub bind_framebuffer_leaves : OwnLeaves s d (BindFramebuffer target id) payload
  bind_framebuffer_leaves o es l h = bind_leaves Framebuffers bind_framebuffer_call (bind id) id no_refusal (framebuffer_bind id) s d a (λ x there. refl) o es l h

-- DeleteFramebuffers
module _ (s : EsState) (d : DriverState) (a : TablesAgree s d.tables) (id : ℕ) (payload : List ℕ) where
  abbrev delete_call : ℕ → DriverCall
  delete_call n = Object (calls.DeleteFramebuffer n)

  delete_may_by : (found : Option names.Name) → map.get s.framebuffers.names id ≡ found → (es : List DriverEntry) (next : DriverCall) (more : List DriverCall) → calls_in es ++ next ∷ more ≡ delete_calls delete_call found → IsAllowed (state_after d es) next
  delete_may_by None e es next more h = absurd (not_nil (calls_in es) next more h)
  delete_may_by (Some x) e es next more h = front_of_one (λ (gs : List DriverEntry) (y : DriverCall). IsAllowed (state_after d gs) y) (delete_call x.number)
      (some_is (map.get d.tables.framebuffers.names x.number) x (a.framebuffers.names.live id x e)) es next more h

  pub delete_framebuffers_may : OwnMayGoOn s d (DeleteFramebuffers id) payload
  delete_framebuffers_may o es next more l h = delete_may_by (map.get s.framebuffers.names id) refl es next more h

  -- what a deletion leaves, by what the table has of the name
  abbrev deleted : Option names.Name → EsState
  deleted found = record s { framebuffers = delete_by s.framebuffers id found }

  left_by : (found : Option names.Name) → map.get s.framebuffers.names id ≡ found → (o : Oracle) (es : List DriverEntry) → calls_in es ≡ delete_calls delete_call found → StepLeft d (leaves (deleted found) (told es o)) o es
  left_by None e o es h = no_entry (λ (gs : List DriverEntry). StepLeft d (leaves s (told gs o)) o gs) (record { asked = refl; agrees = a; contents = refl; records = refl }) es h
  left_by (Some x) e o es h = one_entry (λ (gs : List DriverEntry). StepLeft d (leaves (deleted (Some x)) (told gs o)) o gs) (delete_call x.number)
      (λ answer. record {
        asked = refl;
        agrees = with_framebuffers s d.tables _ _ a (agree_framebuffer_deleted s.framebuffers d.tables.framebuffers d.tables.given.framebuffers a.framebuffers id x e);
        contents = refl;
        records = refl;
      }) es h

  pub delete_framebuffers_leaves : OwnLeaves s d (DeleteFramebuffers id) payload
  delete_framebuffers_leaves o es l h = left_by (map.get s.framebuffers.names id) refl o es h

-- What is attached

-- not refused by one of three tests
none_of_three : (a b c : Bool) → (if a then Some InvalidEnum else if b then Some InvalidValue else if c then Some InvalidOperation else None) ≡ None → (a ≡ false) × (b ≡ false) × (c ≡ false)
none_of_three true b c h = absurd (cc)
none_of_three false true c h = absurd (cc)
none_of_three false false true h = absurd (cc)
none_of_three false false false h = (refl, refl, refl)

all_three : (a b c : Bool) → a ≡ false → b ≡ false → c ≡ false → (if a then Some InvalidEnum else if b then Some InvalidValue else if c then Some InvalidOperation else None) ≡ None
all_three a b c p q r = rw (p, q, r) refl

-- what is so of three tests, of which the last is one of two
fair_point : (p z face : Bool) → not (p && (z || face)) ≡ false → (p ≡ true) × ((z || face) ≡ true)
fair_point false z face h = absurd (cc)
fair_point true true face h = (refl, refl)
fair_point true false true h = (refl, refl)
fair_point true false false h = absurd (cc)

fair_object : (b z is : Bool) → (b || not (z || is)) ≡ false → (b ≡ false) × ((z || is) ≡ true)
fair_object true z is h = absurd (cc)
fair_object false true is h = (refl, refl)
fair_object false false true h = (refl, refl)
fair_object false false false h = absurd (cc)

abbrev IsTextureAt : TextureTables → GlEnum → ℕ → Type 0
IsTextureAt t face n = ((n == 0) || is_attachable t face (map.get t.names n)) ≡ true

module _ (w d : TextureTables) (f g : FramebufferTables) (bound : f.bound ≡ g.bound) (target point face : GlEnum) (id : ℕ) (level : ℤ) where
  -- by the three tests of each side
  texture_fair : (n : ℕ) → (((id == 0) || is_image_target face) ≡ true → ((n == 0) || is_image_target face) ≡ true) → (((id == 0) || is_attachable w face (map.get w.names id)) ≡ true → IsTextureAt d face n)
      → framebuffer_texture_refusal f w target point face id level ≡ None → framebuffer_texture_refusal g d FRAMEBUFFER point face n (pos 0) ≡ None
  texture_fair n faces objects allowed =
      let three = none_of_three _ _ _ allowed in
      let first = fair_point ((target.0 == FRAMEBUFFER.0) && is_attachment point) ((id == 0)) (is_image_target face) three.0 in
      let third = fair_object (f.bound == 0) (id == 0) (is_attachable w face (map.get w.names id)) three.2 in
      all_three _ _ _
      (first_test (is_attachment point) ((n == 0) || is_image_target face) (second_of (target.0 == FRAMEBUFFER.0) (is_attachment point) first.0) (faces first.1))
      (second_test (n == 0))
      (third_test (g.bound == 0) ((n == 0) || is_attachable d face (map.get d.names n)) (ap (λ (k : ℕ). k == 0) (sym bound) ∙ third.0) (objects third.1))
    where
      second_of : (p q : Bool) → (p && q) ≡ true → q ≡ true
      second_of true q h = h
      second_of false q h = absurd (cc)

      first_test : (p q : Bool) → p ≡ true → q ≡ true → not (p && q) ≡ false
      first_test p q e h = rw (e, h) refl

      second_test : (z : Bool) → not (z || (not (is_negative (pos 0)) && (natural (pos 0) == 0))) ≡ false
      second_test true = refl
      second_test false = refl

      third_test : (b q : Bool) → b ≡ false → q ≡ true → (b || not q) ≡ false
      third_test b q e h = rw (e, h) refl

or_right : (b c : Bool) → c ≡ true → (b || c) ≡ true
or_right true c h = refl
or_right false c h = h

-- a name in use is not 0
in_use : (t : Names) (id : ℕ) (x : names.Name) → map.get t 0 ≡ None → map.get t id ≡ Some x → (id == 0) ≡ true → ⊥
in_use t id x none there zero = let some : map.get t 0 ≡ Some x = ap (map.get t) (sym (is_zero id zero)) ∙ there in cc

-- FramebufferTexture2D
module _ (w d : TextureTables) (given : set.FinSet nat_cmp) (a : TexturesAgree w d given) (face : GlEnum) (id : ℕ) where
  texture_faces : (found : Option names.Name) → map.get w.names id ≡ found → (zero : Bool) → (id == 0) ≡ zero → (zero || is_image_target face) ≡ true → ((number_named found == 0) || is_image_target face) ≡ true
  texture_faces None e zero z h = refl
  texture_faces (Some x) e true z h = absurd (in_use w.names id x a.names.no_zero_id e z)
  texture_faces (Some x) e false z h = or_right (x.number == 0) (is_image_target face) h

  texture_objects : (found : Option names.Name) → map.get w.names id ≡ found → (zero : Bool) → (id == 0) ≡ zero → (zero || is_attachable w face found) ≡ true → IsTextureAt d face (number_named found)
  texture_objects None e zero z h = refl
  texture_objects (Some x) e true z h = absurd (in_use w.names id x a.names.no_zero_id e z)
  texture_objects (Some x) e false z h = or_right (x.number == 0) (is_attachable d face (map.get d.names x.number))
      (ap (is_attachable d face) (a.names.live id x e) ∙ ap (λ (t : TextureObjects). x.is_object && has_face (map.get t.by_number x.number) face) (sym a.objects) ∙ h)

  -- what is attached is the same but for the name
  same_texture : (found : Option names.Name) → map.get w.names id ≡ found → unnamed (texture_attached id face found) ≡ texture_attached 0 face (map.get d.names (number_named found))
  same_texture None e = ap (texture_attached 0 face) (sym a.names.no_zero)
  same_texture (Some x) e = ap (texture_attached 0 face) (sym (a.names.live id x e))

module _ (s : EsState) (d : DriverState) (a : TablesAgree s d.tables) (target attachment textarget : GlEnum) (texture : ℕ) (level : ℤ) (payload : List ℕ) where
  abbrev texture_number : ℕ
  texture_number = number_named (map.get s.textures.names texture)

  pub framebuffer_texture_may : framebuffer_texture_refusal s.framebuffers s.textures target attachment textarget texture level ≡ None → OwnMayGoOn s d (FramebufferTexture2D target attachment textarget texture level) payload
  framebuffer_texture_may allowed o es next more l h = front_of_one (λ (gs : List DriverEntry) (x : DriverCall). IsAllowed (state_after d gs) x) (Object (calls.FramebufferTexture attachment textarget texture_number))
      (texture_fair s.textures d.tables.textures s.framebuffers d.tables.framebuffers a.framebuffers.bound target attachment textarget texture level texture_number
      (texture_faces s.textures d.tables.textures d.tables.given.textures a.textures textarget texture (map.get s.textures.names texture) refl (texture == 0) refl)
      (texture_objects s.textures d.tables.textures d.tables.given.textures a.textures textarget texture (map.get s.textures.names texture) refl (texture == 0) refl) allowed) es next more h

  pub framebuffer_texture_leaves : OwnLeaves s d (FramebufferTexture2D target attachment textarget texture level) payload
  framebuffer_texture_leaves o es l h = one_entry (λ (gs : List DriverEntry). StepLeft d (object_step s (FramebufferTexture2D target attachment textarget texture level) payload (told gs o)) o gs) (Object (calls.FramebufferTexture attachment textarget texture_number))
      (λ answer. record {
        asked = refl;
        agrees = with_framebuffers s d.tables _ _ a (agree_attached s.framebuffers d.tables.framebuffers d.tables.given.framebuffers a.framebuffers attachment
            (texture_attached texture textarget (map.get s.textures.names texture)) (texture_attached 0 textarget (map.get d.tables.textures.names texture_number))
            (same_texture s.textures d.tables.textures d.tables.given.textures a.textures textarget texture (map.get s.textures.names texture) refl));
        contents = refl;
        records = refl;
      }) es h

-- FramebufferRenderbuffer
module _ (w d : RenderbufferTables) (given : set.FinSet nat_cmp) (a : RenderbuffersAgree w d given) (id : ℕ) where
  renderbuffer_objects : (found : Option names.Name) → map.get w.names id ≡ found → (zero : Bool) → (id == 0) ≡ zero → (zero || is_made found) ≡ true → ((number_named found == 0) || is_made (map.get d.names (number_named found))) ≡ true
  renderbuffer_objects None e zero z h = refl
  renderbuffer_objects (Some x) e true z h = absurd (in_use w.names id x a.names.no_zero_id e z)
  renderbuffer_objects (Some x) e false z h = or_right (x.number == 0) (is_made (map.get d.names x.number)) (ap is_made (a.names.live id x e) ∙ h)

  -- what is attached is the same but for the name
  same_renderbuffer : (found : Option names.Name) → map.get w.names id ≡ found → unnamed (renderbuffer_attached id found) ≡ renderbuffer_attached 0 (map.get d.names (number_named found))
  same_renderbuffer None e = ap (renderbuffer_attached 0) (sym a.names.no_zero)
  same_renderbuffer (Some x) e = ap (renderbuffer_attached 0) (sym (a.names.live id x e))

  -- by the tests of each side
  renderbuffer_fair : (f g : FramebufferTables) → f.bound ≡ g.bound → (target point kind : GlEnum) → framebuffer_renderbuffer_refusal f w target point kind id ≡ None
      → framebuffer_renderbuffer_refusal g d FRAMEBUFFER point RENDERBUFFER (number_named (map.get w.names id)) ≡ None
  renderbuffer_fair f g bound target point kind allowed =
      let both = none_refused _ _ _ _ allowed in
      let third = fair_object (f.bound == 0) (id == 0) (is_made (map.get w.names id)) both.1 in
      fair_again (is_attachment point) (g.bound == 0) ((number_named (map.get w.names id) == 0) || is_made (map.get d.names (number_named (map.get w.names id))))
      (middle_of (target.0 == FRAMEBUFFER.0) (is_attachment point) (kind.0 == RENDERBUFFER.0) both.0) (ap (λ (k : ℕ). k == 0) (sym bound) ∙ third.0)
      (renderbuffer_objects (map.get w.names id) refl (id == 0) refl third.1)
    where
      middle_of : (p q r : Bool) → not (p && q && r) ≡ false → q ≡ true
      middle_of true true r h = refl
      middle_of true false r h = absurd (cc)
      middle_of false q r h = absurd (cc)

      fair_again : (p b q : Bool) → p ≡ true → b ≡ false → q ≡ true → (if not (true && p && true) then Some InvalidEnum else if b || not q then Some InvalidOperation else None) ≡ None
      fair_again p b q e f h = rw (e, f, h) refl

module _ (s : EsState) (d : DriverState) (a : TablesAgree s d.tables) (target attachment kind : GlEnum) (id : ℕ) (payload : List ℕ) where
  abbrev renderbuffer_number : ℕ
  renderbuffer_number = number_named (map.get s.renderbuffers.names id)

  pub framebuffer_renderbuffer_may : framebuffer_renderbuffer_refusal s.framebuffers s.renderbuffers target attachment kind id ≡ None → OwnMayGoOn s d (FramebufferRenderbuffer target attachment kind id) payload
  framebuffer_renderbuffer_may allowed o es next more l h = front_of_one (λ (gs : List DriverEntry) (x : DriverCall). IsAllowed (state_after d gs) x) (Object (calls.FramebufferRenderbuffer attachment renderbuffer_number))
      (renderbuffer_fair s.renderbuffers d.tables.renderbuffers d.tables.given.renderbuffers a.renderbuffers id s.framebuffers d.tables.framebuffers a.framebuffers.bound target attachment kind allowed) es next more h

  pub framebuffer_renderbuffer_leaves : OwnLeaves s d (FramebufferRenderbuffer target attachment kind id) payload
  framebuffer_renderbuffer_leaves o es l h = one_entry (λ (gs : List DriverEntry). StepLeft d (object_step s (FramebufferRenderbuffer target attachment kind id) payload (told gs o)) o gs) (Object (calls.FramebufferRenderbuffer attachment renderbuffer_number))
      (λ answer. record {
        asked = refl;
        agrees = with_framebuffers s d.tables _ _ a (agree_attached s.framebuffers d.tables.framebuffers d.tables.given.framebuffers a.framebuffers attachment
            (renderbuffer_attached id (map.get s.renderbuffers.names id)) (renderbuffer_attached 0 (map.get d.tables.renderbuffers.names renderbuffer_number))
            (same_renderbuffer s.renderbuffers d.tables.renderbuffers d.tables.given.renderbuffers a.renderbuffers id (map.get s.renderbuffers.names id) refl));
        contents = refl;
        records = refl;
      }) es h
