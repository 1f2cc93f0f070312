-- The own laws of RenderbufferStorage (OpenGL ES 2.0.25, section 4.4.3): one driver call, which nothing stands before.
use Rattle.std.proofs.Common.{◌≡◌, ◌≢◌, ◌⊎◌, inl, inr, ℕ, ℤ, ◌==◌, ◌&&◌, ◌||◌, Bool, true, false, not, if◌then◌else◌, List, [], ◌∷◌, Option, None, Some, IsSome, refl, sym, ap, ◌∙◌, subst, arith}
use Rattle.std.proofs.lemmas.Bool.{and_parts, eq-eqb, not-false}
use Rattle.std.proofs.lemmas.Bool.Decides.{nat_tests}
use Rattle.std.specs.FinMap as table
use Rattle.gl_base.proofs.Found.{get-insert_here, get-insert_other, found-insert}
use Rattle.gl_base.specs.declared.gl_enum.GlEnum.{GlEnum}
use Rattle.gl_base.specs.declared.target_enums.TheConstants.{RENDERBUFFER}
use Rattle.gl_plain.specs.declared.errors.GlError.{GlError}
use Rattle.gl_plain.specs.declared.errors.GlError.TheVariants.{InvalidEnum, InvalidValue, InvalidOperation}
use Rattle.gl_plain.specs.declared.commands.ImageCommand.TheVariants.{RenderbufferStorage}
use Rattle.gl_plain.specs.declared.driver_calls.Answer.{Answer}
use Rattle.gl_plain.specs.declared.driver_calls.Answer.TheVariants.{Done, Name, Oom, Compile, Link, Validate, Pixels}
use Rattle.gl_plain.specs.declared.driver_calls.DriverCall.{DriverCall}
use Rattle.gl_plain.specs.declared.driver_calls.DriverCall.TheVariants.{Image}
use Rattle.gl_plain.specs.declared.driver_calls.DriverEntry.{DriverEntry}
use Rattle.gl_plain.specs.declared.driver_calls.ImageDriver.TheVariants as calls
use Rattle.gl_plain.specs.declared.targets.Renderbuffer.{Renderbuffer}
use Rattle.gl_plain.specs.declared.textures.LevelView.{LevelView}
use Rattle.gl_plain.specs.subjects.Textures.{IsOwned}
use Rattle.gl_plain.specs.subjects.Targets.{AreObjectsSound, RenderbufferTables, RenderbuffersAgree, is_bad_side, is_storage, renderbuffer_at, renderbuffer_image, renderbuffer_storage_effect, renderbuffer_storage_refusal, storage_view}
use Rattle.gl_plain.specs.subjects.Images.{Undefined, Zero, Contents, Covers, Marks, IsMarked, read_contents, with_mark, with_storage}
use Rattle.gl_plain.specs.Oracle.{Oracle}
use Rattle.gl_plain.specs.State.{EsState, DriverState}
use Rattle.gl_plain.specs.driver.Allowed.{IsAllowed}
use Rattle.gl_plain.specs.driver.Answers.{told}
use Rattle.gl_plain.specs.Journal.{IsLegal, state_after}
use Rattle.gl_plain.specs.Agreement.{TablesAgree, ImagesAgree}
use Rattle.gl_laws.proofs.Lists.{entry, one_entry, front_of_one}
use Rattle.gl_laws.proofs.Tables.{with_errors, with_renderbuffers}
use Rattle.gl_laws.proofs.Pixels.{read_storage}
use Rattle.gl_laws.proofs.Zeroing.{marks_stored}
use Rattle.gl_laws.proofs.Images.{ImageLeaves, ImageLeft, ImageMayGoOn, none_of_three}

not_same : (a b : ℕ) → (a == b) ≡ false → b ≢ a
not_same a b e same = grind (arith, nat_tests)

module _ (t : RenderbufferTables) (v : LevelView) where
  -- the renderbuffer that is bound has the image, and each other one what it had
  stored_here : renderbuffer_at (renderbuffer_storage_effect t v).objects t.bound ≡ Some v
  stored_here = ap renderbuffer_image (get-insert_here t.objects t.bound (record { image = Some v }))

  stored_elsewhere : (n : ℕ) → (t.bound == n) ≡ false → renderbuffer_at (renderbuffer_storage_effect t v).objects n ≡ renderbuffer_at t.objects n
  stored_elsewhere n e = ap renderbuffer_image (get-insert_other t.objects t.bound (record { image = Some v }) n (not_same t.bound n e))

  some_inserted : (n : ℕ) → IsSome (table.get t.objects n) → IsSome (table.get (renderbuffer_storage_effect t v).objects n)
  some_inserted n there = (elim (t.bound == n) as (λ (b : Bool). (t.bound == n) ≡ b → IsSome (table.get (renderbuffer_storage_effect t v).objects n)) [
    | true ↦ λ e. let same : n ≡ t.bound = grind (arith, nat_tests) in subst (λ (o : Option Renderbuffer). IsSome o) (sym (ap (table.get (renderbuffer_storage_effect t v).objects) same ∙ get-insert_here t.objects t.bound (record { image = Some v }))) refl
    | false ↦ λ e. subst (λ (o : Option Renderbuffer). IsSome o) (sym (get-insert_other t.objects t.bound (record { image = Some v }) n (not_same t.bound n e))) there
  ]) refl

  owned_by : (o : Option Renderbuffer) → table.get t.objects t.bound ≡ o → IsSome o → AreObjectsSound t → IsOwned t.names t.bound
  owned_by None e there sound = absurd (cc)
  owned_by (Some x) e there sound = sound.owned t.bound x e

  bound_there : (t.bound == 0) ≡ false → (t.bound ≡ 0) ⊎ IsSome (table.get t.objects t.bound) → IsSome (table.get t.objects t.bound)
  bound_there apart (inl none) = absurd (grind (arith, nat_tests))
  bound_there apart (inr there) = there

  -- what is always so stays so
  storage_sound : (t.bound == 0) ≡ false → AreObjectsSound t → AreObjectsSound (renderbuffer_storage_effect t v)
  storage_sound apart sound = record {
    made = λ id name found is. some_inserted name.number (sound.made id name found is);
    owned = λ n x found. elim (found-insert t.objects t.bound (record { image = Some v }) n x found) [
      | inl p ↦ subst (IsOwned t.names) (sym p.0) (owned_by (table.get t.objects t.bound) refl (bound_there apart sound.bound) sound)
      | inr p ↦ sound.owned n x p.1
    ];
    bound = inr (some_inserted t.bound (bound_there apart sound.bound));
  }

module _ (s : EsState) (d : DriverState) (a : TablesAgree s d.tables) (target format : GlEnum) (width height : ℤ) (payload : List ℕ) (allowed : renderbuffer_storage_refusal s.renderbuffers target format width height ≡ None) where
  abbrev storage_call : DriverCall
  storage_call = Image (calls.RenderbufferStorage format width height)

  abbrev view : LevelView
  view = storage_view format width height

  abbrev stored : RenderbufferTables → RenderbufferTables
  stored t = renderbuffer_storage_effect t view

  fine : (not ((target.0 == RENDERBUFFER.0) && is_storage format) ≡ false) × ((is_bad_side width || is_bad_side height) ≡ false) × ((s.renderbuffers.bound == 0) ≡ false)
  fine = none_of_three (not ((target.0 == RENDERBUFFER.0) && is_storage format)) (is_bad_side width || is_bad_side height) (s.renderbuffers.bound == 0) InvalidEnum InvalidValue InvalidOperation allowed

  -- a driver is given one that is not refused either
  storage_allowed : IsAllowed d storage_call
  storage_allowed =
      let format_is = (and_parts (target.0 == RENDERBUFFER.0) (is_storage format) (not-false _ fine.0)).1 in
      λ j. if not (eq-eqb RENDERBUFFER.0 RENDERBUFFER.0 refl j && format_is j) then Some InvalidEnum
      else if fine.1 j then Some InvalidValue
      else if (ap (λ (n : ℕ). n == 0) (sym a.renderbuffers.bound) ∙ fine.2) j then Some InvalidOperation else None

  agree_after : RenderbuffersAgree (stored s.renderbuffers) (stored d.tables.renderbuffers) d.tables.given.renderbuffers
  agree_after = record {
    names = a.renderbuffers.names;
    objects = λ i. table.insert (a.renderbuffers.objects i) (a.renderbuffers.bound i) (record { image = Some view });
    bound = a.renderbuffers.bound;
    sound = storage_sound s.renderbuffers view fine.2 a.renderbuffers.sound;
  }

  abbrev new_storage : Contents → ℕ → Contents
  new_storage k number = with_storage k number (λ x y. Undefined)

  module _ (f : Covers) (m : Marks) where
    marks_after : ImagesAgree s.textures.objects s.renderbuffers.objects f m d.contents → ImagesAgree s.textures.objects (stored s.renderbuffers).objects f (with_mark m s.renderbuffers.bound false) (new_storage d.contents s.renderbuffers.bound)
    marks_after agree = record {
      covers = agree.covers;
      marks = marks_stored IsMarked s.renderbuffers.objects (stored s.renderbuffers).objects m d.contents s.renderbuffers.bound false (λ x y. Undefined) agree.marks (stored_elsewhere s.renderbuffers view)
          (subst (λ (o : Option LevelView). IsMarked o false (λ x y. Undefined)) (sym (stored_here s.renderbuffers view)) (λ x y. refl));
      screen = agree.screen;
    }

    module _ (agree : ImagesAgree s.textures.objects s.renderbuffers.objects f m d.contents) where
      storage_by : (o : Oracle) (answer : Answer) → IsLegal d (entry storage_call answer ∷ []) → ImageLeft s d f m (RenderbufferStorage target format width height) payload (told (entry storage_call answer ∷ []) o) o (entry storage_call answer ∷ [])
      storage_by o Done l = record {
        asked = refl;
        tables = with_renderbuffers s d.tables (stored s.renderbuffers) (stored d.tables.renderbuffers) a agree_after;
        images = subst (λ (number : ℕ). ImagesAgree s.textures.objects (stored s.renderbuffers).objects f (with_mark m s.renderbuffers.bound false) (new_storage d.contents number)) a.renderbuffers.bound (marks_after agree);
        contents = read_storage d.contents d.tables.renderbuffers.bound (λ x y. Undefined) ∙ ap (λ (number : ℕ). with_storage (read_contents d.contents) number (λ x y. Zero)) (sym a.renderbuffers.bound);
        records = refl;
      }
      storage_by o Oom l = record { asked = refl; tables = with_errors s d.tables _ a; images = agree; contents = refl; records = refl }
      storage_by o (Name n) l = absurd l.0.answered
      storage_by o (Compile ok log) l = absurd l.0.answered
      storage_by o (Link answer) l = absurd l.0.answered
      storage_by o (Validate ok log) l = absurd l.0.answered
      storage_by o (Pixels rows) l = absurd l.0.answered

      pub storage_leaves : ImageLeaves s d f m (RenderbufferStorage target format width height) payload
      storage_leaves o es l h = one_entry (λ (gs : List DriverEntry). IsLegal d gs → ImageLeft s d f m (RenderbufferStorage target format width height) payload (told gs o) o gs) storage_call (storage_by o) es h l

  pub storage_may : ImageMayGoOn s d (RenderbufferStorage target format width height) payload
  storage_may es next more h = front_of_one (λ (gs : List DriverEntry) (c : DriverCall). IsAllowed (state_after d gs) c) storage_call storage_allowed es next more h
