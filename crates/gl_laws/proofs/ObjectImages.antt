-- The written rectangles, the marks and the images behind a command on objects: a texture that is made has no image, nor has one that is deleted,
-- and a renderbuffer likewise.
use Rattle.std.proofs.Common.{◌≡◌, ◌≢◌, ℕ, Bool, true, false, ◌==◌, if◌then◌else◌, List, [], ◌∷◌, Option, None, Some, refl, sym, ap, ◌∙◌, subst}
use Rattle.std.specs.FinMap as map
use Rattle.std.specs.Ordering.{nat_cmp}
use Rattle.std.proofs.lemmas.Bool.{eqb-true, eqb-false}
use Rattle.gl_base.specs.declared.gl_enum.GlEnum.{GlEnum}
use Rattle.gl_base.proofs.Found.{get-insert_here, get-insert_other, get-remove_here, get-remove_other}
use Rattle.gl_plain.specs.declared.objects.Name as names
use Rattle.gl_plain.specs.declared.textures.ImagePlace.{ImagePlace}
use Rattle.gl_plain.specs.declared.textures.LevelView.{LevelView}
use Rattle.gl_plain.specs.declared.textures.Texture.{Texture}
use Rattle.gl_plain.specs.declared.textures.TextureUnits.{TextureUnits}
use Rattle.gl_plain.specs.declared.commands.ObjectCommand.{ObjectCommand}
use Rattle.gl_plain.specs.declared.commands.ObjectCommand.TheVariants.{BindTexture, DeleteTextures, BindRenderbuffer, DeleteRenderbuffers}
use Rattle.gl_plain.specs.declared.driver_calls.Answer.{Answer}
use Rattle.gl_plain.specs.declared.driver_calls.DriverCall.{DriverCall}
use Rattle.gl_plain.specs.declared.driver_calls.DriverEntry.{DriverEntry}
use Rattle.gl_plain.specs.subjects.Names.{new_name, made_object}
use Rattle.gl_plain.specs.subjects.Levels.{is_cube_face, is_cube_target, level_in, new_texture}
use Rattle.gl_plain.specs.subjects.Textures.{TextureTables, TextureObjects, default_texture, level_at, with_bound, all_unbound, with_object, binding, bind_texture_by, bind_texture_effect, delete_textures_by}
use Rattle.gl_plain.specs.subjects.Images.{Contents, Covers, Marks, IsCovered, no_rect, without_covers}
use Rattle.gl_plain.specs.subjects.Targets.{bind_effect, new_renderbuffer}
use Rattle.gl_plain.specs.Oracle.{Oracle, first, behind}
use Rattle.gl_plain.specs.State.{EsState, DriverState}
use Rattle.gl_plain.specs.Spaces.{Textures, Renderbuffers, with_name, with_numbers, gen_call}
use Rattle.gl_plain.specs.Outcome.{Outcome, leaves}
use Rattle.gl_plain.specs.driver.Answers.{told}
use Rattle.gl_plain.specs.Journal.{IsLegal}
use Rattle.gl_plain.specs.Parts.{calls_in}
use Rattle.gl_plain.specs.Agreement.{TablesAgree, ImagesAgree}
use Rattle.gl_plain.specs.object.Step.{object_step, bind_outcome}
use Rattle.gl_plain.specs.object.Calls.{own_object_calls, bind_calls, bind_texture_call}
use Rattle.gl_plain.specs.object.Covers.{object_covers, object_marks, bound_covers, deleted_covers}
use Rattle.gl_plain.proofs.Opening.{no_level}
use Rattle.gl_laws.proofs.Lists.{entry, first_entry, head_is}
use Rattle.gl_laws.proofs.Binds.{gen_answered, known_name}
use Rattle.gl_laws.proofs.KeptObjects.{bind_keeps, imaged_kept}
use Rattle.gl_laws.proofs.ObjectMarks.{object_marked}

-- each written rectangle is that of its image
abbrev AreCovered : TextureObjects → Covers → Contents → Type 0
AreCovered t f k = (place : ImagePlace) → IsCovered (level_at t place) (f place) (k.images place)

module _ (t : TextureObjects) (f : Covers) (k : Contents) (images : AreCovered t f k) where
  -- units have no part in images
  images_bound_otherwise : (units : TextureUnits) → AreCovered (record t { units = units }) f k
  images_bound_otherwise units = images

  module _ (number : ℕ) (m : map.FinMap nat_cmp Texture) (positive : number ≢ 0) (others : (n : ℕ) → n ≢ number → map.get m n ≡ map.get t.by_number n)
      (gone : (face : GlEnum) (level : ℕ) → level_in (map.get m number) face level ≡ None) where
    covered : (place : ImagePlace) (zero same : Bool) → (place.texture == 0) ≡ zero → (place.texture == number) ≡ same
        → IsCovered (level_in (if zero then Some (default_texture t (is_cube_face place.face)) else map.get t.by_number place.texture) place.face place.level) (f place) (k.images place)
        → IsCovered (level_in (if zero then Some (default_texture t (is_cube_face place.face)) else map.get m place.texture) place.face place.level) (if same then no_rect else f place) (k.images place)
    covered place true true z e c = absurd (positive (sym (eqb-true place.texture number e) ∙ eqb-true place.texture 0 z))
    covered place true false z e c = c
    covered place false true z e c = subst (λ (v : Option LevelView). IsCovered v no_rect (k.images place))
        (sym (ap (λ (n : ℕ). level_in (map.get m n) place.face place.level) (eqb-true place.texture number e) ∙ gone place.face place.level)) refl
    covered place false false z e c = subst (λ (x : Option Texture). IsCovered (level_in x place.face place.level) (f place) (k.images place)) (sym (others place.texture (eqb-false place.texture number e))) c

    -- under one number there are no images, and under the others those that were there
    images_without : (units : TextureUnits) → AreCovered (record t { by_number = m; units = units }) (without_covers f number) k
    images_without units place = covered place (place.texture == 0) (place.texture == number) refl refl (images place)

-- BindTexture

-- the texture of a name that is no object yet is made, without images
bound_images : (t : TextureTables) (f : Covers) (k : Contents) → AreCovered t.objects f k → (cube : Bool) (id : ℕ) (x : names.Name) → x.number ≢ 0
    → AreCovered (binding (with_object t id cube x) cube x.number).objects (if x.is_object then f else without_covers f x.number) k
bound_images t f k images cube id x positive = elim x.is_object as (λ b.
    AreCovered (binding (if b then t else record t { names = made_object t.names id x; objects = record t.objects { by_number = map.insert t.objects.by_number x.number (new_texture cube) } }) cube x.number).objects
    (if b then f else without_covers f x.number) k) [
      | true ↦ images_bound_otherwise t.objects f k images (with_bound t.objects.units cube x.number)
      | false ↦ images_without t.objects f k images x.number (map.insert t.objects.by_number x.number (new_texture cube)) positive
          (get-insert_other t.objects.by_number x.number (new_texture cube))
          (λ face level. ap (λ (o : Option Texture). level_in o face level) (get-insert_here t.objects.by_number x.number (new_texture cube)) ∙ no_level cube face level)
          (with_bound t.objects.units cube x.number)
    ]

-- the first number that is told is a new one
first_positive : (d : DriverState) (call : DriverCall) (o : Oracle) (es : List DriverEntry) → IsLegal d es → calls_in es ≡ gen_call Textures ∷ call ∷ [] → first (told es o).textures ≢ 0
first_positive d call o [] l h = absurd (cc)
first_positive d call o (e ∷ es) l h = first_entry (λ (gs : List DriverEntry). IsLegal d gs → first (told gs o).textures ≢ 0) (gen_call Textures) e es (head_is e.call (gen_call Textures) (calls_in es) (call ∷ []) h)
    (λ k. gen_answered Textures d (λ (x : Answer). first (told (entry (gen_call Textures) x ∷ es) o).textures ≢ 0) (λ n fresh. fresh.positive) e.answer es k) l

abbrev bind : GlEnum → ℕ → EsState → EsState
bind target id s = record s { textures = bind_texture_effect s.textures target id }

module _ (s : EsState) (d : DriverState) (a : TablesAgree s d.tables) (f : Covers) (images : AreCovered s.textures.objects f d.contents) where
  -- the number of a name is not 0
  number_positive : (id : ℕ) (x : names.Name) → map.get s.textures.names id ≡ Some x → x.number ≢ 0
  number_positive id x there is =
      let some : map.get d.tables.textures.names 0 ≡ Some x = ap (map.get d.tables.textures.names) (sym is) ∙ a.textures.names.live id x there in
      let none : map.get d.tables.textures.names 0 ≡ None = a.textures.names.no_zero in absurd (cc)

  -- a name that was just given is bound
  named_images : (target : GlEnum) (id n : ℕ) → n ≢ 0 → AreCovered (bind target id (with_name Textures id n s)).textures.objects (without_covers f n) d.contents
  named_images target id n positive = subst (λ (t : TextureTables). AreCovered t.objects (without_covers f n) d.contents)
      (sym (ap (bind_texture_by (with_name Textures id n s).textures (is_cube_target target) id) (known_name Textures s id n)))
      (bound_images (with_name Textures id n s).textures f d.contents images (is_cube_target target) id (new_name n) positive)

  -- what a bind of a name that is not in use leaves
  abbrev unknown : GlEnum → ℕ → Bool → Oracle → Outcome EsState
  unknown target id b o =
      if b then leaves (bind target id s) o else leaves (bind target id (with_name Textures id (first o.textures) s)) (with_numbers Textures (behind o.textures) o)

  unknown_images : (target : GlEnum) (id : ℕ) → map.get s.textures.names id ≡ None → (b : Bool) (o : Oracle) (es : List DriverEntry) → IsLegal d es
      → calls_in es ≡ (if b then bind_texture_call target 0 ∷ [] else gen_call Textures ∷ bind_texture_call target (first (told es o).textures) ∷ [])
      → AreCovered (unknown target id b (told es o)).state.textures.objects (if b then f else without_covers f (first (told es o).textures)) d.contents
  unknown_images target id free true o es l h = subst (λ (t : TextureTables). AreCovered t.objects f d.contents) (sym (ap (bind_texture_by s.textures (is_cube_target target) id) free))
      (images_bound_otherwise s.textures.objects f d.contents images (with_bound s.textures.objects.units (is_cube_target target) 0))
  unknown_images target id free false o es l h = named_images target id (first (told es o).textures) (first_positive d (bind_texture_call target (first (told es o).textures)) o es l h)

  bind_images : (target : GlEnum) (id : ℕ) (found : Option names.Name) → map.get s.textures.names id ≡ found → (o : Oracle) (es : List DriverEntry) → IsLegal d es
      → calls_in es ≡ bind_calls Textures (bind_texture_call target) id (told es o) found
      → AreCovered (bind_outcome Textures (bind target id) s id (told es o) found).state.textures.objects (bound_covers f id (told es o) found) d.contents
  bind_images target id (Some x) e o es l h = subst (λ (t : TextureTables). AreCovered t.objects (bound_covers f id (told es o) (Some x)) d.contents) (sym (ap (bind_texture_by s.textures (is_cube_target target) id) e))
      (bound_images s.textures f d.contents images (is_cube_target target) id x (number_positive id x e))
  bind_images target id None e o es l h = unknown_images target id e (id == 0) o es l h

  -- DeleteTextures

  delete_images : (id : ℕ) (found : Option names.Name) → map.get s.textures.names id ≡ found → AreCovered (delete_textures_by s.textures id found).objects (deleted_covers f found) d.contents
  delete_images id None e = images
  delete_images id (Some x) e = images_without s.textures.objects f d.contents images x.number (map.remove s.textures.objects.by_number x.number) (number_positive id x e)
      (get-remove_other s.textures.objects.by_number x.number)
      (λ face level. ap (λ (o : Option Texture). level_in o face level) (get-remove_here s.textures.objects.by_number x.number))
      (all_unbound s.textures.objects.units x.number)

-- All commands

-- the same textures have the same images
kept : (t u : TextureObjects) (f : Covers) (k : Contents) → AreCovered t f k → u ≡ t → AreCovered u f k
kept t u f k images same = subst (λ (x : TextureObjects). AreCovered x f k) (sym same) images

-- behind all own calls of a command on objects the written rectangles are those of the images again
object_covered : (s : EsState) (d : DriverState) → TablesAgree s d.tables → (f : Covers) → AreCovered s.textures.objects f d.contents → (c : ObjectCommand) (payload : List ℕ) → (o : Oracle) (es : List DriverEntry) → IsLegal d es → calls_in es ≡ own_object_calls s c payload (told es o)
    → AreCovered (object_step s c payload (told es o)).state.textures.objects (object_covers s c (told es o) f) d.contents
object_covered s d a f images (BindTexture target id) payload o es l h = bind_images s d a f images target id (map.get s.textures.names id) refl o es l h
object_covered s d a f images (DeleteTextures id) payload o es l h = delete_images s d a f images id (map.get s.textures.names id) refl
object_covered s d a f images (BindRenderbuffer target id) payload o es l h = kept s.textures.objects _ f d.contents images
    (bind_keeps s (told es o) (λ (t : EsState). t.textures.objects) Renderbuffers (λ (t : EsState). record t { renderbuffers = bind_effect new_renderbuffer t.renderbuffers id }) id refl (λ n. refl) (map.get s.renderbuffers.names id))
object_covered s d a f images (DeleteRenderbuffers id) payload o es l h = images
object_covered s d a f images c payload o es l h = kept s.textures.objects _ f d.contents images (ap (λ p. p.0) (imaged_kept s (told es o) c payload tt))

-- behind all own calls of a command on objects the written rectangles and the marks are those of the images again
pub object_images : (s : EsState) (d : DriverState) → TablesAgree s d.tables → (f : Covers) (m : Marks) → ImagesAgree s.textures.objects s.renderbuffers.objects f m d.contents → (c : ObjectCommand) (payload : List ℕ) → (o : Oracle) (es : List DriverEntry) → IsLegal d es
    → calls_in es ≡ own_object_calls s c payload (told es o)
    → ImagesAgree (object_step s c payload (told es o)).state.textures.objects (object_step s c payload (told es o)).state.renderbuffers.objects (object_covers s c (told es o) f) (object_marks s c (told es o) m) d.contents
object_images s d a f m images c payload o es l h = record {
  covers = object_covered s d a f images.covers c payload o es l h;
  marks = object_marked s m d.contents images.marks c payload (told es o);
  screen = images.screen;
}
