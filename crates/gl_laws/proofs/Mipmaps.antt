-- The own laws of GenerateMipmap (OpenGL ES 2.0.25, section 3.7.11): one driver call, which reads level 0 of each face and makes its halves.
use Rattle.std.proofs.Common.{◌≡◌, ◌<◌, ℕ, ◌+◌, Bool, true, false, if◌then◌else◌, List, [], ◌∷◌, Option, None, Some, refl, sym, ap, ◌∙◌, subst, arith}
use Rattle.std.specs.Prelude.{map}
use Rattle.std.proofs.lemmas.Bool.Decides.{nat_tests}
use Rattle.gl_base.specs.declared.gl_enum.GlEnum.{GlEnum}
use Rattle.gl_base.specs.declared.limits.TheConstants.{LAST_LEVEL}
use Rattle.gl_base.specs.declared.rect.Rect.{Rect}
use Rattle.gl_plain.specs.declared.commands.ImageCommand.TheVariants.{GenerateMipmap}
use Rattle.gl_plain.specs.declared.driver_calls.Answer.{Answer}
use Rattle.gl_plain.specs.declared.driver_calls.DriverCall.{DriverCall}
use Rattle.gl_plain.specs.declared.driver_calls.DriverCall.TheVariants.{Image}
use Rattle.gl_plain.specs.declared.driver_calls.DriverEntry.{DriverEntry}
use Rattle.gl_plain.specs.declared.driver_calls.ImageDriver.TheVariants as calls
use Rattle.gl_plain.specs.declared.targets.AnyImage.{AnyImage}
use Rattle.gl_plain.specs.declared.targets.AnyImage.TheVariants as any
use Rattle.gl_plain.specs.declared.textures.ImagePlace.{ImagePlace}
use Rattle.gl_plain.specs.declared.textures.LevelView.{LevelView}
use Rattle.gl_plain.specs.declared.textures.Texture.{Texture}
use Rattle.gl_plain.specs.subjects.Completeness.{base_level, first_face, levels_behind}
use Rattle.gl_plain.specs.subjects.Levels.{face_count, is_cube_face, is_cube_target, level_of, suits}
use Rattle.gl_plain.specs.subjects.Mipmaps.{base_places, generate_mipmap_by, generate_mipmap_effect, generate_mipmap_refusal, half_count, half_images, half_places, half_places_by, half_places_from, halved_contents, halves_of}
use Rattle.gl_plain.specs.subjects.Targets.{Drawable, Renderbuffers, renderbuffer_at}
use Rattle.gl_plain.specs.subjects.Textures.{TextureObjects, AreTexturesSound, HasLevels, bound_number, level_at, texture_at, with_texture}
use Rattle.gl_plain.specs.subjects.Images.{Pixel, Contents, Covers, ImageContents, IsCovered, IsMarked, IsScreenWritten, Marks, Screen, AreWritten, all_made, counted, read_contents}
use Rattle.gl_plain.specs.Oracle.{Oracle}
use Rattle.gl_plain.specs.State.{EsState, DriverState, drawable_in, drawable_of}
use Rattle.gl_plain.specs.Covers.{all_filled, all_marked}
use Rattle.gl_plain.specs.driver.Allowed.{IsAllowed}
use Rattle.gl_plain.specs.driver.Answers.{told}
use Rattle.gl_plain.specs.Journal.{state_after}
use Rattle.gl_plain.specs.image.Covers.{image_whole_first}
use Rattle.gl_plain.specs.Records.{Record, ReduceRecord, reduce_record}
use Rattle.gl_plain.specs.Agreement.{TablesAgree, ImagesAgree}
use Rattle.gl_laws.proofs.Lists.{entry, one_entry, front_of_one}
use Rattle.gl_laws.proofs.Drawables.{same_drawable}
use Rattle.gl_laws.proofs.MadeImages.{levels_read, read_made}
use Rattle.gl_laws.proofs.ImageTables.{Changed, Kept, is_of, levels_kept, sound_with, texture_sized}
use Rattle.gl_laws.proofs.HalfImages.{IsMade, IsWithin, all_filled_at, all_halves_kept, all_halves_made, among, covered_made, made_at, made_beside, none_of_faces, not_of_faces, whole_at}
use Rattle.gl_laws.proofs.Images.{ImageLeaves, ImageLeft, ImageMayGoOn, IsBound, bound_here, textures_agree}
use Rattle.gl_laws.proofs.ImageCommands.{ImageLaws}

-- Faces

-- those from the first on are the faces of such a texture
every_face : (cube : Bool) (i : ℕ) → i < face_count cube → suits cube (record { 0 = (first_face cube).0 + i }) ≡ true
every_face true i within = grind (arith, nat_tests)
every_face false i within = grind (arith, nat_tests)

-- a face is one of textures of one kind
suits_cube : (cube : Bool) (face : GlEnum) → suits cube face ≡ true → is_cube_face face ≡ cube
suits_cube true face h = h
suits_cube false face h = grind (arith, nat_tests)

-- One texture

module _ (x : Texture) (sized : HasLevels x) where
  base_within : (v : LevelView) → base_level x ≡ Some v → IsWithin v
  base_within v e = sized.sides 0 v e

  -- the kind of a texture and its levels stay
  kept_by : (o : Option LevelView) → base_level x ≡ o → ((halves_of x o).cube ≡ x.cube) × HasLevels (halves_of x o)
  kept_by None e = (refl, sized)
  kept_by (Some v) e = all_halves_kept (face_count x.cube) x v (first_face x.cube).0 (base_within v e) sized

module _ (t : TextureObjects) (number : ℕ) (cube : Bool) (x : Texture) (there : texture_at t number cube ≡ Some x) (kind : x.cube ≡ cube) (sized : HasLevels x) where
  abbrev places_by : Option LevelView → List ImagePlace
  places_by o = half_places_from number (half_count o) (first_face x.cube).0 (face_count x.cube)

  -- a half is there, and each other image is as before
  halves_by : (o : Option LevelView) → base_level x ≡ o → (place : ImagePlace) → IsMade (among (places_by o) place) (level_at t place) (level_at (with_texture t number cube (halves_of x o)) place)
  halves_by None e place =
      subst (λ (b : Bool). IsMade b (level_at t place) (level_at (with_texture t number cube x) place)) (sym (none_of_faces number (face_count x.cube) (first_face x.cube).0 place))
      (levels_kept t number cube x there x (λ face level. refl) place)
  halves_by (Some v) e place = elim (is_of t number cube x there (halves_of x (Some v)) place) [
    | Changed is after before ↦
        subst (λ (now : Option LevelView). IsMade (among (places_by (Some v)) place) (level_at t place) now) (sym after)
        (subst (λ (was : Option LevelView). IsMade (among (places_by (Some v)) place) was (level_of (halves_of x (Some v)) place.face place.level)) (sym before)
        (all_halves_made number place is (face_count x.cube) x v (first_face x.cube).0 (every_face x.cube) (base_within x sized v e) sized))
    | Kept apart after ↦
        subst (λ (b : Bool). IsMade b (level_at t place) (level_at (with_texture t number cube (halves_of x (Some v))) place))
        (sym (not_of_faces number (levels_behind v LAST_LEVEL) (face_count x.cube) (first_face x.cube).0 place (λ i within e is. apart e
        (ap (λ (n : ℕ). is_cube_face (record { 0 = n })) is ∙ suits_cube x.cube (record { 0 = (first_face x.cube).0 + i }) (every_face x.cube i within) ∙ kind)))) after
  ]

-- Images

-- those that were made are written, and all others are as before
module _ (t after : TextureObjects) (r : Renderbuffers) (f : Covers) (m : Marks) (k : Contents) (agree : ImagesAgree t r f m k) where
  images_made : (places : List ImagePlace) → ((place : ImagePlace) → IsMade (among places place) (level_at t place) (level_at after place))
      → ImagesAgree after r (all_filled after f (map any.Level places)) m (counted (all_made k.records k (map any.Level places)))
  images_made places made = record {
    covers = λ place. subst (λ (w : Rect). IsCovered (level_at after place) w ((all_made k.records k (map any.Level places)).images place)) (sym (all_filled_at after places f place))
        (subst (IsCovered (level_at after place) (if among places place then whole_at (level_at after place) (f place) else f place)) (sym (λ i x y. made_at k.records places k place x y i))
        (covered_made (among places place) k.records (level_at t place) (level_at after place) (f place) (k.images place) (made place) (agree.covers place)));
    marks = λ n. subst (λ (g : ℕ → ℕ → ℕ → Pixel). IsMarked (renderbuffer_at r n) (m n) (g n)) (sym (made_beside k.records places k).0) (agree.marks n);
    screen = subst (λ (g : Screen). IsScreenWritten g) (sym (made_beside k.records places k).1) agree.screen;
  }

-- what is made reads as it is
counted_reads : (k : Contents) (xs : List AnyImage) → read_contents (counted (all_made k.records k xs)) ≡ counted (all_made k.records (read_contents k) xs)
counted_reads k xs = λ i. record (read_made k.records k xs i) { records = (read_made k.records k xs i).records + 1 }

-- The laws

module _ (s : EsState) (d : DriverState) (a : TablesAgree s d.tables) (target : GlEnum) where
  abbrev mipmap_call : DriverCall
  mipmap_call = Image (calls.GenerateMipmap target)

  abbrev after : TextureObjects → TextureObjects
  after t = generate_mipmap_effect t target

  abbrev AreBasesWritten : Type 0
  AreBasesWritten = AreWritten s.textures.objects s.renderbuffers.objects d.contents (map any.Level (base_places s.textures.objects target))

  -- a driver is given what is not refused either, and what it reads was written
  mipmap_allowed : generate_mipmap_refusal s.textures.objects target ≡ None → AreBasesWritten → IsAllowed d mipmap_call
  mipmap_allowed allowed written = record {
    fair = ap (λ (t : TextureObjects). generate_mipmap_refusal t target) (sym a.textures.objects) ∙ allowed;
    written = subst (λ (t : TextureObjects). AreWritten t d.tables.renderbuffers.objects d.contents (map any.Level (base_places t target))) a.textures.objects
        (subst (λ (r : Renderbuffers). AreWritten s.textures.objects r d.contents (map any.Level (base_places s.textures.objects target))) a.renderbuffers.objects written);
  }

  module _ (b : IsBound s.textures.objects (is_cube_target target)) where
    abbrev number : ℕ
    number = bound_number s.textures.objects.units (is_cube_target target)

    abbrev halves : Texture
    halves = halves_of b.texture (base_level b.texture)

    effect_is : after s.textures.objects ≡ with_texture s.textures.objects number (is_cube_target target) halves
    effect_is = ap (generate_mipmap_by s.textures.objects (is_cube_target target)) b.is

    places_are : half_places s.textures.objects target ≡ half_places_by number (Some b.texture)
    places_are = ap (half_places_by number) b.is

    texture_is_sized : HasLevels b.texture
    texture_is_sized = texture_sized s.textures a.textures.sound number (is_cube_target target) b.texture b.is

    made_after : (place : ImagePlace) → IsMade (among (half_places s.textures.objects target) place) (level_at s.textures.objects place) (level_at (after s.textures.objects) place)
    made_after place =
        subst (λ (t : TextureObjects). IsMade (among (half_places s.textures.objects target) place) (level_at s.textures.objects place) (level_at t place)) (sym effect_is)
        (subst (λ (places : List ImagePlace). IsMade (among places place) (level_at s.textures.objects place) (level_at (with_texture s.textures.objects number (is_cube_target target) halves) place)) (sym places_are)
        (halves_by s.textures.objects number (is_cube_target target) b.texture b.is b.kind texture_is_sized (base_level b.texture) refl place))

    sound_after : AreTexturesSound (record s.textures { objects = after s.textures.objects })
    sound_after =
        let kept = kept_by b.texture texture_is_sized (base_level b.texture) refl in
        subst (λ (t : TextureObjects). AreTexturesSound (record s.textures { objects = t })) (sym effect_is)
        (sound_with s.textures a.textures.sound number (is_cube_target target) b.texture b.is halves kept.0 kept.1)

  -- what it reads is recorded as the service has it
  records_same : AreBasesWritten → reduce_record (drawable_in d.tables) d.contents target ≡ reduce_record (drawable_of s) (read_contents d.contents) target
  records_same written =
      ap (λ (b : Drawable). reduce_record b d.contents target) (sym (same_drawable s d.tables a))
      ∙ ap (λ (images : List ImageContents). ReduceRecord images) (levels_read s.textures.objects s.renderbuffers.objects d.contents (base_places s.textures.objects target) written)

  mipmap_by : (f : Covers) (m : Marks) → ImagesAgree s.textures.objects s.renderbuffers.objects f m d.contents → AreBasesWritten → (payload : List ℕ) (o : Oracle) (answer : Answer)
      → ImageLeft s d f m (GenerateMipmap target) payload (told (entry mipmap_call answer ∷ []) o) o (entry mipmap_call answer ∷ [])
  mipmap_by f m agree written payload o answer = record {
    asked = refl;
    tables = textures_agree s d a (after s.textures.objects) (after d.tables.textures.objects) (ap after a.textures.objects) (sound_after (bound_here s d a (is_cube_target target)));
    images = subst (λ (t : TextureObjects). ImagesAgree (after s.textures.objects) s.renderbuffers.objects (all_filled (after s.textures.objects) f (half_images s.textures.objects target)) m (halved_contents t target d.contents)) a.textures.objects
        (images_made s.textures.objects (after s.textures.objects) s.renderbuffers.objects f m d.contents agree (half_places s.textures.objects target) (made_after (bound_here s d a (is_cube_target target))));
    contents = counted_reads d.contents (half_images d.tables.textures.objects target) ∙ ap (λ (t : TextureObjects). halved_contents t target (read_contents d.contents)) (sym a.textures.objects);
    records = ap (λ (x : Record). x ∷ []) (records_same written);
  }

  mipmap_may : (payload : List ℕ) → generate_mipmap_refusal s.textures.objects target ≡ None → AreBasesWritten → ImageMayGoOn s d (GenerateMipmap target) payload
  mipmap_may payload allowed written es next more h = front_of_one (λ (gs : List DriverEntry) (c : DriverCall). IsAllowed (state_after d gs) c) mipmap_call (mipmap_allowed allowed written) es next more h

  mipmap_leaves : (payload : List ℕ) (f : Covers) (m : Marks) → ImagesAgree s.textures.objects s.renderbuffers.objects f m d.contents → AreBasesWritten → ImageLeaves s d f m (GenerateMipmap target) payload
  mipmap_leaves payload f m agree written o es l h =
      one_entry (λ (gs : List DriverEntry). ImageLeft s d f m (GenerateMipmap target) payload (told gs o) o gs) mipmap_call (mipmap_by f m agree written payload o) es h

-- level 0 of each face is written before the call
pub mipmap_laws : (s : EsState) (d : DriverState) (a : TablesAgree s d.tables) (f : Covers) (m : Marks) (target : GlEnum) → ImageLaws s d f m (GenerateMipmap target)
mipmap_laws s d a f m target = record {
  may = λ payload allowed screen written. mipmap_may s d a target payload allowed written;
  leaves = λ payload allowed written agree.
      mipmap_leaves s d a target payload (all_filled s.textures.objects f (image_whole_first s f (GenerateMipmap target))) (all_marked m (image_whole_first s f (GenerateMipmap target))) agree written;
}
