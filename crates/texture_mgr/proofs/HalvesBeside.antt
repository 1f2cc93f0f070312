-- What is written of all images, once the halves of a texture are made.
use Prim.Native.Nat.{zero, suc}
use Rattle.std.proofs.Common.{◌≡◌, ◌<◌, inl, inr, ℕ, ◌+◌, Bool, true, false, if◌then◌else◌, [], Option, None, Some, refl, sym, ap, subst, ◌∙◌, arith}
use Rattle.std.specs.Prelude.{map}
use Rattle.std.proofs.lemmas.Bool.Decides.{nat_tests}
use Rattle.gl_base.specs.declared.limits.TheConstants.{LAST_LEVEL}
use Rattle.gl_plain.specs.declared.targets.AnyImage.TheVariants as image
use Rattle.gl_plain.specs.declared.textures.ImagePlace.{ImagePlace}
use Rattle.gl_plain.specs.declared.textures.LevelView.{LevelView}
use Rattle.gl_plain.specs.declared.textures.TextureUnits.{TextureUnits}
use Rattle.gl_plain.specs.subjects.Completeness.{levels_behind, first_face, base_level}
use Rattle.gl_plain.specs.subjects.Levels.{suits, is_cube_face, face_count, level_of}
use Rattle.gl_plain.specs.subjects.Mipmaps.{with_all_halves, halves_of, generate_mipmap_by, half_count, half_places_from, half_places_by}
use Rattle.gl_plain.specs.subjects.Textures.{bound_number, bound_texture, level_at}
use Rattle.gl_plain.specs.Covers.{all_filled}
use Rattle.texture_mgr.specs.declared.texture.Texture.{Texture}
use Rattle.texture_mgr.specs.declared.objects.Objects.{Objects}
use Rattle.texture_mgr.specs.Covered.{cover_of}
use Rattle.texture_mgr.specs.Halves.{all_halves_written, written_by_halves}
use Rattle.texture_mgr.specs.OfTargets.{AreOfTargets}
use Rattle.texture_mgr.specs.Objects.{default_in, texture_in, with_texture, objects_of, cover_in, covers_of}
use Rattle.texture_mgr.proofs.TablesBeside.{level_at_is, applied, bound_there, bound_missing}
use Rattle.texture_mgr.proofs.CoversBeside.{zero_or, numbered, numbered_now, found, covers_same}
use Rattle.texture_mgr.proofs.Filled.{among, whole_at, all_filled_at, not_of_faces}
use Rattle.texture_mgr.proofs.HalvesMade.{Made, made_whole, all_halves_made}

-- The faces of a texture

pub faces_fit : (cube : Bool) (i : ℕ) → i < face_count cube → suits cube (record { 0 = (first_face cube).0 + i }) ≡ true
faces_fit true i within = grind (arith, nat_tests)
faces_fit false i within = grind (arith, nat_tests)

faces_kind : (cube : Bool) (i : ℕ) → i < face_count cube → is_cube_face (record { 0 = (first_face cube).0 + i }) ≡ cube
faces_kind true i within = faces_fit true i within
faces_kind false i within = grind (arith, nat_tests)

-- A default texture is of its target, and any other is found for both

default_kind : (o : Objects) (kind : Bool) → AreOfTargets o → (default_in o kind).table.cube ≡ kind
default_kind o true are = are.cube
default_kind o false are = are.flat

same : {X : Type 0} (x y : X) → Some x ≡ Some y → x ≡ y
same x y e = cc

module _ (o : Objects) (number : ℕ) (kind : Bool) (x now : Texture) (there : texture_in o number kind ≡ Some x) (are : AreOfTargets o) where
  of_zero : number ≡ 0 → x.table.cube ≡ kind
  of_zero is =
      let default : Some (default_in o kind) ≡ Some x = subst (λ n. texture_in o n kind ≡ Some x) is there in
      ap (λ (y : Texture). y.table.cube) (sym (same _ _ default)) ∙ default_kind o kind are

  own_there : texture_in o number x.table.cube ≡ Some x
  own_there = elim (zero_or number) [
    | inl is ↦ ap (texture_in o number) (of_zero is) ∙ there
    | inr positive ↦ numbered o number x.table.cube positive ∙ sym (numbered o number kind positive) ∙ there
  ]

  own_now : with_texture o number kind now ≡ with_texture o number x.table.cube now
  own_now = elim (zero_or number) [
    | inl is ↦ ap (λ k. with_texture o number k now) (sym (of_zero is))
    | inr positive ↦ numbered_now o number kind now positive ∙ sym (numbered_now o number x.table.cube now positive)
  ]

-- The halves of the texture with this number

module _ (o : Objects) (u : TextureUnits) (number : ℕ) (x now : Texture) (v : LevelView) (there : texture_in o number x.table.cube ≡ Some x)
    (table : now.table ≡ with_all_halves x.table v (first_face x.table.cube).0 (face_count x.table.cube)) (written : cover_of now ≡ all_halves_written (cover_of x) v (first_face x.table.cube).0 (face_count x.table.cube)) where
  abbrev made_now : Objects
  made_now = with_texture o number x.table.cube now

  abbrev is_half : ImagePlace → Bool
  is_half other = among (half_places_from number (levels_behind v LAST_LEVEL) (first_face x.table.cube).0 (face_count x.table.cube)) other

  -- of this texture
  here : (other : ImagePlace) → other.texture ≡ number → texture_in made_now other.texture (is_cube_face other.face) ≡ Some now → texture_in o other.texture (is_cube_face other.face) ≡ Some x
      → covers_of made_now other ≡ (if is_half other then whole_at (level_at (objects_of made_now u) other) (covers_of o other) else covers_of o other)
  here other same is was =
      let made : Made (is_half other) (level_of x.table other.face other.level) (level_of now.table other.face other.level) (cover_of x other.face other.level) (cover_of now other.face other.level) =
      subst (λ t. Made (is_half other) (level_of x.table other.face other.level) (level_of t other.face other.level) (cover_of x other.face other.level) (cover_of now other.face other.level)) (sym table)
      (subst (λ f. Made (is_half other) (level_of x.table other.face other.level) (level_of (with_all_halves x.table v (first_face x.table.cube).0 (face_count x.table.cube)) other.face other.level) (cover_of x other.face other.level) (f other.face other.level)) (sym written)
      (all_halves_made number other same (face_count x.table.cube) x.table (cover_of x) v (first_face x.table.cube).0 (faces_fit x.table.cube) x.kept.places)) in
      ap (λ t. cover_in t other.face other.level) is
      ∙ made_whole (is_half other) _ _ _ _ made
      ∙ (λ i. if is_half other then whole_at (sym (level_at_is made_now u other now is) i) (sym (ap (λ t. cover_in t other.face other.level) was) i) else sym (ap (λ t. cover_in t other.face other.level) was) i)

  -- of another
  elsewhere : (other : ImagePlace) → texture_in made_now other.texture (is_cube_face other.face) ≡ texture_in o other.texture (is_cube_face other.face) → (other.texture ≡ number → is_cube_face other.face ≡ x.table.cube → ⊥)
      → covers_of made_now other ≡ (if is_half other then whole_at (level_at (objects_of made_now u) other) (covers_of o other) else covers_of o other)
  elsewhere other is apart =
      ap (λ t. cover_in t other.face other.level) is
      ∙ ap (λ b. if b then whole_at (level_at (objects_of made_now u) other) (covers_of o other) else covers_of o other)
      (sym (not_of_faces number (levels_behind v LAST_LEVEL) (face_count x.table.cube) (first_face x.table.cube).0 other (λ i within e face. apart e (ap (λ n. is_cube_face (record { 0 = n })) face ∙ faces_kind x.table.cube i within))))

  pub halves_covers : covers_of made_now ≡ all_filled (objects_of made_now u) (covers_of o) (map image.Level (half_places_from number (levels_behind v LAST_LEVEL) (first_face x.table.cube).0 (face_count x.table.cube)))
  halves_covers k other = at k where
    at : covers_of made_now other ≡ all_filled (objects_of made_now u) (covers_of o) (map image.Level (half_places_from number (levels_behind v LAST_LEVEL) (first_face x.table.cube).0 (face_count x.table.cube))) other
    at = elim (found o number x.table.cube x now there other.texture (is_cube_face other.face)) [
      | inl p ↦ here other p.0 p.1 p.2
      | inr p ↦ elsewhere other p.0 p.1
    ] ∙ sym (all_filled_at (objects_of made_now u) (half_places_from number (levels_behind v LAST_LEVEL) (first_face x.table.cube).0 (face_count x.table.cube)) (covers_of o) other)

no_places : (number n face : ℕ) → half_places_from number 0 face n ≡ []
no_places number zero face = refl
no_places number (suc n) face = no_places number n (face + 1)

module _ (o : Objects) (u : TextureUnits) (number : ℕ) (kind : Bool) (x now : Texture) (there : texture_in o number kind ≡ Some x) (are : AreOfTargets o) where
  -- where level 0 of the first face is there, and where it is not
  halves_filled : (level : Option LevelView) → now.table ≡ halves_of x.table level → cover_of now ≡ written_by_halves (cover_of x) x.table.cube level
      → covers_of (with_texture o number kind now)
      ≡ all_filled (objects_of (with_texture o number kind now) u) (covers_of o) (map image.Level (half_places_from number (half_count level) (first_face x.table.cube).0 (face_count x.table.cube)))
  halves_filled None table written =
      covers_same o number kind x now there written
      ∙ sym (ap (λ ps. all_filled (objects_of (with_texture o number kind now) u) (covers_of o) (map image.Level ps)) (no_places number (face_count x.table.cube) (first_face x.table.cube).0))
  halves_filled (Some v) table written =
      ap covers_of (own_now o number kind x now there are)
      ∙ halves_covers o u number x now v (own_there o number kind x now there are) table written
      ∙ ap (λ m. all_filled (objects_of m u) (covers_of o) (map image.Level (half_places_from number (levels_behind v LAST_LEVEL) (first_face x.table.cube).0 (face_count x.table.cube)))) (sym (own_now o number kind x now there are))

  module _ (cube : Bool) (n : number ≡ bound_number u cube) (k : kind ≡ cube) (table : now.table ≡ halves_of x.table (base_level x.table)) where
    -- tables, and what is written, once the halves of the texture that is bound are made
    pub tables_halved : objects_of (with_texture o number kind now) u ≡ generate_mipmap_by (objects_of o u) cube (bound_texture (objects_of o u) cube)
    tables_halved = applied o u number kind cube n k x there now (halves_of x.table (base_level x.table)) table (generate_mipmap_by (objects_of o u) cube) refl

    pub covers_halved : cover_of now ≡ written_by_halves (cover_of x) x.table.cube (base_level x.table)
        → covers_of (with_texture o number kind now)
        ≡ all_filled (generate_mipmap_by (objects_of o u) cube (bound_texture (objects_of o u) cube)) (covers_of o) (map image.Level (half_places_by (bound_number u cube) (bound_texture (objects_of o u) cube)))
    covers_halved written =
        halves_filled (base_level x.table) table written
        ∙ (λ i. all_filled (tables_halved i) (covers_of o) (map image.Level (half_places_by (n i) (sym (bound_there o u number kind cube n k x there) i))))

-- where none is bound, all is as before
pub covers_unhalved : (o : Objects) (u : TextureUnits) (number : ℕ) (kind cube : Bool) → number ≡ bound_number u cube → kind ≡ cube → texture_in o number kind ≡ None
    → covers_of o ≡ all_filled (generate_mipmap_by (objects_of o u) cube (bound_texture (objects_of o u) cube)) (covers_of o) (map image.Level (half_places_by (bound_number u cube) (bound_texture (objects_of o u) cube)))
covers_unhalved o u number kind cube n k none =
    sym (ap (λ b. all_filled (generate_mipmap_by (objects_of o u) cube b) (covers_of o) (map image.Level (half_places_by (bound_number u cube) b))) (bound_missing o u number kind cube n k none))
