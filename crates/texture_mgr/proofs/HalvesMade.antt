-- What becomes of each level of a texture once its halves are made: one that was made is whole, and any other is as before.
use Prim.Native.Nat.{zero, suc}
use Rattle.std.proofs.Common.{◌≡◌, ◌≤◌, ◌<◌, ℕ, ◌+◌, ◌*◌, ◌==◌, Bool, true, false, ◌&&◌, ◌||◌, if◌then◌else◌, length, Option, None, Some, refl, sym, subst, ◌∙◌, arith}
use Rattle.std.proofs.lemmas.List.{length-set}
use Rattle.gl_base.specs.declared.gl_enum.GlEnum.{GlEnum}
use Rattle.gl_base.specs.declared.limits.TheConstants.{LAST_LEVEL}
use Rattle.gl_base.specs.declared.rect.Rect.{Rect}
use Rattle.gl_base.specs.Rects.{whole}
use Rattle.gl_plain.specs.declared.textures.ImagePlace.{ImagePlace}
use Rattle.gl_plain.specs.declared.textures.LevelView.{LevelView}
use Rattle.gl_plain.specs.declared.textures.Texture.{Texture}
use Rattle.gl_plain.specs.subjects.Completeness.{halved, is_last, levels_behind, level_places}
use Rattle.gl_plain.specs.subjects.Levels.{suits, face_count, level_index, level_of, with_level}
use Rattle.gl_plain.specs.subjects.Mipmaps.{with_halves, with_all_halves, half_places_from}
use Rattle.texture_mgr.specs.Kept.{with_written}
use Rattle.texture_mgr.specs.Halves.{halves_written, all_halves_written}
use Rattle.texture_mgr.proofs.Places.{placed}
use Rattle.texture_mgr.proofs.CoversBeside.{same_test}
use Rattle.texture_mgr.proofs.Filled.{among, among_either, whole_at}

-- an image is there and whole
abbrev pub IsWritten : Option LevelView → Rect → Type 0
IsWritten None r = ⊥
IsWritten (Some v) r = r ≡ whole v.width v.height

-- a level that was made is there and whole, and any other has its image and what was written
abbrev pub Made : (made : Bool) (was now : Option LevelView) (r s : Rect) → Type 0
Made true was now r s = IsWritten now s
Made false was now r s = (now ≡ was) × (s ≡ r)

-- a level is made in one of two steps
made_after : (b c : Bool) (k l m : Option LevelView) (p q r : Rect) → Made b k l p q → Made c l m q r → Made (b || c) k m p r
made_after true true k l m p q r one two = two
made_after true false k l m p q r one two = subst (λ o. IsWritten o r) (sym two.0) (subst (IsWritten l) (sym two.1) one)
made_after false true k l m p q r one two = two
made_after false false k l m p q r one two = (two.0 ∙ one.0, two.1 ∙ one.1)

made_by : (b : Bool) (was now : Option LevelView) (v : LevelView) (r : Rect) → now ≡ (if b then Some v else was) → Made b was now r (if b then whole v.width v.height else r)
made_by true was now v r e = subst (λ o. IsWritten o (whole v.width v.height)) (sym e) refl
made_by false was now v r e = (e, refl)

-- then its rectangle is this
pub made_whole : (b : Bool) (was now : Option LevelView) (r s : Rect) → Made b was now r s → s ≡ (if b then whole_at now r else r)
made_whole true was None r s made = absurd made
made_whole true was (Some v) r s made = made
made_whole false was now r s made = made.1

-- a texture has a place for each level of each face
abbrev pub HasPlaces : Texture → Type 0
HasPlaces x = length x.levels ≡ face_count x.cube * (LAST_LEVEL + 1)

abbrev pub Rects : Type 0
Rects = GlEnum → ℕ → Rect

-- the kind of a texture and its places stay
halves_kept : (n : ℕ) (x : Texture) (face : GlEnum) (v : LevelView) (level : ℕ) → HasPlaces x → ((with_halves x face v level n).cube ≡ x.cube) × HasPlaces (with_halves x face v level n)
halves_kept zero x face v level places = (refl, places)
halves_kept (suc n) x face v level places = by _ (is_last v) (halves_kept n (with_level x face level (halved v)) face (halved v) (level + 1) (length-set x.levels (level_index face level) (Some (halved v)) ∙ places)) where
  by : (end : Texture) (b : Bool) → (end.cube ≡ x.cube) × HasPlaces end → ((if b then x else end).cube ≡ x.cube) × HasPlaces (if b then x else end)
  by end true rest = (refl, places)
  by end false rest = rest

-- the faces that follow suit it too
first_fits : (n : ℕ) (x : Texture) (face : ℕ) → ((i : ℕ) → i < suc n → suits x.cube (record { 0 = face + i }) ≡ true) → suits x.cube (record { 0 = face }) ≡ true
first_fits n x face fit = subst (λ k. suits x.cube (record { 0 = k }) ≡ true) (let e : face + 0 ≡ face = omega arith in e) (fit 0 (omega arith))

next_fit : (n : ℕ) (x now : Texture) (face : ℕ) → now.cube ≡ x.cube → ((i : ℕ) → i < suc n → suits x.cube (record { 0 = face + i }) ≡ true) → (i : ℕ) → i < n → suits now.cube (record { 0 = face + 1 + i }) ≡ true
next_fit n x now face kind fit i within =
    subst (λ b. suits b (record { 0 = face + 1 + i }) ≡ true) (sym kind) (subst (λ k. suits x.cube (record { 0 = k }) ≡ true) (let e : face + (i + 1) ≡ face + 1 + i = omega arith in e) (fit (i + 1) (omega arith)))

module _ (number : ℕ) (other : ImagePlace) (same : other.texture ≡ number) where
  -- what became of the level at that place
  abbrev pub MadeAt : Bool → Texture → Texture → Rects → Rects → Type 0
  MadeAt b x now f g = Made b (level_of x other.face other.level) (level_of now other.face other.level) (f other.face other.level) (g other.face other.level)

  level_made : (x : Texture) (f : Rects) (face : GlEnum) (level : ℕ) (v : LevelView) → suits x.cube face ≡ true → level ≤ LAST_LEVEL → HasPlaces x
      → MadeAt ((other.texture == number) && (other.face.0 == face.0) && (other.level == level)) x (with_level x face level v) f (with_written f face level (whole v.width v.height))
  level_made x f face level v fits within places =
      subst (λ b. MadeAt b x (with_level x face level v) f (with_written f face level (whole v.width v.height))) (sym (same_test other.texture number (other.face.0 == face.0) (other.level == level) same))
      (made_by ((other.face.0 == face.0) && (other.level == level)) _ _ v (f other.face other.level) (placed x.cube x.levels face level (Some v) fits within places other.face other.level))

  one_more : (b : Bool) (k : ℕ) (x end : Texture) (f g : Rects) (face : GlEnum) (v : LevelView) (level : ℕ) → suits x.cube face ≡ true → level ≤ LAST_LEVEL → HasPlaces x
      → MadeAt (among (level_places number face (level + 1) k) other) (with_level x face level v) end (with_written f face level (whole v.width v.height)) g
      → MadeAt (among (level_places number face level (if b then 0 else 1 + k)) other) x (if b then x else end) f (if b then f else g)
  one_more true k x end f g face v level fits within places rest = (refl, refl)
  one_more false k x end f g face v level fits within places rest =
      let next : suc k ≡ 1 + k = omega arith in
      subst (λ m. MadeAt (among (level_places number face level m) other) x end f g) next
      (made_after ((other.texture == number) && (other.face.0 == face.0) && (other.level == level)) (among (level_places number face (level + 1) k) other) _ _ _ _ _ _ (level_made x f face level v fits within places) rest)

  halves_made : (n : ℕ) (x : Texture) (f : Rects) (face : GlEnum) (v : LevelView) (level : ℕ) → suits x.cube face ≡ true → level + n ≤ LAST_LEVEL + 1 → HasPlaces x
      → MadeAt (among (level_places number face level (levels_behind v n)) other) x (with_halves x face v level n) f (halves_written f face v level n)
  halves_made zero x f face v level fits within places = (refl, refl)
  halves_made (suc n) x f face v level fits within places =
      one_more (is_last v) (levels_behind (halved v) n) x _ f _ face (halved v) level fits (omega arith) places
      (halves_made n (with_level x face level (halved v)) (with_written f face level (whole (halved v).width (halved v).height)) face (halved v) (level + 1) fits (omega arith) (length-set x.levels (level_index face level) (Some (halved v)) ∙ places))

  -- so it is over all faces
  pub all_halves_made : (n : ℕ) (x : Texture) (f : Rects) (v : LevelView) (face : ℕ) → ((i : ℕ) → i < n → suits x.cube (record { 0 = face + i }) ≡ true) → HasPlaces x
      → MadeAt (among (half_places_from number (levels_behind v LAST_LEVEL) face n) other) x (with_all_halves x v face n) f (all_halves_written f v face n)
  all_halves_made zero x f v face fit places = (refl, refl)
  all_halves_made (suc n) x f v face fit places =
      let kept = halves_kept LAST_LEVEL x (record { 0 = face }) v 1 places in
      subst (λ b. MadeAt b x (with_all_halves x v face (suc n)) f (all_halves_written f v face (suc n)))
      (sym (among_either (level_places number (record { 0 = face }) 1 (levels_behind v LAST_LEVEL)) (half_places_from number (levels_behind v LAST_LEVEL) (face + 1) n) other))
      (made_after (among (level_places number (record { 0 = face }) 1 (levels_behind v LAST_LEVEL)) other) (among (half_places_from number (levels_behind v LAST_LEVEL) (face + 1) n) other) _ _ _ _ _ _
      (halves_made LAST_LEVEL x f (record { 0 = face }) v 1 (first_fits n x face fit) (omega arith) places)
      (all_halves_made n (with_halves x (record { 0 = face }) v 1 LAST_LEVEL) (halves_written f (record { 0 = face }) v 1 LAST_LEVEL) v (face + 1) (next_fit n x (with_halves x (record { 0 = face }) v 1 LAST_LEVEL) face kept.0 fit) kept.1))
