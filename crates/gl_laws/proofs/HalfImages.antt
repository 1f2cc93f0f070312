-- What a list of levels that are made leaves of the image at one place, and which levels of a texture its halves are.
use Prim.Native.Nat.{zero, suc}
use Rattle.std.proofs.Common.{◌≡◌, ◌≤◌, ◌<◌, ℕ, ◌+◌, ◌/◌, ◌==◌, Bool, true, false, ◌&&◌, ◌||◌, if◌then◌else◌, List, [], ◌∷◌, ◌++◌, Option, None, Some, IsSome, refl, sym, ap, ◌∙◌, subst, arith}
use Rattle.std.specs.Prelude.{map, max}
use Rattle.std.proofs.lemmas.Bool.{eq-eqb}
use Rattle.std.proofs.lemmas.Bool.Decides.{nat_tests}
use Rattle.gl_base.specs.declared.gl_enum.GlEnum.{GlEnum}
use Rattle.gl_base.specs.declared.limits.TheConstants.{LAST_LEVEL, SIDE_LIMIT}
use Rattle.gl_base.specs.declared.rect.Rect.{Rect}
use Rattle.gl_base.specs.Rects.{whole}
use Rattle.gl_base.proofs.Rects.{whole_has}
use Rattle.gl_plain.specs.declared.targets.AnyImage.TheVariants as any
use Rattle.gl_plain.specs.declared.textures.ImagePlace.{ImagePlace}
use Rattle.gl_plain.specs.declared.textures.LevelView.{LevelView}
use Rattle.gl_plain.specs.declared.textures.Texture.{Texture}
use Rattle.gl_plain.specs.subjects.Completeness.{halved, is_last, levels_behind, level_places}
use Rattle.gl_plain.specs.subjects.Levels.{suits, level_of, with_level}
use Rattle.gl_plain.specs.subjects.Mipmaps.{with_halves, with_all_halves, half_places_from}
use Rattle.gl_plain.specs.subjects.Textures.{TextureObjects, HasLevels, level_at}
use Rattle.gl_plain.specs.subjects.Images.{Pixel, Made, Contents, Covers, IsCovered, all_made, is_place, with_image}
use Rattle.gl_plain.specs.Covers.{filled, filled_by, all_filled}
use Rattle.gl_laws.proofs.Places.{place_is}
use Rattle.gl_laws.proofs.ImageTables.{is_at, level_sized, level_written}

-- the place is one of these
abbrev pub among : List ImagePlace → ImagePlace → Bool
among [] other = false
among (p ∷ ps) other = is_place p other || among ps other

-- an image that is there is whole
abbrev pub whole_at : Option LevelView → Rect → Rect
whole_at None r = r
whole_at (Some v) r = whole v.width v.height

-- Rectangles

-- made whole once more, it is the same
once_more : (b c : Bool) (level : Option LevelView) (r : Rect) → (if c then whole_at level (if b then whole_at level r else r) else (if b then whole_at level r else r)) ≡ (if b || c then whole_at level r else r)
once_more true true None r = refl
once_more true true (Some v) r = refl
once_more true false level r = refl
once_more false c level r = refl

-- where one image is made whole
one_filled : (f : Covers) (p other : ImagePlace) (b : Bool) (level : Option LevelView) → is_place p other ≡ b → filled_by f p level other ≡ (if b then whole_at level (f other) else f other)
one_filled f p other true None e = refl
one_filled f p other false None e = refl
one_filled f p other b (Some v) e = ap (λ (t : Bool). if t then whole v.width v.height else f other) e

filled_at : (t : TextureObjects) (f : Covers) (p other : ImagePlace) (b : Bool) → is_place p other ≡ b → filled t f p other ≡ (if b then whole_at (level_at t other) (f other) else f other)
filled_at t f p other true e = one_filled f p other true (level_at t p) e ∙ ap (λ (place : ImagePlace). whole_at (level_at t place) (f other)) (sym (place_is p other e))
filled_at t f p other false e = one_filled f p other false (level_at t p) e

-- an image of the list is whole, and any other is as before
pub all_filled_at : (t : TextureObjects) (ps : List ImagePlace) (f : Covers) (other : ImagePlace) → all_filled t f (map any.Level ps) other ≡ (if among ps other then whole_at (level_at t other) (f other) else f other)
all_filled_at t [] f other = refl
all_filled_at t (p ∷ ps) f other =
    all_filled_at t ps (filled t f p) other
    ∙ ap (λ (r : Rect). if among ps other then whole_at (level_at t other) r else r) (filled_at t f p other (is_place p other) refl)
    ∙ once_more (is_place p other) (among ps other) (level_at t other) (f other)

-- Pixels

-- made once more, a pixel is the same
made_again : (b c : Bool) (n : ℕ) (p : Pixel) → (if c then Made n else (if b then Made n else p)) ≡ (if b || c then Made n else p)
made_again true true n p = refl
made_again true false n p = refl
made_again false c n p = refl

module _ (n : ℕ) where
  -- an image of the list was made, and any other is as before
  pub made_at : (ps : List ImagePlace) (k : Contents) (other : ImagePlace) (x y : ℕ) → (all_made n k (map any.Level ps)).images other x y ≡ (if among ps other then Made n else k.images other x y)
  made_at [] k other x y = refl
  made_at (p ∷ ps) k other x y = made_at ps (with_image k p (λ column row. Made n)) other x y ∙ made_again (is_place p other) (among ps other) n (k.images other x y)

  -- levels are no renderbuffers, and no default framebuffer
  pub made_beside : (ps : List ImagePlace) (k : Contents) → ((all_made n k (map any.Level ps)).renderbuffers ≡ k.renderbuffers) × ((all_made n k (map any.Level ps)).screen ≡ k.screen)
  made_beside [] k = (refl, refl)
  made_beside (p ∷ ps) k = made_beside ps (with_image k p (λ column row. Made n))

-- a level that was made is there, and any other has its image
abbrev pub IsMade : (made : Bool) (was now : Option LevelView) → Type 0
IsMade true was now = IsSome now
IsMade false was now = now ≡ was

-- what is made is written, whole
pub covered_made : (b : Bool) (n : ℕ) (was now : Option LevelView) (r : Rect) (px : ℕ → ℕ → Pixel) → IsMade b was now → IsCovered was r px → IsCovered now (if b then whole_at now r else r) (λ x y. if b then Made n else px x y)
covered_made true n was None r px made c = absurd (cc)
covered_made true n was (Some v) r px made c = record { inside = (omega arith, omega arith); exact = λ x y xw yh. sym (whole_has v.width v.height x y xw yh) }
covered_made false n was now r px made c = subst (λ (o : Option LevelView). IsCovered o r px) (sym made) c

-- Places

among_either : (ps qs : List ImagePlace) (other : ImagePlace) → among (ps ++ qs) other ≡ (among ps other || among qs other)
among_either [] qs other = refl
among_either (p ∷ ps) qs other = ap (λ (b : Bool). is_place p other || b) (among_either ps qs other) ∙ sym (grouped (is_place p other) (among ps other) (among qs other)) where
  grouped : (a b c : Bool) → ((a || b) || c) ≡ (a || (b || c))
  grouped true b c = refl
  grouped false b c = refl

-- where texture and face are not both the same, the place is another
other_test : (texture number face first : ℕ) (c : Bool) → (texture ≡ number → face ≡ first → ⊥) → ((texture == number) && (face == first) && c) ≡ false
other_test texture number face first c apart = (elim ((texture == number) && (face == first)) as (λ (b : Bool). ((texture == number) && (face == first)) ≡ b → (b && c) ≡ false) [
  | true ↦ λ e. absurd (apart (grind (arith, nat_tests)) (grind (arith, nat_tests)))
  | false ↦ λ e. refl
]) refl

-- a place of another texture or another face is not among those of levels
not_of_face : (number : ℕ) (face : GlEnum) (n level : ℕ) (other : ImagePlace) → (other.texture ≡ number → other.face.0 ≡ face.0 → ⊥) → among (level_places number face level n) other ≡ false
not_of_face number face zero level other apart = refl
not_of_face number face (suc n) level other apart =
    ap (λ (b : Bool). b || among (level_places number face (level + 1) n) other) (other_test other.texture number other.face.0 face.0 (other.level == level) apart) ∙ not_of_face number face n (level + 1) other apart

pub not_of_faces : (number levels n face : ℕ) (other : ImagePlace) → ((i : ℕ) → i < n → other.texture ≡ number → other.face.0 ≡ face + i → ⊥) → among (half_places_from number levels face n) other ≡ false
not_of_faces number levels zero face other apart = refl
not_of_faces number levels (suc n) face other apart =
    among_either (level_places number (record { 0 = face }) 1 levels) (half_places_from number levels (face + 1) n) other
    ∙ ap (λ (b : Bool). b || among (half_places_from number levels (face + 1) n) other) (not_of_face number (record { 0 = face }) levels 1 other (λ e is. apart 0 (omega arith) e (omega (arith, is))))
    ∙ not_of_faces number levels n (face + 1) other (λ i within e is. apart (i + 1) (omega arith) e (omega (arith, is)))

-- faces without levels have no place
pub none_of_faces : (number n face : ℕ) (other : ImagePlace) → among (half_places_from number 0 face n) other ≡ false
none_of_faces number zero face other = refl
none_of_faces number (suc n) face other = none_of_faces number n (face + 1) other

-- The sides of halves

abbrev pub IsWithin : LevelView → Type 0
IsWithin v = (v.width ≤ SIDE_LIMIT) × (v.height ≤ SIDE_LIMIT)

-- the half of a side within the greatest is within it too
half_within : (side : ℕ) → side ≤ SIDE_LIMIT → max 1 (side / 2) ≤ SIDE_LIMIT
half_within side within = omega (arith, within)

halved_within : (v : LevelView) → IsWithin v → IsWithin (halved v)
halved_within v within = (half_within v.width within.0, half_within v.height within.1)

-- the kind of a texture and its levels stay
halves_kept : (n : ℕ) (x : Texture) (face : GlEnum) (v : LevelView) (level : ℕ) → IsWithin v → HasLevels x → ((with_halves x face v level n).cube ≡ x.cube) × HasLevels (with_halves x face v level n)
halves_kept zero x face v level within sized = (refl, sized)
halves_kept (suc n) x face v level within sized =
    let small = halved_within v within in
    by _ (is_last v) (halves_kept n (with_level x face level (halved v)) face (halved v) (level + 1) small (level_sized x face level (halved v) sized small.0 small.1)) where
      by : (end : Texture) (b : Bool) → (end.cube ≡ x.cube) × HasLevels end → ((if b then x else end).cube ≡ x.cube) × HasLevels (if b then x else end)
      by end true rest = (refl, sized)
      by end false rest = rest

pub all_halves_kept : (n : ℕ) (x : Texture) (v : LevelView) (face : ℕ) → IsWithin v → HasLevels x → ((with_all_halves x v face n).cube ≡ x.cube) × HasLevels (with_all_halves x v face n)
all_halves_kept zero x v face within sized = (refl, sized)
all_halves_kept (suc n) x v face within sized =
    let kept = halves_kept LAST_LEVEL x (record { 0 = face }) v 1 within sized in
    let rest = all_halves_kept n (with_halves x (record { 0 = face }) v 1 LAST_LEVEL) v (face + 1) within kept.1 in
    (rest.0 ∙ kept.0, rest.1)

-- The levels of a texture

-- a level is made in one of two steps
made_after : (b c : Bool) (k l m : Option LevelView) → IsMade b k l → IsMade c l m → IsMade (b || c) k m
made_after true true k l m one two = two
made_after true false k l m one two = subst (λ (o : Option LevelView). IsSome o) (sym two) one
made_after false true k l m one two = two
made_after false false k l m one two = two ∙ one

made_by : (b : Bool) (was now : Option LevelView) (v : LevelView) → now ≡ (if b then Some v else was) → IsMade b was now
made_by true was now v e = subst (λ (o : Option LevelView). IsSome o) (sym e) refl
made_by false was now v e = e

-- the faces that follow suit it too
first_fits : (n : ℕ) (x : Texture) (face : ℕ) → ((i : ℕ) → i < suc n → suits x.cube (record { 0 = face + i }) ≡ true) → suits x.cube (record { 0 = face }) ≡ true
first_fits n x face fit = subst (λ (k : ℕ). suits x.cube (record { 0 = k }) ≡ true) (let e : face + 0 ≡ face = omega arith in e) (fit 0 (omega arith))

next_fit : (n : ℕ) (x now : Texture) (face : ℕ) → now.cube ≡ x.cube → ((i : ℕ) → i < suc n → suits x.cube (record { 0 = face + i }) ≡ true) → (i : ℕ) → i < n → suits now.cube (record { 0 = face + 1 + i }) ≡ true
next_fit n x now face kind fit i within =
    subst (λ (b : Bool). suits b (record { 0 = face + 1 + i }) ≡ true) (sym kind) (subst (λ (k : ℕ). suits x.cube (record { 0 = k }) ≡ true) (let e : face + (i + 1) ≡ face + 1 + i = omega arith in e) (fit (i + 1) (omega arith)))

same_test : (texture number : ℕ) (b c : Bool) → texture ≡ number → ((texture == number) && b && c) ≡ (b && c)
same_test texture number b c same = ap (λ (a : Bool). a && b && c) (eq-eqb texture number same)

module _ (number : ℕ) (other : ImagePlace) (same : other.texture ≡ number) where
  -- what became of the level at that place
  abbrev pub MadeAt : Bool → Texture → Texture → Type 0
  MadeAt b x now = IsMade b (level_of x other.face other.level) (level_of now other.face other.level)

  level_made : (x : Texture) (face : GlEnum) (level : ℕ) (v : LevelView) → suits x.cube face ≡ true → level ≤ LAST_LEVEL → HasLevels x
      → MadeAt ((other.texture == number) && (other.face.0 == face.0) && (other.level == level)) x (with_level x face level v)
  level_made x face level v fits within sized =
      subst (λ (b : Bool). MadeAt b x (with_level x face level v)) (sym (same_test other.texture number (other.face.0 == face.0) (other.level == level) same))
      (made_by (is_at face level other.face other.level) _ _ v (level_written x face level v fits within sized other.face other.level))

  one_more : (b : Bool) (k : ℕ) (x end : Texture) (face : GlEnum) (v : LevelView) (level : ℕ) → suits x.cube face ≡ true → level ≤ LAST_LEVEL → HasLevels x
      → MadeAt (among (level_places number face (level + 1) k) other) (with_level x face level v) end
      → MadeAt (among (level_places number face level (if b then 0 else 1 + k)) other) x (if b then x else end)
  one_more true k x end face v level fits within sized rest = refl
  one_more false k x end face v level fits within sized rest =
      let next : suc k ≡ 1 + k = omega arith in
      subst (λ (m : ℕ). MadeAt (among (level_places number face level m) other) x end) next
      (made_after ((other.texture == number) && (other.face.0 == face.0) && (other.level == level)) (among (level_places number face (level + 1) k) other) _ _ _ (level_made x face level v fits within sized) rest)

  halves_made : (n : ℕ) (x : Texture) (face : GlEnum) (v : LevelView) (level : ℕ) → suits x.cube face ≡ true → level + n ≤ LAST_LEVEL + 1 → IsWithin v → HasLevels x
      → MadeAt (among (level_places number face level (levels_behind v n)) other) x (with_halves x face v level n)
  halves_made zero x face v level fits within small sized = refl
  halves_made (suc n) x face v level fits within small sized =
      let smaller = halved_within v small in
      one_more (is_last v) (levels_behind (halved v) n) x _ face (halved v) level fits (omega arith) sized
      (halves_made n (with_level x face level (halved v)) face (halved v) (level + 1) fits (omega arith) smaller (level_sized x face level (halved v) sized smaller.0 smaller.1))

  -- so it is over all faces
  pub all_halves_made : (n : ℕ) (x : Texture) (v : LevelView) (face : ℕ) → ((i : ℕ) → i < n → suits x.cube (record { 0 = face + i }) ≡ true) → IsWithin v → HasLevels x
      → MadeAt (among (half_places_from number (levels_behind v LAST_LEVEL) face n) other) x (with_all_halves x v face n)
  all_halves_made zero x v face fit small sized = refl
  all_halves_made (suc n) x v face fit small sized =
      let kept = halves_kept LAST_LEVEL x (record { 0 = face }) v 1 small sized in
      subst (λ (b : Bool). MadeAt b x (with_all_halves x v face (suc n)))
      (sym (among_either (level_places number (record { 0 = face }) 1 (levels_behind v LAST_LEVEL)) (half_places_from number (levels_behind v LAST_LEVEL) (face + 1) n) other))
      (made_after (among (level_places number (record { 0 = face }) 1 (levels_behind v LAST_LEVEL)) other) (among (half_places_from number (levels_behind v LAST_LEVEL) (face + 1) n) other) _ _ _
      (halves_made LAST_LEVEL x (record { 0 = face }) v 1 (first_fits n x face fit) (omega arith) small sized)
      (all_halves_made n (with_halves x (record { 0 = face }) v 1 LAST_LEVEL) v (face + 1) (next_fit n x (with_halves x (record { 0 = face }) v 1 LAST_LEVEL) face kept.0 fit) small kept.1))
