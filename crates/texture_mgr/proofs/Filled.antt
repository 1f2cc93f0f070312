-- What is written at one place, once the images of a list of places are whole.
use Rattle.std.proofs.Common.{◌≡◌, ℕ, ◌+◌, ◌<◌, ◌==◌, Bool, true, false, ◌||◌, if◌then◌else◌, List, [], ◌∷◌, ◌++◌, Option, None, Some, refl, sym, ap, ◌∙◌, arith}
use Rattle.std.specs.Prelude.{map}
use Prim.Native.Nat.{zero, suc}
use Rattle.gl_base.specs.declared.gl_enum.GlEnum.{GlEnum}
use Rattle.gl_base.specs.declared.rect.Rect.{Rect}
use Rattle.gl_base.specs.Rects.{whole}
use Rattle.gl_plain.specs.declared.targets.AnyImage.TheVariants as image
use Rattle.gl_plain.specs.declared.textures.ImagePlace.{ImagePlace}
use Rattle.gl_plain.specs.declared.textures.LevelView.{LevelView}
use Rattle.gl_plain.specs.subjects.Completeness.{level_places}
use Rattle.gl_plain.specs.subjects.Mipmaps.{half_places_from}
use Rattle.gl_plain.specs.subjects.Textures.{TextureObjects, level_at}
use Rattle.gl_plain.specs.subjects.Images.{Covers, is_place}
use Rattle.gl_plain.specs.Covers.{filled, filled_by, all_filled}
use Rattle.texture_mgr.proofs.CoversBeside.{one_place, other_test}

-- the place is one of these
abbrev pub among : List ImagePlace → ImagePlace → Bool
among [] other = false
among (p ∷ ps) other = is_place p other || among ps other

-- an image that is there is whole
abbrev pub whole_at : Option LevelView → Rect → Rect
whole_at None r = r
whole_at (Some v) r = whole v.width v.height

-- made whole once more, it is the same
once_more : (b c : Bool) (level : Option LevelView) (r : Rect) → (if c then whole_at level (if b then whole_at level r else r) else (if b then whole_at level r else r)) ≡ (if b || c then whole_at level r else r)
once_more true true None r = refl
once_more true true (Some v) r = refl
once_more true false level r = refl
once_more false c level r = refl

-- where one image is made whole
one_filled : (f : Covers) (p other : ImagePlace) (b : Bool) (level : Option LevelView) → is_place p other ≡ b → filled_by f p level other ≡ (if b then whole_at level (f other) else f other)
one_filled f p other true None e = refl
one_filled f p other false None e = refl
one_filled f p other b (Some v) e = ap (λ t. if t then whole v.width v.height else f other) e

filled_at : (t : TextureObjects) (f : Covers) (p other : ImagePlace) (b : Bool) → is_place p other ≡ b → filled t f p other ≡ (if b then whole_at (level_at t other) (f other) else f other)
filled_at t f p other true e = one_filled f p other true (level_at t p) e ∙ ap (λ place. whole_at (level_at t place) (f other)) (one_place p other e)
filled_at t f p other false e = one_filled f p other false (level_at t p) e

-- an image of the list is whole, and any other is as before
pub all_filled_at : (t : TextureObjects) (ps : List ImagePlace) (f : Covers) (other : ImagePlace) → all_filled t f (map image.Level ps) other ≡ (if among ps other then whole_at (level_at t other) (f other) else f other)
all_filled_at t [] f other = refl
all_filled_at t (p ∷ ps) f other =
    all_filled_at t ps (filled t f p) other
    ∙ ap (λ r. if among ps other then whole_at (level_at t other) r else r) (filled_at t f p other (is_place p other) refl)
    ∙ once_more (is_place p other) (among ps other) (level_at t other) (f other)

pub among_either : (ps qs : List ImagePlace) (other : ImagePlace) → among (ps ++ qs) other ≡ (among ps other || among qs other)
among_either [] qs other = refl
among_either (p ∷ ps) qs other = ap (λ b. is_place p other || b) (among_either ps qs other) ∙ sym (grouped (is_place p other) (among ps other) (among qs other)) where
  grouped : (a b c : Bool) → ((a || b) || c) ≡ (a || (b || c))
  grouped true b c = refl
  grouped false b c = refl

-- a place of another texture or another face is not among those of levels
pub not_of_face : (number : ℕ) (face : GlEnum) (n level : ℕ) (other : ImagePlace) → (other.texture ≡ number → other.face.0 ≡ face.0 → ⊥) → among (level_places number face level n) other ≡ false
not_of_face number face zero level other apart = refl
not_of_face number face (suc n) level other apart =
    ap (λ b. b || among (level_places number face (level + 1) n) other) (other_test other.texture number other.face.0 face.0 (other.level == level) apart) ∙ not_of_face number face n (level + 1) other apart

pub not_of_faces : (number levels n face : ℕ) (other : ImagePlace) → ((i : ℕ) → i < n → other.texture ≡ number → other.face.0 ≡ face + i → ⊥) → among (half_places_from number levels face n) other ≡ false
not_of_faces number levels zero face other apart = refl
not_of_faces number levels (suc n) face other apart =
    among_either (level_places number (record { 0 = face }) 1 levels) (half_places_from number levels (face + 1) n) other
    ∙ ap (λ b. b || among (half_places_from number levels (face + 1) n) other) (not_of_face number (record { 0 = face }) levels 1 other (λ e is. apart 0 (omega arith) e (omega (arith, is))))
    ∙ not_of_faces number levels n (face + 1) other (λ i within e is. apart (i + 1) (omega arith) e (omega (arith, is)))
