-- Where the levels of a texture stand, and what stands there after a write.
use Prim.Native.Nat.{zero, suc}
use Rattle.std.proofs.Common.{◌≡◌, ◌≤◌, ◌<◌, ℕ, ◌+◌, ◌-◌, ◌*◌, ◌==◌, Bool, true, false, ◌&&◌, nat_le, if◌then◌else◌, List, length, get_or, replicate, slice_set, Option, None, Some, refl, sym, ap, ◌∙◌, arith}
use Rattle.std.specs.Option.{unwrap_or}
use Rattle.std.specs.Prelude.{slice_get, slice_index_or}
use Rattle.std.proofs.lemmas.Bool.Decides.{nat_tests}
use Rattle.std.proofs.lemmas.List.{get_or-set_same, get_or-set_other}
use Rattle.std.proofs.lemmas.Option.{unwrap_or-slice_get}
use Rattle.gl_base.specs.declared.gl_enum.GlEnum.{GlEnum}
use Rattle.gl_base.specs.declared.limits.TheConstants.{LAST_LEVEL}
use Rattle.gl_base.specs.declared.texture_enums.TheConstants.{TEXTURE_CUBE_MAP_POSITIVE_X, TEXTURE_CUBE_MAP_NEGATIVE_Z}
use Rattle.gl_base.specs.declared.rect.Rect.{Rect}
use Rattle.gl_base.specs.Rects.{rest_of}
use Rattle.image_cover.specs.declared.cover.Cover.{Cover}
use Rattle.gl_plain.specs.declared.textures.LevelView.{LevelView}
use Rattle.gl_plain.specs.subjects.Levels.{suits, is_cube_face, face_count, face_number, level_index}
use Rattle.gl_plain.specs.subjects.Images.{rest_at}
use Rattle.texture_mgr.specs.Kept.{HasCovers, item_at, is_cover_of, written_in, none_written, with_written}

-- past the end of a list there is no item
pub none_past : {X : Type 0} (xs : List (Option X)) (i j : ℕ) → i ≡ j → slice_get xs i ≡ None → slice_index_or xs j None ≡ None
none_past xs i j is past = ap (λ k. slice_index_or xs k None) (sym is) ∙ sym (unwrap_or-slice_get xs i None) ∙ ap (λ o. unwrap_or o None) past

same_item_of : {X : Type 0} (n i : ℕ) (x : X) → get_or (replicate n x) i x ≡ x
same_item_of zero i x = refl
same_item_of (suc n) zero x = refl
same_item_of (suc n) (suc i) x = same_item_of n i x

pub if_none : {X : Type 0} (b : Bool) (o : Option X) → o ≡ None → (if b then o else None) ≡ None
if_none true o e = e
if_none false o e = refl

number_of_flat : (face : GlEnum) → suits false face ≡ true → face_number face ≡ 0
number_of_flat face fits = grind (arith, nat_tests)

number_of_cube : (face : GlEnum) → is_cube_face face ≡ true → (TEXTURE_CUBE_MAP_POSITIVE_X.0 ≤ face.0) × (face.0 ≤ TEXTURE_CUBE_MAP_NEGATIVE_Z.0) × (face_number face ≡ face.0 - TEXTURE_CUBE_MAP_POSITIVE_X.0)
number_of_cube face fits = (grind (arith, nat_tests), grind (arith, nat_tests), grind (arith, nat_tests))

-- the place of a level is inside
pub index_inside : (cube : Bool) (face : GlEnum) (level : ℕ) → suits cube face ≡ true → level ≤ LAST_LEVEL → level_index face level < face_count cube * (LAST_LEVEL + 1)
index_inside true face level fits within = let n = number_of_cube face fits in omega (arith, n.0, n.1, n.2)
index_inside false face level fits within = omega (arith, number_of_flat face fits)

-- two levels of one texture stand at one place only if they are the same
pub same_place : (cube : Bool) (face other : GlEnum) (level at : ℕ) → suits cube face ≡ true → suits cube other ≡ true → level ≤ LAST_LEVEL → at ≤ LAST_LEVEL → level_index other at ≡ level_index face level
    → (other.0 ≡ face.0) × (at ≡ level)
same_place true face other level at fits fits2 within within2 is =
    let n = number_of_cube face fits in
    let m = number_of_cube other fits2 in
    (omega (arith, n.0, n.1, n.2, m.0, m.1, m.2), omega (arith, n.0, n.1, n.2, m.0, m.1, m.2))
same_place false face other level at fits fits2 within within2 is =
    let n = number_of_flat face fits in
    let m = number_of_flat other fits2 in
    (grind (arith, nat_tests), omega (arith, n, m))

-- two levels are the same, or one of them stands elsewhere
same_level : (a b c d : ℕ) → ((a == b) && (c == d)) ≡ true → (a ≡ b) × (c ≡ d)
same_level a b c d e = (grind (arith, nat_tests), grind (arith, nat_tests))

other_level : (a b c d : ℕ) → ((a == b) && (c == d)) ≡ false → a ≡ b → c ≡ d → ⊥
other_level a b c d e is is2 = grind (arith, nat_tests)

both_tests : (p q : Bool) → (p && q) ≡ true → (p ≡ true) × (q ≡ true)
both_tests true q e = (refl, e)
both_tests false q e = absurd (cc)

module _ {X : Type 0} (cube : Bool) (items : List (Option X)) (face : GlEnum) (level : ℕ) (v : Option X) (fits : suits cube face ≡ true) (within : level ≤ LAST_LEVEL) (count : length items ≡ face_count cube * (LAST_LEVEL + 1)) where
  here : level_index face level < length items
  here = omega (arith, count, index_inside cube face level fits within)

  same_item : (other : GlEnum) (at : ℕ) → other.0 ≡ face.0 → at ≡ level → item_at cube (slice_set items (level_index face level) v) other at ≡ v
  same_item other at is is2 =
      let same : other ≡ face = ap (λ n. record { 0 = n }) is in
      let inside : (suits cube face && nat_le level LAST_LEVEL) ≡ true = rw fits (grind (arith, nat_tests)) in
      (λ i. item_at cube (slice_set items (level_index face level) v) (same i) (is2 i))
      ∙ ap (λ b. if b then get_or (slice_set items (level_index face level) v) (level_index face level) None else None) inside
      ∙ get_or-set_same items (level_index face level) v None here

  other_item : (other : GlEnum) (at : ℕ) → (b : Bool) → (suits cube other && nat_le at LAST_LEVEL) ≡ b → (other.0 ≡ face.0 → at ≡ level → ⊥)
      → (if b then get_or (slice_set items (level_index face level) v) (level_index other at) None else None) ≡ (if b then get_or items (level_index other at) None else None)
  other_item other at false is apart = refl
  other_item other at true is apart =
      let p = both_tests (suits cube other) (nat_le at LAST_LEVEL) is in
      let inside : at ≤ LAST_LEVEL = grind (arith, nat_tests, p.1) in
      get_or-set_other items (level_index face level) (level_index other at) v None (λ e. let q = same_place cube face other level at fits p.0 within inside e in apart q.0 q.1)

  -- a write at a level shows there, and nowhere else
  pub placed : (other : GlEnum) (at : ℕ) → item_at cube (slice_set items (level_index face level) v) other at ≡ (if (other.0 == face.0) && (at == level) then v else item_at cube items other at)
  placed other at = elim ((other.0 == face.0) && (at == level)) as (λ b. ((other.0 == face.0) && (at == level)) ≡ b → item_at cube (slice_set items (level_index face level) v) other at ≡ (if b then v else item_at cube items other at)) [
    | true ↦ λ e. let p = same_level other.0 face.0 at level e in same_item other at p.0 p.1
    | false ↦ λ e. other_item other at (suits cube other && nat_le at LAST_LEVEL) refl (other_level other.0 face.0 at level e)
  ] refl

-- what is written, after a cover is put in place of another
written_if : (b : Bool) (c : Cover) (o : Option Cover) → written_in (if b then Some c else o) ≡ (if b then c.written else written_in o)
written_if true c o = refl
written_if false c o = refl

pub written_placed : (cube : Bool) (levels : List (Option LevelView)) (covers now : List (Option Cover)) (face : GlEnum) (level index : ℕ) (c : Cover) (r : Rect) → suits cube face ≡ true → level ≤ LAST_LEVEL → HasCovers cube levels covers
    → index ≡ level_index face level → now ≡ slice_set covers index (Some c) → c.written ≡ r
    → (λ other at. written_in (item_at cube now other at)) ≡ with_written (λ other at. written_in (item_at cube covers other at)) face level r
written_placed cube levels covers now face level index c r fits within kept is set all i other at =
    (ap (λ xs. written_in (item_at cube xs other at)) (set ∙ ap (λ k. slice_set covers k (Some c)) is)
    ∙ ap written_in (placed cube covers face level (Some c) fits within (kept.count ∙ kept.places) other at)
    ∙ written_if ((other.0 == face.0) && (at == level)) c (item_at cube covers other at)
    ∙ ap (λ w. if (other.0 == face.0) && (at == level) then w else written_in (item_at cube covers other at)) all) i

pub none_written_in : (cube : Bool) (n : ℕ) (covers : List (Option Cover)) → covers ≡ replicate n None → (λ face level. written_in (item_at cube covers face level)) ≡ none_written
none_written_in cube n covers none i face level =
    (ap (λ xs. written_in (item_at cube xs face level)) none ∙ ap written_in (if_none (suits cube face && nat_le level LAST_LEVEL) _ (same_item_of n (level_index face level) None))) i

-- the rest of an image is that of its cover
pub rest_is : (o : Option LevelView) (c : Cover) (r : Rect) → is_cover_of o (Some c) ≡ true → c.written ≡ r → rest_of c.width c.height c.written ≡ rest_at o r
rest_is None c r e is = absurd (cc)
rest_is (Some v) c r e is = let p = both_tests (c.width == v.width) (c.height == v.height) e in
    let w : c.width ≡ v.width = grind (arith, nat_tests, p.0) in
    let h : c.height ≡ v.height = grind (arith, nat_tests, p.1) in
    λ i. rest_of (w i) (h i) (is i)

-- what is none but for one constructor
pub only_none : {X : Type 0} (P : Option X → Type 0) → ((x : X) → P (Some x) → ⊥) → (o : Option X) → P o → o ≡ None
only_none P none None p = refl
only_none P none (Some x) p = absurd (none x p)
