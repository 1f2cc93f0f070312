-- What was written of images, after a texture is replaced, made or deleted.
use Rattle.std.proofs.Common.{◌≡◌, ◌≢◌, ◌⊎◌, inl, inr, ℕ, ◌==◌, Bool, true, false, ◌&&◌, if◌then◌else◌, Option, None, Some, is_some, refl, sym, ap, subst, ◌∙◌, arith}
use Rattle.std.proofs.lemmas.Bool.{ne_eqb}
use Rattle.std.proofs.lemmas.Bool.Decides.{nat_tests}
use Rattle.std.specs.FinMap as map
use Rattle.std.specs.Ordering.{nat_cmp}
use Rattle.std.specs.Option.{option_map}
use Rattle.gl_base.proofs.Found.{test, get-insert_here, get-insert_other, get-remove_here, get-remove_other}
use Rattle.gl_base.specs.declared.rect.Rect.{Rect}
use Rattle.gl_base.specs.Rects.{union_of}
use Rattle.gl_plain.specs.declared.textures.TextureUnits.{TextureUnits}
use Rattle.gl_plain.specs.declared.textures.ImagePlace.{ImagePlace}
use Rattle.gl_plain.specs.declared.textures.LevelView.{LevelView}
use Rattle.gl_plain.specs.subjects.Levels.{is_cube_face, level_of, level_in}
use Rattle.gl_plain.specs.subjects.Textures.{level_at}
use Rattle.gl_plain.specs.subjects.Images.{Covers, is_place, no_rect, no_covers, with_cover, without_covers, extended, extended_by}
use Rattle.gl_plain.specs.Covers.{filled_by}
use Rattle.texture_mgr.specs.declared.texture.Texture.{Texture}
use Rattle.texture_mgr.specs.declared.objects.Objects.{Objects}
use Rattle.texture_mgr.specs.Kept.{with_written, none_written}
use Rattle.texture_mgr.specs.Covered.{cover_of, whole_written}
use Rattle.texture_mgr.specs.Objects.{default_in, texture_in, with_default, with_texture, table_of, objects_of, cover_in, covers_of}
use Rattle.texture_mgr.proofs.TablesBeside.{texture_at_is, level_at_is}

all_three : (p q r : Bool) → (p && q && r) ≡ true → (p ≡ true) × (q ≡ true) × (r ≡ true)
all_three true true r e = (refl, refl, e)
all_three true false r e = absurd (cc)
all_three false q r e = absurd (cc)

-- whether a number is 0
pub zero_or : (n : ℕ) → (n ≡ 0) ⊎ (n ≢ 0)
zero_or n = elim (n == 0) as (λ b. (n == 0) ≡ b → (n ≡ 0) ⊎ (n ≢ 0)) [
  | true ↦ λ e. inl (grind (arith, nat_tests))
  | false ↦ λ e. inr (λ is. grind (arith, nat_tests))
] refl

pub numbered : (o : Objects) (number : ℕ) (cube : Bool) → number ≢ 0 → texture_in o number cube ≡ map.get o.by_number number
numbered o number cube positive = ap (λ b. if b then Some (default_in o cube) else map.get o.by_number number) (ne_eqb number 0 positive)

pub numbered_now : (o : Objects) (number : ℕ) (cube : Bool) (x : Texture) → number ≢ 0 → with_texture o number cube x ≡ record o { by_number = map.insert o.by_number number x }
numbered_now o number cube x positive = ap {B = Objects} (λ b. if b then with_default o cube x else record o { by_number = map.insert o.by_number number x }) (ne_eqb number 0 positive)

default_kept : (o : Objects) (cube : Bool) (x : Texture) (m : ℕ) → map.get (with_default o cube x).by_number m ≡ map.get o.by_number m
default_kept o true x m = refl
default_kept o false x m = refl

-- what is found after a texture was replaced: the new one in place of the old, or what was there at another number or of another kind
abbrev pub Found : Objects → ℕ → Bool → Texture → Texture → ℕ → Bool → Type 0
Found o number cube x now m kind =
    ((m ≡ number) × (texture_in (with_texture o number cube now) m kind ≡ Some now) × (texture_in o m kind ≡ Some x))
    ⊎ ((texture_in (with_texture o number cube now) m kind ≡ texture_in o m kind) × (m ≡ number → kind ≡ cube → ⊥))

found_default : (o : Objects) (cube : Bool) (x now : Texture) → Some (default_in o cube) ≡ Some x → (kind : Bool) → Found o 0 cube x now 0 kind
found_default o true x now there true = inl (refl, refl, there)
found_default o true x now there false = inr (refl, λ e kind. absurd (cc))
found_default o false x now there true = inr (refl, λ e kind. absurd (cc))
found_default o false x now there false = inl (refl, refl, there)

found_zero : (o : Objects) (cube : Bool) (x now : Texture) → texture_in o 0 cube ≡ Some x → (m : ℕ) (kind : Bool) → Found o 0 cube x now m kind
found_zero o cube x now there m kind = elim (zero_or m) [
  | inl e ↦ subst (λ k. Found o 0 cube x now k kind) (sym e) (found_default o cube x now there kind)
  | inr positive ↦ inr (numbered (with_default o cube now) m kind positive ∙ default_kept o cube now m ∙ sym (numbered o m kind positive), λ e k. absurd (positive e))
]

found_number : (o : Objects) (number : ℕ) (cube : Bool) (x now : Texture) → number ≢ 0 → texture_in o number cube ≡ Some x → (m : ℕ) (kind : Bool) → Found o number cube x now m kind
found_number o number cube x now positive there m kind =
    let put : with_texture o number cube now ≡ record o { by_number = map.insert o.by_number number now } = numbered_now o number cube now positive in
    let has : map.get o.by_number number ≡ Some x = sym (numbered o number cube positive) ∙ there in
    elim (test m number) [
      | inl p ↦
          let is_one : m ≢ 0 = λ e. positive (sym p.0 ∙ e) in
          inl (
            p.0,
            ap (λ (t : Objects). texture_in t m kind) put ∙ numbered (record o { by_number = map.insert o.by_number number now }) m kind is_one ∙ ap (map.get (map.insert o.by_number number now)) p.0
                ∙ get-insert_here o.by_number number now,
            numbered o m kind is_one ∙ ap (map.get o.by_number) p.0 ∙ has,
          )
      | inr p ↦ inr (
        ap (λ (t : Objects). texture_in t m kind) put
            ∙ ap (λ e. if m == 0 then Some (default_in (record o { by_number = map.insert o.by_number number now }) kind) else e) (get-insert_other o.by_number number now m p.0) ∙ same_defaults o (map.insert o.by_number number now) m kind,
        λ e k. absurd (p.0 e),
      )
    ] where
      same_defaults : (o : Objects) (m2 : _) (m : ℕ) (kind : Bool) → (if m == 0 then Some (default_in (record o { by_number = m2 }) kind) else map.get o.by_number m) ≡ texture_in o m kind
      same_defaults o m2 m true = refl
      same_defaults o m2 m false = refl

pub found : (o : Objects) (number : ℕ) (cube : Bool) (x now : Texture) → texture_in o number cube ≡ Some x → (m : ℕ) (kind : Bool) → Found o number cube x now m kind
found o number cube x now there m kind = elim (zero_or number) [
  | inl e ↦ subst (λ k. Found o k cube x now m kind) (sym e) (found_zero o cube x now (subst (λ k. texture_in o k cube ≡ Some x) e there) m kind)
  | inr positive ↦ found_number o number cube x now positive there m kind
]

pub same_test : (m n : ℕ) (a b : Bool) → m ≡ n → ((m == n) && a && b) ≡ (a && b)
same_test m n a b e = ap (λ t. t && a && b) (let t : (m == n) ≡ true = grind (arith, nat_tests) in t)

pub other_test : (m n a b : ℕ) (c : Bool) → (m ≡ n → a ≡ b → ⊥) → ((m == n) && (a == b) && c) ≡ false
other_test m n a b c apart = elim (m == n) as (λ s. (m == n) ≡ s → (s && (a == b) && c) ≡ false) [
  | false ↦ λ e. refl
  | true ↦ λ e. ap (λ t. t && c) (ne_eqb a b (λ is. apart (grind (arith, nat_tests)) is))
] refl

module _ (o : Objects) (place : ImagePlace) (x now : Texture) (there : texture_in o place.texture (is_cube_face place.face) ≡ Some x) where
  -- one written rectangle of a texture is another
  pub covers_now : (r : Rect) → cover_of now ≡ with_written (cover_of x) place.face place.level r → covers_of (with_texture o place.texture (is_cube_face place.face) now) ≡ with_cover (covers_of o) place r
  covers_now r is k other = at k where
    at : covers_of (with_texture o place.texture (is_cube_face place.face) now) other ≡ with_cover (covers_of o) place r other
    at = elim (found o place.texture (is_cube_face place.face) x now there other.texture (is_cube_face other.face)) [
      | inl p ↦
          ap (λ t. cover_in t other.face other.level) p.1 ∙ ap (λ f. f other.face other.level) is
          ∙ ap (λ w. if (other.face.0 == place.face.0) && (other.level == place.level) then r else w) (sym (ap (λ t. cover_in t other.face other.level) p.2))
          ∙ ap (λ b. if b then r else covers_of o other) (sym (same_test other.texture place.texture (other.face.0 == place.face.0) (other.level == place.level) p.0))
      | inr p ↦
          ap (λ t. cover_in t other.face other.level) p.0
          ∙ ap (λ b. if b then r else covers_of o other)
          (sym (other_test other.texture place.texture other.face.0 place.face.0 (other.level == place.level) (λ e faces. p.1 e (ap (λ n. is_cube_face (record { 0 = n })) faces))))
    ]

-- a texture of which the same was written
pub covers_same : (o : Objects) (number : ℕ) (cube : Bool) (x now : Texture) → texture_in o number cube ≡ Some x → cover_of now ≡ cover_of x → covers_of (with_texture o number cube now) ≡ covers_of o
covers_same o number cube x now there is k other = at k where
  at : covers_of (with_texture o number cube now) other ≡ covers_of o other
  at = elim (found o number cube x now there other.texture (is_cube_face other.face)) [
    | inl p ↦ ap (λ t. cover_in t other.face other.level) p.1 ∙ ap (λ f. f other.face other.level) is ∙ sym (ap (λ t. cover_in t other.face other.level) p.2)
    | inr p ↦ ap (λ t. cover_in t other.face other.level) p.0
  ]

-- an image that is there is written whole
pub covers_filled : (o : Objects) (place : ImagePlace) (x now : Texture) → texture_in o place.texture (is_cube_face place.face) ≡ Some x → (v : Option LevelView)
    → cover_of now ≡ whole_written (cover_of x) place.face place.level v → covers_of (with_texture o place.texture (is_cube_face place.face) now) ≡ filled_by (covers_of o) place v
covers_filled o place x now there None is = covers_same o place.texture (is_cube_face place.face) x now there is
covers_filled o place x now there (Some v) is = covers_now o place x now there _ is

-- nothing was written of a texture that is new, or is there no more
pub covers_gone : (o o2 : Objects) (number : ℕ) → number ≢ 0 → o2.flat ≡ o.flat → o2.cube ≡ o.cube → cover_in (map.get o2.by_number number) ≡ none_written
    → ((m : ℕ) → m ≢ number → map.get o2.by_number m ≡ map.get o.by_number m) → covers_of o2 ≡ without_covers (covers_of o) number
covers_gone o o2 number positive flat cube none others k place = at k where
  defaults : (kind : Bool) → default_in o2 kind ≡ default_in o kind
  defaults true = cube
  defaults false = flat

  at : covers_of o2 place ≡ without_covers (covers_of o) number place
  at = elim (test place.texture number) [
    | inl p ↦
        ap (λ t. cover_in t place.face place.level) (numbered o2 place.texture (is_cube_face place.face) (λ e. positive (sym p.0 ∙ e)) ∙ ap (map.get o2.by_number) p.0)
        ∙ ap (λ f. f place.face place.level) none
        ∙ ap (λ b. if b then no_rect else covers_of o place) (let t : true ≡ (place.texture == number) = sym (grind (arith, nat_tests, p.0)) in t)
    | inr p ↦
        ap (λ t. cover_in t place.face place.level) (λ i. if place.texture == 0 then Some (defaults (is_cube_face place.face) i) else others place.texture p.0 i)
        ∙ ap (λ b. if b then no_rect else covers_of o place) (sym (ne_eqb place.texture number p.0))
  ]

pub covers_made : (o : Objects) (number : ℕ) (x : Texture) → number ≢ 0 → cover_of x ≡ none_written → covers_of (record o { by_number = map.insert o.by_number number x }) ≡ without_covers (covers_of o) number
covers_made o number x positive none =
    covers_gone o (record o { by_number = map.insert o.by_number number x }) number positive refl refl (ap cover_in (get-insert_here o.by_number number x) ∙ none) (λ m apart. get-insert_other o.by_number number x m apart)

pub covers_removed : (o : Objects) (number : ℕ) → number ≢ 0 → covers_of (record o { by_number = map.remove o.by_number number }) ≡ without_covers (covers_of o) number
covers_removed o number positive =
    covers_gone o (record o { by_number = map.remove o.by_number number }) number positive refl refl (ap cover_in (get-remove_here o.by_number number)) (λ m apart. get-remove_other o.by_number number m apart)

-- nothing was written at the opening
pub covers_opening : (o : Objects) → o.by_number ≡ map.empty → cover_of o.flat ≡ none_written → cover_of o.cube ≡ none_written → covers_of o ≡ no_covers
covers_opening o none flat cube k place = at k where
  defaults : (kind : Bool) → cover_of (default_in o kind) ≡ none_written
  defaults true = cube
  defaults false = flat

  at : covers_of o place ≡ no_covers place
  at = elim (zero_or place.texture) [
    | inl e ↦ ap (λ n. cover_in (texture_in o n (is_cube_face place.face)) place.face place.level) e ∙ ap (λ f. f place.face place.level) (defaults (is_cube_face place.face))
    | inr positive ↦
        ap (λ t. cover_in t place.face place.level) (numbered o place.texture (is_cube_face place.face) positive ∙ ap (λ m. map.get m place.texture) none ∙ map.get-empty nat_cmp place.texture)
  ]

-- The image at a place

module _ (o : Objects) (number : ℕ) (kind : Bool) (place : ImagePlace) (n : number ≡ place.texture) (k : kind ≡ is_cube_face place.face) where
  at_place : texture_in o place.texture (is_cube_face place.face) ≡ texture_in o number kind
  at_place i = texture_in o (sym n i) (sym k i)

  pub level_missing : (u : TextureUnits) → texture_in o number kind ≡ None → level_at (objects_of o u) place ≡ None
  level_missing u none = ap (λ t. level_in t place.face place.level) (texture_at_is o u place.texture (is_cube_face place.face) ∙ ap (option_map table_of) (at_place ∙ none))

  module _ (x : Texture) (there : texture_in o number kind ≡ Some x) where
    pub level_there : (u : TextureUnits) → level_at (objects_of o u) place ≡ level_of x.table place.face place.level
    level_there u = level_at_is o u place x (at_place ∙ there)

    pub cover_there : covers_of o place ≡ cover_of x place.face place.level
    cover_there = ap (λ t. cover_in t place.face place.level) (at_place ∙ there)

    put_at : (now : Texture) → covers_of (with_texture o number kind now) ≡ covers_of (with_texture o place.texture (is_cube_face place.face) now)
    put_at now i = covers_of (with_texture o (n i) (k i) now)

    pub written_there : (now : Texture) (r : Rect) → cover_of now ≡ with_written (cover_of x) place.face place.level r → covers_of (with_texture o number kind now) ≡ with_cover (covers_of o) place r
    written_there now r is = put_at now ∙ covers_now o place x now (at_place ∙ there) r is

    pub filled_there : (u : TextureUnits) (now : Texture) → cover_of now ≡ whole_written (cover_of x) place.face place.level (level_of x.table place.face place.level)
        → covers_of (with_texture o number kind now) ≡ filled_by (covers_of o) place (level_at (objects_of o u) place)
    filled_there u now is = put_at now ∙ covers_filled o place x now (at_place ∙ there) _ is ∙ ap (filled_by (covers_of o) place) (sym (level_there u))

-- two places are one
pub one_place : (a b : ImagePlace) → is_place a b ≡ true → a ≡ b
one_place a b e = let p = all_three (b.texture == a.texture) (b.face.0 == a.face.0) (b.level == a.level) e in
    let t : a.texture ≡ b.texture = grind (arith, nat_tests, p.0) in
    let g : a.face.0 ≡ b.face.0 = grind (arith, nat_tests, p.1) in
    let l : a.level ≡ b.level = grind (arith, nat_tests, p.2) in
    λ i. record { texture = t i; face = record { 0 = g i }; level = l i }

-- a rectangle that is as it was
pub cover_again : (f : Covers) (place : ImagePlace) → with_cover f place (f place) ≡ f
cover_again f place k other = at k where
  at : with_cover f place (f place) other ≡ f other
  at = elim (is_place place other) as (λ b. is_place place other ≡ b → (if b then f place else f other) ≡ f other) [ true ↦ λ e. ap f (one_place place other e) | false ↦ λ e. refl ] refl

pub not_extended : (old r : Rect) → is_some (union_of old r) ≡ false → extended old r ≡ old
not_extended old r none = by (union_of old r) none where
  by : (o : Option Rect) → is_some o ≡ false → extended_by old o ≡ old
  by None e = refl
  by (Some u) e = absurd (cc)
