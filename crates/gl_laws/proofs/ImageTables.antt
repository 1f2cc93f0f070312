-- What a texture with another image, or with other parameters, leaves of the images of all textures, and of what is always so.
use Prim.Native.Nat.{zero, suc}
use Rattle.std.proofs.Common.{◌≡◌, ◌≢◌, ◌≤◌, ◌<◌, inl, inr, ℕ, ◌+◌, ◌*◌, ◌==◌, Bool, true, false, ◌&&◌, nat_le, if◌then◌else◌, List, [], ◌∷◌, length, Option, None, Some, IsSome, refl, sym, ap, ◌∙◌, subst, arith, slice_set, length-set}
use Rattle.std.specs.Prelude.{slice_index_or}
use Rattle.std.specs.FinMap as table
use Rattle.std.proofs.lemmas.Bool.{and_parts, eqb-true, eq-eqb, le-leb, leb-true}
use Rattle.std.proofs.lemmas.Bool.Decides.{nat_tests, eqb_tells}
use Rattle.std.proofs.lemmas.List.{get_or-set_same, get_or-set_other}
use Rattle.gl_base.specs.declared.gl_enum.GlEnum.{GlEnum}
use Rattle.gl_base.specs.declared.limits.TheConstants.{LAST_LEVEL, SIDE_LIMIT}
use Rattle.gl_base.proofs.Found.{get-insert_here, get-insert_other, found-insert}
use Rattle.gl_plain.specs.declared.textures.ImagePlace.{ImagePlace}
use Rattle.gl_plain.specs.declared.textures.LevelView.{LevelView}
use Rattle.gl_plain.specs.declared.textures.Texture.{Texture}
use Rattle.gl_plain.specs.subjects.Levels.{is_cube_face, suits, face_count, level_index, level_of, level_in, with_level}
use Rattle.gl_plain.specs.subjects.Textures.{TextureObjects, TextureTables, AreTexturesSound, IsOwned, HasLevels, IsOfKind, default_texture, texture_at, with_default, with_texture, level_at, bound_in, unit_at, with_parameter}
use Rattle.gl_plain.specs.subjects.Images.{is_place}
use Rattle.gl_laws.proofs.Places.{place_is}
use Rattle.gl_base.specs.declared.texture_enums.TheConstants.{TEXTURE_MIN_FILTER, TEXTURE_MAG_FILTER, TEXTURE_WRAP_S}

-- The levels of one texture

-- faces of a kind and levels have a place each in the list of all levels
index_below : (cube : Bool) (face : GlEnum) (level : ℕ) → suits cube face ≡ true → level ≤ LAST_LEVEL → level_index face level < face_count cube * (LAST_LEVEL + 1)
index_below true face level fits within = grind (arith, nat_tests)
index_below false face level fits within = grind (arith, nat_tests)

index_is : (cube : Bool) (face other : GlEnum) (level above : ℕ) → suits cube face ≡ true → suits cube other ≡ true → level ≤ LAST_LEVEL → above ≤ LAST_LEVEL → level_index other above ≡ level_index face level → (other.0 ≡ face.0) × (above ≡ level)
index_is true face other level above fits suited within below same = (grind (arith, nat_tests), grind (arith, nat_tests))
index_is false face other level above fits suited within below same = (grind (arith, nat_tests), grind (arith, nat_tests))

abbrev no_view : Option LevelView
no_view = None

-- the face and the level are these
abbrev pub is_at : GlEnum → ℕ → GlEnum → ℕ → Bool
is_at face level other above = (other.0 == face.0) && (above == level)

not_at : (face : GlEnum) (level : ℕ) (other : GlEnum) (above : ℕ) → other.0 ≡ face.0 → above ≡ level → is_at face level other above ≡ false → ⊥
not_at face level other above same_face same_level h = grind (arith, nat_tests)

module _ (x : Texture) (face : GlEnum) (level : ℕ) (v : LevelView) (fits : suits x.cube face ≡ true) (within : level ≤ LAST_LEVEL) (sized : HasLevels x) where
  level_here : level_of (with_level x face level v) face level ≡ Some v
  level_here =
      let tested : nat_le level LAST_LEVEL ≡ true = le-leb level LAST_LEVEL within in
      let below : level_index face level < length x.levels = subst (λ (n : ℕ). level_index face level < n) (sym sized.count) (index_below x.cube face level fits within) in
      (λ i. if fits i && tested i then slice_index_or (slice_set x.levels (level_index face level) (Some v)) (level_index face level) None else no_view)
      ∙ get_or-set_same x.levels (level_index face level) (Some v) None below

  level_by : (other : GlEnum) (above : ℕ) (b : Bool) → (suits x.cube other && nat_le above LAST_LEVEL) ≡ b → is_at face level other above ≡ false
      → (if b then slice_index_or (slice_set x.levels (level_index face level) (Some v)) (level_index other above) None else no_view) ≡ (if b then slice_index_or x.levels (level_index other above) None else no_view)
  level_by other above false is apart = refl
  level_by other above true is apart = get_or-set_other x.levels (level_index face level) (level_index other above) (Some v) None
      (λ same. let one = index_is x.cube face other level above fits (and_parts _ _ is).0 within (leb-true above LAST_LEVEL (and_parts _ _ is).1) same in not_at face level other above one.0 one.1 apart)

  -- the image of the face and the level is there, and all others are as before
  pub level_written : (other : GlEnum) (above : ℕ) → level_of (with_level x face level v) other above ≡ (if is_at face level other above then Some v else level_of x other above)
  level_written other above = (elim (is_at face level other above) as (λ b. is_at face level other above ≡ b → level_of (with_level x face level v) other above ≡ (if b then Some v else level_of x other above)) [
    | true ↦ λ e. let f : other ≡ face = λ i. record { 0 = eqb-true other.0 face.0 (and_parts _ _ e).0 i } in let l : above ≡ level = eqb-true above level (and_parts _ _ e).1 in
        (λ i. level_of (with_level x face level v) (f i) (l i)) ∙ level_here
    | false ↦ λ e. level_by other above (suits x.cube other && nat_le above LAST_LEVEL) refl e
  ]) refl

-- Parameters

picked : (P : Texture → Type 0) (a b c : Bool) (p q r s : Texture) → P p → P q → P r → P s → P (if a then p else if b then q else if c then r else s)
picked P true b c p q r s hp hq hr hs = hp
picked P false true c p q r s hp hq hr hs = hq
picked P false false true p q r s hp hq hr hs = hr
picked P false false false p q r s hp hq hr hs = hs

-- what holds of a texture with any of its four parameters holds of it with the one that is set
with_any : (P : Texture → Type 0) (x : Texture) (pname value : GlEnum) → P (record x { min = value }) → P (record x { mag = value }) → P (record x { wrap_s = value }) → P (record x { wrap_t = value }) → P (with_parameter x pname value)
with_any P x pname value = picked P (pname.0 == TEXTURE_MIN_FILTER.0) (pname.0 == TEXTURE_MAG_FILTER.0) (pname.0 == TEXTURE_WRAP_S.0) (record x { min = value }) (record x { mag = value }) (record x { wrap_s = value }) (record x { wrap_t = value })

module _ (x : Texture) (pname value : GlEnum) where
  -- parameters are no images, and leave the kind of a texture
  pub parameter_levels : (face : GlEnum) (level : ℕ) → level_of (with_parameter x pname value) face level ≡ level_of x face level
  parameter_levels face level = with_any (λ y. level_of y face level ≡ level_of x face level) x pname value refl refl refl refl

  pub parameter_kind : (with_parameter x pname value).cube ≡ x.cube
  parameter_kind = with_any (λ y. y.cube ≡ x.cube) x pname value refl refl refl refl

  pub parameter_sized : HasLevels x → HasLevels (with_parameter x pname value)
  parameter_sized h = with_any HasLevels x pname value (record { count = h.count; sides = h.sides }) (record { count = h.count; sides = h.sides }) (record { count = h.count; sides = h.sides }) (record { count = h.count; sides = h.sides })

-- One texture among all

-- a texture that replaces one is that of its number and target, and all others are as before
pub data Replaced (t new_objects : TextureObjects) (number : ℕ) (cube : Bool) (new : Texture) (n : ℕ) (c : Bool) : Type 0 where
  Same : n ≡ number → texture_at new_objects n c ≡ Some new → texture_at t n c ≡ texture_at t number cube → Replaced t new_objects number cube new n c
  Other : (n ≡ number → c ≡ cube → ⊥) → texture_at new_objects n c ≡ texture_at t n c → Replaced t new_objects number cube new n c

module _ (t : TextureObjects) (new : Texture) where
  abbrev At : TextureObjects → ℕ → Bool → ℕ → Bool → Type 0
  At u number cube n c = Replaced t u number cube new n c

  default_replaced : (cube c : Bool) → At (with_default t cube new) 0 cube 0 c
  default_replaced true true = Same refl refl refl
  default_replaced true false = Other (λ n e. absurd (cc)) refl
  default_replaced false true = Other (λ n e. absurd (cc)) refl
  default_replaced false false = Same refl refl refl

  -- under a number that is not 0, the target does not matter
  numbered : (u : TextureObjects) (n : ℕ) (c : Bool) → n ≢ 0 → texture_at u n c ≡ table.get u.by_number n
  numbered u n c positive = elim (eqb_tells n 0) [ inl p ↦ absurd (positive p.1) | inr p ↦ ap (λ (b : Bool). if b then Some (default_texture u c) else table.get u.by_number n) p.0 ]

  default_other : (cube : Bool) (n : ℕ) (c : Bool) → n ≢ 0 → At (with_default t cube new) 0 cube n c
  default_other true n c positive = Other (λ e same. positive e) (numbered (with_default t true new) n c positive ∙ sym (numbered t n c positive))
  default_other false n c positive = Other (λ e same. positive e) (numbered (with_default t false new) n c positive ∙ sym (numbered t n c positive))

  abbrev pub put : ℕ → TextureObjects
  put number = record t { by_number = table.insert t.by_number number new }

  number_same : (number : ℕ) (cube c : Bool) → number ≢ 0 → At (put number) number cube number c
  number_same number cube c positive = Same refl (numbered (put number) number c positive ∙ get-insert_here t.by_number number new) (numbered t number c positive ∙ sym (numbered t number cube positive))

  number_other : (number : ℕ) (cube : Bool) (n : ℕ) (c : Bool) → n ≢ number → At (put number) number cube n c
  number_other number cube n c apart = elim (eqb_tells n 0) [
    | inl p ↦ Other (λ e same. apart e) ((λ i. texture_at (put number) (p.1 i) c) ∙ (λ i. texture_at t (sym p.1 i) c))
    | inr p ↦ Other (λ e same. apart e) (numbered (put number) n c p.1 ∙ get-insert_other t.by_number number new n apart ∙ sym (numbered t n c p.1))
  ]

  pub replaced : (number : ℕ) (cube : Bool) (n : ℕ) (c : Bool) → At (with_texture t number cube new) number cube n c
  replaced number cube n c = elim (eqb_tells number 0) [
    | inl p ↦ subst (λ (u : TextureObjects). At u number cube n c) (sym (ap (λ (b : Bool). if b then with_default t cube new else put number) p.0))
        (subst (λ (m : ℕ). At (with_default t cube new) m cube n c) (sym p.1) (by_default cube n c))
    | inr p ↦ subst (λ (u : TextureObjects). At u number cube n c) (sym (ap (λ (b : Bool). if b then with_default t cube new else put number) p.0)) (by_number number cube n c p.1)
  ]
    where
      by_default : (cube : Bool) (n : ℕ) (c : Bool) → At (with_default t cube new) 0 cube n c
      by_default cube n c = elim (eqb_tells n 0) [
        | inl p ↦ subst (λ (m : ℕ). At (with_default t cube new) 0 cube m c) (sym p.1) (default_replaced cube c)
        | inr p ↦ default_other cube n c p.1
      ]

      by_number : (number : ℕ) (cube : Bool) (n : ℕ) (c : Bool) → number ≢ 0 → At (put number) number cube n c
      by_number number cube n c positive = elim (eqb_tells n number) [
        | inl p ↦ subst (λ (m : ℕ). At (put number) number cube m c) (sym p.1) (number_same number cube c positive)
        | inr p ↦ number_other number cube n c p.1
      ]

-- Images

-- an image is of the texture that was replaced, or is as before
pub data IsOf (t after : TextureObjects) (number : ℕ) (cube : Bool) (x new : Texture) (place : ImagePlace) : Type 0 where
  Changed : place.texture ≡ number → level_at after place ≡ level_of new place.face place.level → level_at t place ≡ level_of x place.face place.level → IsOf t after number cube x new place
  Kept : (place.texture ≡ number → is_cube_face place.face ≡ cube → ⊥) → level_at after place ≡ level_at t place → IsOf t after number cube x new place

module _ (t : TextureObjects) (number : ℕ) (cube : Bool) (x : Texture) (there : texture_at t number cube ≡ Some x) where
  pub is_of : (new : Texture) (place : ImagePlace) → IsOf t (with_texture t number cube new) number cube x new place
  is_of new place = elim (replaced t new number cube place.texture (is_cube_face place.face)) [
    | Same same after before ↦ Changed same (ap (λ o. level_in o place.face place.level) after) (ap (λ o. level_in o place.face place.level) (before ∙ there))
    | Other apart after ↦ Kept apart (ap (λ o. level_in o place.face place.level) after)
  ]

  -- where no image of the texture changes, none does
  pub levels_kept : (new : Texture) → ((face : GlEnum) (level : ℕ) → level_of new face level ≡ level_of x face level) → (place : ImagePlace) → level_at (with_texture t number cube new) place ≡ level_at t place
  levels_kept new same place = elim (is_of new place) [
    | Changed is after before ↦ after ∙ same place.face place.level ∙ sym before
    | Kept apart after ↦ after
  ]

  module _ (face : GlEnum) (level : ℕ) (v : LevelView) (of_kind : is_cube_face face ≡ cube) (fits : suits x.cube face ≡ true) (within : level ≤ LAST_LEVEL) (sized : HasLevels x) where
    abbrev here : ImagePlace
    here = record { texture = number; face = face; level = level }

    elsewhere : (place : ImagePlace) → (place.texture ≡ number → is_cube_face place.face ≡ cube → ⊥) → is_place here place ≡ false
    elsewhere place apart = (elim (is_place here place) as (λ b. is_place here place ≡ b → b ≡ false) [
      | true ↦ λ e. let same : place ≡ here = place_is here place e in absurd (apart (ap (λ p. p.texture) same) (ap (λ p. is_cube_face p.face) same ∙ of_kind))
      | false ↦ λ e. refl
    ]) refl

    -- the texture has this image, and all other images are as before
    pub levels_written : (place : ImagePlace) → level_at (with_texture t number cube (with_level x face level v)) place ≡ (if is_place here place then Some v else level_at t place)
    levels_written place = elim (is_of (with_level x face level v) place) [
      | Changed is after before ↦
          let tested : (place.texture == number) ≡ true = eq-eqb place.texture number is in
          after ∙ level_written x face level v fits within sized place.face place.level
          ∙ (λ i. if sym tested i && (place.face.0 == face.0) && (place.level == level) then Some v else sym before i)
      | Kept apart after ↦ after ∙ ap (λ (b : Bool). if b then Some v else level_at t place) (sym (elsewhere place apart))
    ]

-- What is always so

some_there : (o : Option Texture) (x : Texture) → o ≡ Some x → IsSome o
some_there o x e = subst (λ (y : Option Texture). IsSome y) (sym e) refl

same_texture : (x y : Texture) → Some x ≡ Some y → x ≡ y
same_texture x y e = cc

module _ (w : TextureTables) (sound : AreTexturesSound w) (number : ℕ) (cube : Bool) (x : Texture) (there : texture_at w.objects number cube ≡ Some x) (new : Texture) (kind : new.cube ≡ x.cube) (sized : HasLevels new) where
  bound_kept : (unit : ℕ) (c : Bool) → IsOfKind c (texture_at (with_texture w.objects number cube new) (bound_in (unit_at w.objects.units unit) c) c)
  bound_kept unit c = elim (replaced w.objects new number cube (bound_in (unit_at w.objects.units unit) c) c) [
    | Same same after before ↦ subst (IsOfKind c) (sym after) (kind ∙ subst (IsOfKind c) (before ∙ there) (sound.bound unit c))
    | Other apart after ↦ subst (IsOfKind c) (sym after) (sound.bound unit c)
  ]

  abbrev BoundAs : TextureObjects → Type 0
  BoundAs t = (unit : ℕ) (c : Bool) → IsOfKind c (texture_at t (bound_in (unit_at w.objects.units unit) c) c)

  sound_default : (c : Bool) → default_texture w.objects c ≡ x → BoundAs (with_default w.objects c new) → AreTexturesSound (record w { objects = with_default w.objects c new })
  sound_default true is bound = record {
    made = sound.made;
    owned = sound.owned;
    sized = sound.sized;
    flat_sized = sound.flat_sized;
    cube_sized = sized;
    flat_kind = sound.flat_kind;
    cube_kind = kind ∙ sym (ap (λ (y : Texture). y.cube) is) ∙ sound.cube_kind;
    bound = bound;
  }
  sound_default false is bound = record {
    made = sound.made;
    owned = sound.owned;
    sized = sound.sized;
    flat_sized = sized;
    cube_sized = sound.cube_sized;
    flat_kind = kind ∙ sym (ap (λ (y : Texture). y.cube) is) ∙ sound.flat_kind;
    cube_kind = sound.cube_kind;
    bound = bound;
  }

  sound_numbered : table.get w.objects.by_number number ≡ Some x → BoundAs (put w.objects new number) → AreTexturesSound (record w { objects = put w.objects new number })
  sound_numbered is bound = record {
    made = λ id name e made. elim (eqb_tells name.number number) [
      | inl p ↦ some_there _ new (ap (table.get (put w.objects new number).by_number) p.1 ∙ get-insert_here w.objects.by_number number new)
      | inr p ↦ subst (λ (o : Option Texture). IsSome o) (sym (get-insert_other w.objects.by_number number new name.number p.1)) (sound.made id name e made)
    ];
    owned = λ n y e. elim (found-insert w.objects.by_number number new n y e) [
      | inl p ↦ subst (IsOwned w.names) (sym p.0) (sound.owned number x is)
      | inr p ↦ sound.owned n y p.1
    ];
    sized = λ n y e. elim (found-insert w.objects.by_number number new n y e) [
      | inl p ↦ subst HasLevels p.1 sized
      | inr p ↦ sound.sized n y p.1
    ];
    flat_sized = sound.flat_sized;
    cube_sized = sound.cube_sized;
    flat_kind = sound.flat_kind;
    cube_kind = sound.cube_kind;
    bound = bound;
  }

  sound_by : (b : Bool) → (if b then Some (default_texture w.objects cube) else table.get w.objects.by_number number) ≡ Some x → BoundAs (if b then with_default w.objects cube new else put w.objects new number)
      → AreTexturesSound (record w { objects = if b then with_default w.objects cube new else put w.objects new number })
  sound_by true is bound = sound_default cube (same_texture (default_texture w.objects cube) x is) bound
  sound_by false is bound = sound_numbered is bound

  -- a texture that was there may be replaced by another of its kind
  pub sound_with : AreTexturesSound (record w { objects = with_texture w.objects number cube new })
  sound_with = sound_by (number == 0) there bound_kept

-- an item of a list with another item is that one, or was there
set_item : (P : Option LevelView → Type 0) (xs : List (Option LevelView)) (i k : ℕ) (y : Option LevelView) → P y → P (slice_index_or xs k None) → P (slice_index_or (slice_set xs i y) k None)
set_item P [] i k y new old = old
set_item P (x ∷ xs) zero zero y new old = new
set_item P (x ∷ xs) zero (suc k) y new old = old
set_item P (x ∷ xs) (suc i) zero y new old = old
set_item P (x ∷ xs) (suc i) (suc k) y new old = set_item P xs i k y new old

abbrev IsSmall : Option LevelView → Type 0
IsSmall o = (u : LevelView) → o ≡ Some u → (u.width ≤ SIDE_LIMIT) × (u.height ≤ SIDE_LIMIT)

small_view : (v : LevelView) → v.width ≤ SIDE_LIMIT → v.height ≤ SIDE_LIMIT → IsSmall (Some v)
small_view v width height u e = let same : v ≡ u = cc in subst (λ (z : LevelView). (z.width ≤ SIDE_LIMIT) × (z.height ≤ SIDE_LIMIT)) same (width, height)

-- a new image is no greater than may be
pub level_sized : (x : Texture) (face : GlEnum) (level : ℕ) (v : LevelView) → HasLevels x → v.width ≤ SIDE_LIMIT → v.height ≤ SIDE_LIMIT → HasLevels (with_level x face level v)
level_sized x face level v sized width height = record {
  count = length-set x.levels (level_index face level) (Some v) ∙ sized.count;
  sides = λ at. set_item IsSmall x.levels (level_index face level) at (Some v) (small_view v width height) (sized.sides at);
}

-- An image that is there

if_there : (b : Bool) (o : Option LevelView) (v : LevelView) → (if b then o else None) ≡ Some v → o ≡ Some v
if_there true o v e = e
if_there false o v e = absurd (cc)

in_texture : (o : Option Texture) (face : GlEnum) (level : ℕ) (v : LevelView) → level_in o face level ≡ Some v → ((x : Texture) → o ≡ Some x → HasLevels x) → (v.width ≤ SIDE_LIMIT) × (v.height ≤ SIDE_LIMIT)
in_texture None face level v e sized = absurd (cc)
in_texture (Some x) face level v e sized = (sized x refl).sides (level_index face level) v (if_there (suits x.cube face && nat_le level LAST_LEVEL) _ v e)

module _ (w : TextureTables) (sound : AreTexturesSound w) where
  default_sized : (c : Bool) → HasLevels (default_texture w.objects c)
  default_sized true = sound.cube_sized
  default_sized false = sound.flat_sized

  sized_by : (b c : Bool) (number : ℕ) (x : Texture) → (if b then Some (default_texture w.objects c) else table.get w.objects.by_number number) ≡ Some x → HasLevels x
  sized_by true c number x e = subst HasLevels (same_texture (default_texture w.objects c) x e) (default_sized c)
  sized_by false c number x e = sound.sized number x e

  -- every texture has its levels
  pub texture_sized : (number : ℕ) (c : Bool) (x : Texture) → texture_at w.objects number c ≡ Some x → HasLevels x
  texture_sized number c x e = sized_by (number == 0) c number x e

  -- an image that is there is no greater than may be
  pub level_small : (place : ImagePlace) (v : LevelView) → level_at w.objects place ≡ Some v → (v.width ≤ SIDE_LIMIT) × (v.height ≤ SIDE_LIMIT)
  level_small place v e = in_texture (texture_at w.objects place.texture (is_cube_face place.face)) place.face place.level v e (texture_sized place.texture (is_cube_face place.face))
