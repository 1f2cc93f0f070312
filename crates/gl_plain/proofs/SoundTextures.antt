-- Textures stay sound as names and objects come and go.
use Rattle.std.proofs.Common.{◌≡◌, ◌≢◌, inl, inr, ℕ, Bool, true, false, ◌==◌, ◌&&◌, if◌then◌else◌, refl, sym, ap, ◌∙◌, subst, List, [], ◌∷◌, Option, None, Some, IsSome, slice_index_or, slice_set}
use Rattle.std.specs.Prelude.{map}
use Prim.Native.Nat.{zero, suc}
use Rattle.std.specs.FinMap as table
use Rattle.std.proofs.lemmas.Bool.Decides.{eqb_tells}
use Rattle.gl_base.proofs.Found.{get-insert_here, get-insert_other, found-insert, get-remove_other, found-remove, test}
use Rattle.gl_plain.specs.declared.objects.Name.{Name}
use Rattle.gl_plain.specs.declared.textures.Texture.{Texture}
use Rattle.gl_plain.specs.declared.textures.TextureUnit.{TextureUnit}
use Rattle.gl_plain.specs.subjects.Names.{Names, new_name, made_object}
use Rattle.gl_plain.specs.subjects.Levels.{new_texture}
use Rattle.gl_plain.specs.subjects.Textures.{TextureTables, TextureObjects, AreTexturesSound, IsOfKind, HasLevels, no_binding, texture_at, default_texture, bound_in, unit_at, with_number, gen_textures_effect, with_object, binding, bind_texture_by, has_other_target, is_other, is_of_other_target, unit_unbound, without_texture}
use Rattle.gl_plain.proofs.Opening.{no_view_at}

-- names have numbers of their own
abbrev pub AreOne : Names → Type 0
AreOne names = (id other : ℕ) (x y : Name) → table.get names id ≡ Some x → table.get names other ≡ Some y → x.number ≡ y.number → id ≡ other

same_name : (x y : Name) → Some x ≡ Some y → x ≡ y
same_name x y e = cc

some_texture : (o : Option Texture) (x : Texture) → o ≡ Some x → IsSome o
some_texture o x e = subst (λ (y : Option Texture). IsSome y) (sym e) refl

-- a list in which an item is replaced
set_at : {X : Type 0} (P : X → Type 0) (xs : List X) (i k : ℕ) (y d : X) → P y → ((j : ℕ) → P (slice_index_or xs j d)) → P (slice_index_or (slice_set xs i y) k d)
set_at P [] i k y d here all = all k
set_at P (x ∷ xs) zero zero y d here all = here
set_at P (x ∷ xs) zero (suc k) y d here all = all (suc k)
set_at P (x ∷ xs) (suc i) zero y d here all = all 0
set_at P (x ∷ xs) (suc i) (suc k) y d here all = set_at P xs i k y d here (λ j. all (suc j))

-- a new texture has its levels
new_has_levels : (cube : Bool) → HasLevels (new_texture cube)
new_has_levels true = record { count = refl; sides = λ at v e. absurd (no_view_at 72 at v e) }
new_has_levels false = record { count = refl; sides = λ at v e. absurd (no_view_at 12 at v e) }

-- a unit whose bindings have their kinds
abbrev IsUnitSound : TextureObjects → TextureUnit → Type 0
IsUnitSound t u = (cube : Bool) → IsOfKind cube (texture_at t (bound_in u cube) cube)

module _ (t : TextureTables) (s : AreTexturesSound t) where
  -- the default texture is of its kind
  default_kind : (cube : Bool) → (default_texture t.objects cube).cube ≡ cube
  default_kind true = s.cube_kind
  default_kind false = s.flat_kind

  -- GenTextures
  pub sound_named : (id n : ℕ) → table.get t.names id ≡ None → AreTexturesSound (gen_textures_effect t id n)
  sound_named id n free = record {
    made = λ i x e is. elim (found-insert t.names id (new_name n) i x e) [
      | inl p ↦ let no : x.is_object ≡ false = ap (λ (y : Name). y.is_object) (sym p.1) in absurd (cc)
      | inr p ↦ s.made i x p.1 is
    ];
    sized = s.sized;
    flat_sized = s.flat_sized;
    cube_sized = s.cube_sized;
    flat_kind = s.flat_kind;
    cube_kind = s.cube_kind;
    bound = s.bound;
    owned = λ q x e. let o = s.owned q x e in record {
      id = o.id;
      name = o.name;
      there = get-insert_other t.names id (new_name n) o.id (λ is. let some : table.get t.names id ≡ Some o.name = ap (table.get t.names) (sym is) ∙ o.there in cc) ∙ o.there;
      number_is = o.number_is;
      made = o.made;
    };
  }

  unit_with : (cube : Bool) (number : ℕ) → IsOfKind cube (texture_at t.objects number cube) → (u : TextureUnit) → IsUnitSound t.objects u → IsUnitSound t.objects (with_number u cube number)
  unit_with true number kind u all true = kind
  unit_with true number kind u all false = all false
  unit_with false number kind u all true = all true
  unit_with false number kind u all false = kind

  -- the active unit binds a texture of the kind
  pub sound_binding : (cube : Bool) (number : ℕ) → IsOfKind cube (texture_at t.objects number cube) → AreTexturesSound (binding t cube number)
  sound_binding cube number kind = record {
    made = s.made;
    sized = s.sized;
    flat_sized = s.flat_sized;
    cube_sized = s.cube_sized;
    flat_kind = s.flat_kind;
    cube_kind = s.cube_kind;
    bound = λ unit. set_at (IsUnitSound t.objects) t.objects.units.units t.objects.units.active unit (with_number (unit_at t.objects.units t.objects.units.active) cube number) no_binding
        (unit_with cube number kind (unit_at t.objects.units t.objects.units.active) (s.bound t.objects.units.active)) s.bound;
    owned = s.owned;
  }

  -- no texture stands under the number of a name that is no object
  unowned : AreOne t.names → (id : ℕ) (x : Name) → table.get t.names id ≡ Some x → x.is_object ≡ false → (y : Texture) → table.get t.objects.by_number x.number ≡ Some y → ⊥
  unowned one id x there new y e =
      let o = s.owned x.number y e in
      let here : id ≡ o.id = one id o.id x o.name there o.there (sym o.number_is) in
      let same : x ≡ o.name = same_name x o.name (sym there ∙ ap (table.get t.names) here ∙ o.there) in
      let no : o.name.is_object ≡ false = ap (λ (z : Name). z.is_object) (sym same) ∙ new in
      let yes : o.name.is_object ≡ true = o.made in cc

  -- what is bound is bound as before
  kind_kept : AreOne t.names → (id : ℕ) (x : Name) → table.get t.names id ≡ Some x → x.is_object ≡ false → (new : Texture) (m : ℕ) (c b : Bool) → IsOfKind c (if b then Some (default_texture t.objects c) else table.get t.objects.by_number m)
      → IsOfKind c (if b then Some (default_texture t.objects c) else table.get (table.insert t.objects.by_number x.number new) m)
  kind_kept one id x there fresh new m c true kind = kind
  kind_kept one id x there fresh new m c false kind = elim (test m x.number) [
    | inl p ↦ absurd (by_found (table.get t.objects.by_number x.number) refl (subst (λ (k : ℕ). IsOfKind c (table.get t.objects.by_number k)) p.0 kind))
    | inr p ↦ subst (IsOfKind c) (sym (get-insert_other t.objects.by_number x.number new m p.0)) kind
  ]
    where
      by_found : (o : Option Texture) → table.get t.objects.by_number x.number ≡ o → IsOfKind c o → ⊥
      by_found None e k = k
      by_found (Some y) e k = unowned one id x there fresh y e

  pub sound_made : AreOne t.names → (id : ℕ) (x : Name) → table.get t.names id ≡ Some x → x.is_object ≡ false → (cube : Bool)
      → AreTexturesSound (record t { names = made_object t.names id x; objects = record t.objects { by_number = table.insert t.objects.by_number x.number (new_texture cube) } })
  sound_made one id x there new cube = record {
    made = λ i y e is. elim (found-insert t.names id (record { number = x.number; is_object = true }) i y e) [
      | inl p ↦ subst (λ (z : Name). IsSome (table.get (table.insert t.objects.by_number x.number (new_texture cube)) z.number)) p.1 (some_texture _ (new_texture cube) (get-insert_here t.objects.by_number x.number (new_texture cube)))
      | inr p ↦ subst (λ (o : Option Texture). IsSome o) (sym (get-insert_other t.objects.by_number x.number (new_texture cube) y.number (λ same. p.0 (one i id y x p.1 there same)))) (s.made i y p.1 is)
    ];
    sized = λ n y e. elim (found-insert t.objects.by_number x.number (new_texture cube) n y e) [
      | inl p ↦ subst HasLevels p.1 (new_has_levels cube)
      | inr p ↦ s.sized n y p.1
    ];
    flat_sized = s.flat_sized;
    cube_sized = s.cube_sized;
    flat_kind = s.flat_kind;
    cube_kind = s.cube_kind;
    bound = λ unit c. kind_kept one id x there new (new_texture cube) (bound_in (unit_at t.objects.units unit) c) c (bound_in (unit_at t.objects.units unit) c == 0) (s.bound unit c);
    owned = λ n y e. elim (found-insert t.objects.by_number x.number (new_texture cube) n y e) [
      | inl p ↦ record { id = id; name = record { number = x.number; is_object = true }; there = get-insert_here t.names id _; number_is = sym p.0; made = refl }
      | inr p ↦ let o = s.owned n y p.1 in record {
        id = o.id;
        name = o.name;
        there = get-insert_other t.names id _ o.id (λ is. p.0 (sym o.number_is ∙ ap (λ (z : Name). z.number) (same_name o.name x (sym o.there ∙ ap (table.get t.names) is ∙ there)))) ∙ o.there;
        number_is = o.number_is;
        made = o.made;
      }
    ];
  }

  -- what a name in use is bound as
  pub sound_object : AreOne t.names → (id : ℕ) (x : Name) → table.get t.names id ≡ Some x → (cube : Bool) → AreTexturesSound (with_object t id cube x)
  sound_object one id x there cube = elim x.is_object as (λ b. x.is_object ≡ b → AreTexturesSound (if b then t else record t { names = made_object t.names id x; objects = record t.objects { by_number = table.insert t.objects.by_number x.number (new_texture cube) } })) [
    | true ↦ λ e. s
    | false ↦ λ e. sound_made one id x there e cube
  ] refl

  -- the object of a name that was there, of this target
  kind_there : (cube : Bool) (n : ℕ) (o : Option Texture) → IsSome o → has_other_target o cube ≡ false → IsOfKind cube o
  kind_there cube n None there fair = let f : IsSome {T = Texture} None = there in absurd (cc)
  kind_there cube n (Some y) there fair = alike y.cube cube fair
    where
      alike : (a b : Bool) → is_other a b ≡ false → a ≡ b
      alike true true h = refl
      alike true false h = absurd (cc)
      alike false true h = absurd (cc)
      alike false false h = refl

  kind_by : (cube b : Bool) (o : Option Texture) → IsOfKind cube o → IsOfKind cube (if b then Some (default_texture t.objects cube) else o)
  kind_by cube true o kind = default_kind cube
  kind_by cube false o kind = kind

  object_kind : (id : ℕ) (x : Name) → table.get t.names id ≡ Some x → (cube : Bool) → is_of_other_target t cube (Some x) ≡ false → IsOfKind cube (texture_at (with_object t id cube x).objects x.number cube)
  object_kind id x there cube fair = elim x.is_object as (λ b. x.is_object ≡ b → (b && has_other_target (table.get t.objects.by_number x.number) cube) ≡ false
      → IsOfKind cube (texture_at (if b then t else record t { names = made_object t.names id x; objects = record t.objects { by_number = table.insert t.objects.by_number x.number (new_texture cube) } }).objects x.number cube)) [
        | true ↦ λ e fair. kind_by cube (x.number == 0) (table.get t.objects.by_number x.number) (kind_there cube x.number (table.get t.objects.by_number x.number) (s.made id x there e) fair)
        | false ↦ λ e fair. kind_by cube (x.number == 0) (table.get (table.insert t.objects.by_number x.number (new_texture cube)) x.number) (subst (IsOfKind cube) (sym (get-insert_here t.objects.by_number x.number (new_texture cube))) refl)
      ] refl fair

module _ (t : TextureTables) (s : AreTexturesSound t) (one : AreOne t.names) where
  -- BindTexture
  pub sound_bound : (cube : Bool) (id : ℕ) (found : Option Name) → table.get t.names id ≡ found → is_of_other_target t cube found ≡ false → AreTexturesSound (bind_texture_by t cube id found)
  sound_bound cube id None there fair = sound_binding t s cube 0 (default_kind t s cube)
  sound_bound cube id (Some x) there fair = sound_binding (with_object t id cube x) (sound_object t s one id x there cube) cube x.number (object_kind t s id x there cube fair)

  unbound_kind : (number m : ℕ) (cube b : Bool) → (m == number) ≡ b → IsOfKind cube (texture_at t.objects m cube) → IsOfKind cube (texture_at (record t.objects { by_number = table.remove t.objects.by_number number }) (if b then 0 else m) cube)
  unbound_kind number m cube true is kind = default_kind t s cube
  unbound_kind number m cube false is kind = by_zero (m == 0) kind
    where
      apart : m ≢ number
      apart e = elim (eqb_tells m number) [ inl p ↦ let yes : (m == number) ≡ true = p.0 in let no : (m == number) ≡ false = is in cc | inr p ↦ p.1 e ]

      by_zero : (z : Bool) → IsOfKind cube (if z then Some (default_texture t.objects cube) else table.get t.objects.by_number m)
          → IsOfKind cube (if z then Some (default_texture t.objects cube) else table.get (table.remove t.objects.by_number number) m)
      by_zero true k = k
      by_zero false k = subst (IsOfKind cube) (sym (get-remove_other t.objects.by_number number m apart)) k

  -- what is bound behind a deletion
  abbrev IsUnitLeft : ℕ → TextureUnit → Type 0
  IsUnitLeft number u = IsUnitSound (record t.objects { by_number = table.remove t.objects.by_number number }) u

  unit_left : (number : ℕ) (u : TextureUnit) → IsUnitSound t.objects u → IsUnitLeft number (unit_unbound number u)
  unit_left number u all true = unbound_kind number u.cube true (u.cube == number) refl (all true)
  unit_left number u all false = unbound_kind number u.flat false (u.flat == number) refl (all false)

  default_unit : (number : ℕ) → IsUnitLeft number no_binding
  default_unit number true = default_kind t s true
  default_unit number false = default_kind t s false

  bound_left : (number : ℕ) (us : List TextureUnit) (k : ℕ) → ((j : ℕ) → IsUnitSound t.objects (slice_index_or us j no_binding)) → IsUnitLeft number (slice_index_or (map (unit_unbound number) us) k no_binding)
  bound_left number [] k all = default_unit number
  bound_left number (u ∷ us) zero all = unit_left number u (all 0)
  bound_left number (u ∷ us) (suc k) all = bound_left number us k (λ j. all (suc j))

  -- DeleteTextures
  pub sound_deleted : (id : ℕ) (x : Name) → table.get t.names id ≡ Some x → AreTexturesSound (without_texture t id x.number)
  sound_deleted id x there = record {
    made = λ i y e is. let p = found-remove t.names id i y e in
        subst (λ (o : Option Texture). IsSome o) (sym (get-remove_other t.objects.by_number x.number y.number (λ same. p.0 (one i id y x p.1 there same)))) (s.made i y p.1 is);
    sized = λ n y e. s.sized n y (found-remove t.objects.by_number x.number n y e).1;
    flat_sized = s.flat_sized;
    cube_sized = s.cube_sized;
    flat_kind = s.flat_kind;
    cube_kind = s.cube_kind;
    bound = λ unit. bound_left x.number t.objects.units.units unit s.bound;
    owned = λ n y e. let p = found-remove t.objects.by_number x.number n y e in let o = s.owned n y p.1 in record {
      id = o.id;
      name = o.name;
      there = get-remove_other t.names id o.id (λ is. p.0 (sym o.number_is ∙ ap (λ (z : Name). z.number) (same_name o.name x (sym o.there ∙ ap (table.get t.names) is ∙ there)))) ∙ o.there;
      number_is = o.number_is;
      made = o.made;
    };
  }
