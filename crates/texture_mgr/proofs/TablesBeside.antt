-- The textures beside the tables: what tables have of them, also after one of them is replaced, made or deleted.
use Rattle.std.proofs.Common.{◌≡◌, ℕ, ◌==◌, Bool, true, false, ◌||◌, if◌then◌else◌, Option, None, Some, Result, Ok, Err, OnOk, refl, sym, ap, subst, ◌∙◌}
use Rattle.std.specs.FinMap as map
use Rattle.std.specs.Ordering.{nat_cmp}
use Rattle.gl_base.specs.declared.texture_enums.TheConstants.{TEXTURE_2D}
use Rattle.std.specs.Option.{option_map}
use Rattle.gl_base.proofs.Found.{insert-same}
use Rattle.gl_base.specs.declared.gl_enum.GlEnum.{GlEnum}
use Rattle.gl_plain.specs.declared.textures.Texture as declared
use Rattle.gl_plain.specs.declared.textures.TextureUnits.{TextureUnits}
use Rattle.gl_plain.specs.declared.textures.ImagePlace.{ImagePlace}
use Rattle.gl_plain.specs.subjects.Names.{Names, new_name}
use Rattle.gl_plain.specs.subjects.Levels.{is_cube_face, is_image_target, suits, level_of, level_in, new_texture}
use Rattle.gl_plain.specs.subjects.Textures as plain
use Rattle.gl_plain.specs.subjects.Textures.{TextureObjects, texture_at, level_at}
use Rattle.gl_plain.specs.declared.errors.GlError.{GlError}
use Rattle.gl_plain.specs.declared.errors.GlError.TheVariants.{InvalidEnum}
use Rattle.texture_mgr.specs.declared.texture.Texture.{Texture}
use Rattle.texture_mgr.specs.declared.objects.Objects.{Objects}
use Rattle.texture_mgr.specs.MappedValues.{map_values}
use Rattle.texture_mgr.specs.Objects.{default_in, texture_in, with_default, with_texture, table_of, objects_of, tables_of}
use Rattle.texture_mgr.proofs.MappedValues.{get-map_values, map_values-insert, map_values-remove}

same : {X : Type 0} (x y : X) → Some x ≡ Some y → x ≡ y
same x y e = cc

module _ (o : Objects) (u : TextureUnits) where
  default_at : (cube : Bool) → plain.default_texture (objects_of o u) cube ≡ table_of (default_in o cube)
  default_at true = refl
  default_at false = refl

  by_test : (b : Bool) (number : ℕ) (cube : Bool)
      → (if b then Some (plain.default_texture (objects_of o u) cube) else map.get (map_values table_of o.by_number) number) ≡ option_map table_of (if b then Some (default_in o cube) else map.get o.by_number number)
  by_test true number cube = ap Some (default_at cube)
  by_test false number cube = get-map_values table_of o.by_number number

  -- the texture of a number
  pub texture_at_is : (number : ℕ) (cube : Bool) → texture_at (objects_of o u) number cube ≡ option_map table_of (texture_in o number cube)
  texture_at_is number cube = by_test (number == 0) number cube

  -- and an image of it
  pub level_at_is : (place : ImagePlace) (x : Texture) → texture_in o place.texture (is_cube_face place.face) ≡ Some x → level_at (objects_of o u) place ≡ level_of x.table place.face place.level
  level_at_is place x there = ap (λ t. level_in t place.face place.level) (texture_at_is place.texture (is_cube_face place.face) ∙ ap (option_map table_of) there)

  default_now : (cube : Bool) (x : Texture) → objects_of (with_default o cube x) u ≡ plain.with_default (objects_of o u) cube x.table
  default_now true x = refl
  default_now false x = refl

  by_put : (b : Bool) (number : ℕ) (cube : Bool) (x : Texture)
      → objects_of (if b then with_default o cube x else record o { by_number = map.insert o.by_number number x }) u
      ≡ (if b then plain.with_default (objects_of o u) cube x.table else record (objects_of o u) { by_number = map.insert (map_values table_of o.by_number) number x.table })
  by_put true number cube x = default_now cube x
  by_put false number cube x = ap {B = TextureObjects} (λ m. record (objects_of o u) { by_number = m }) (map_values-insert table_of o.by_number number x)

  -- the texture is replaced there too
  pub replaced : (number : ℕ) (cube : Bool) (x : Texture) (t : declared.Texture) → x.table ≡ t → objects_of (with_texture o number cube x) u ≡ plain.with_texture (objects_of o u) number cube t
  replaced number cube x t is = by_put (number == 0) number cube x ∙ ap (plain.with_texture (objects_of o u) number cube) is

-- a texture put where it is
same_default : (t : TextureObjects) (cube : Bool) (x : declared.Texture) → plain.default_texture t cube ≡ x → plain.with_default t cube x ≡ t
same_default t true x is = ap {B = TextureObjects} (λ y. record t { cube = y }) (sym is)
same_default t false x is = ap {B = TextureObjects} (λ y. record t { flat = y }) (sym is)

same_by : (t : TextureObjects) (b : Bool) (number : ℕ) (cube : Bool) (x : declared.Texture) → (if b then Some (plain.default_texture t cube) else map.get t.by_number number) ≡ Some x
    → (if b then plain.with_default t cube x else record t { by_number = map.insert t.by_number number x }) ≡ t
same_by t true number cube x there = same_default t cube x (same _ _ there)
same_by t false number cube x there = ap {B = TextureObjects} (λ m. record t { by_number = m }) (insert-same t.by_number number x there)

-- a texture replaced by one that is the same in tables
pub unchanged : (o : Objects) (u : TextureUnits) (number : ℕ) (cube : Bool) (x now : Texture) → texture_in o number cube ≡ Some x → now.table ≡ x.table → objects_of (with_texture o number cube now) u ≡ objects_of o u
unchanged o u number cube x now there is =
    replaced o u number cube now x.table is ∙ same_by (objects_of o u) (number == 0) number cube x.table (texture_at_is o u number cube ∙ ap (option_map table_of) there)

-- the texture of a number that is known by another name
pub texture_found : (o : Objects) (u : TextureUnits) (number n2 : ℕ) (kind k2 : Bool) → number ≡ n2 → kind ≡ k2 → texture_at (objects_of o u) n2 k2 ≡ option_map table_of (texture_in o number kind)
texture_found o u number n2 kind k2 n k = texture_at_is o u n2 k2 ∙ (λ i. option_map table_of (texture_in o (sym n i) (sym k i)))

-- The texture that a unit binds

module _ (o : Objects) (u : TextureUnits) (number : ℕ) (kind cube : Bool) (n : number ≡ plain.bound_number u cube) (k : kind ≡ cube) where
  bound_is : plain.bound_texture (objects_of o u) cube ≡ option_map table_of (texture_in o number kind)
  bound_is = texture_found o u number (plain.bound_number u cube) kind cube n k

  pub bound_missing : texture_in o number kind ≡ None → plain.bound_texture (objects_of o u) cube ≡ None
  bound_missing none = bound_is ∙ ap (option_map table_of) none

  module _ (x : Texture) (there : texture_in o number kind ≡ Some x) where
    pub bound_there : plain.bound_texture (objects_of o u) cube ≡ Some x.table
    bound_there = bound_is ∙ ap (option_map table_of) there

    -- a change of it, as tables have it
    pub applied : (now : Texture) (t : declared.Texture) → now.table ≡ t → (by : Option declared.Texture → TextureObjects) → by (Some x.table) ≡ plain.with_texture (objects_of o u) (plain.bound_number u cube) cube t
        → objects_of (with_texture o number kind now) u ≡ by (plain.bound_texture (objects_of o u) cube)
    applied now t is by does =
        replaced o u number kind now t is ∙ (λ i. plain.with_texture (objects_of o u) (n i) (k i) t) ∙ sym does ∙ sym (ap by bound_there)

-- a face suits the kind of its target
pub suits_kind : (face : GlEnum) (cube : Bool) → cube ≡ is_cube_face face → is_image_target face ≡ true → suits cube face ≡ true
suits_kind face cube is fits = subst (λ b. suits b face ≡ true) (sym is) (elim (is_cube_face face) as (λ b. is_cube_face face ≡ b → ((face.0 == TEXTURE_2D.0) || b) ≡ true → suits b face ≡ true) [
  | true ↦ λ e f. e
  | false ↦ λ e f. no_other (face.0 == TEXTURE_2D.0) f
] refl fits) where
  no_other : (p : Bool) → (p || false) ≡ true → p ≡ true
  no_other true e = refl
  no_other false e = e

-- The tables after a name's object is made or deleted

module _ (names : Names) (o : Objects) (u : TextureUnits) (id number : ℕ) where
  pub tables_made : (now : Names) (m : map.FinMap nat_cmp Texture) (cube : Bool) (x : Texture) → now ≡ map.insert names id (record { number = number; is_object = true }) → m ≡ map.insert o.by_number number x → x.table ≡ new_texture cube
      → tables_of now (record o { by_number = m }) u ≡ plain.with_object (tables_of names o u) id cube (new_name number)
  tables_made now m cube x named put opens = λ i. record {
    names = named i;
    objects = record (objects_of o u) { by_number = (ap (map_values table_of) put ∙ map_values-insert table_of o.by_number number x ∙ ap (map.insert (map_values table_of o.by_number) number) opens) i };
  }

  pub tables_deleted : (now : Names) (m : map.FinMap nat_cmp Texture) (u2 : TextureUnits) → now ≡ map.remove names id → m ≡ map.remove o.by_number number → u2 ≡ plain.all_unbound u number
      → tables_of now (record o { by_number = m }) u2 ≡ plain.without_texture (tables_of names o u) id number
  tables_deleted now m u2 gone removed unbound = λ i. record {
    names = gone i;
    objects = record (objects_of o u) { by_number = (ap (map_values table_of) removed ∙ map_values-remove table_of o.by_number number) i; units = unbound i };
  }

-- what holds where a parameter is set
pub where_set : (b : Bool) (r : Result (Unit {0}) GlError) (P : Type 0) → r ≡ (if b then Ok tt else Err InvalidEnum) → b ≡ true → OnOk r P → P
where_set b r P answer fits done = subst (λ q. OnOk q P) (answer ∙ ap (λ t. if t then Ok tt else Err InvalidEnum) fits) done
