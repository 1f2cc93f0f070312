-- Textures, their parameters, and the texture units (OpenGL ES 2.0.25, section 3.7). The service and the driver have one type of tables: the
-- service's by the client's names, the driver's by its own. Objects and bindings go by number, which is the driver's name; 0 is the default
-- texture of its target.
use Rattle.std.specs.Prelude.{◌≡◌, ◌≤◌, ◌⊎◌, ℕ, pos, Bool, true, false, not, ◌+◌, ◌-◌, ◌*◌, ◌==◌, ◌&&◌, ◌||◌, nat_le, if◌then◌else◌, List, [], ◌∷◌, length, map, replicate, slice_index_or, slice_set, Option, None, Some, IsSome, IsTrue}
use Rattle.std.specs.Ordering.{nat_cmp}
use Rattle.std.specs.FinMap as table
use Rattle.std.specs.FinSet as set
use Rattle.gl_base.specs.declared.gl_enum.GlEnum.{GlEnum}
use Rattle.gl_base.specs.declared.limits.TheConstants.{LAST_LEVEL, SIDE_LIMIT}
use Rattle.gl_base.specs.declared.texture_enums.TheConstants.{TEXTURE0, TEXTURE7, TEXTURE_MIN_FILTER, TEXTURE_MAG_FILTER, TEXTURE_WRAP_S, TEXTURE_WRAP_T, NEAREST, LINEAR, NEAREST_MIPMAP_NEAREST, LINEAR_MIPMAP_NEAREST, NEAREST_MIPMAP_LINEAR, LINEAR_MIPMAP_LINEAR, REPEAT, CLAMP_TO_EDGE, MIRRORED_REPEAT}
use Rattle.gl_plain.specs.declared.objects.Name.{Name}
use Rattle.gl_plain.specs.declared.textures.Texture.{Texture}
use Rattle.gl_plain.specs.declared.textures.TextureUnit.{TextureUnit}
use Rattle.gl_plain.specs.declared.textures.TextureUnits.{TextureUnits}
use Rattle.gl_plain.specs.declared.textures.ImagePlace.{ImagePlace}
use Rattle.gl_plain.specs.declared.textures.LevelView.{LevelView}
use Rattle.gl_plain.specs.declared.errors.GlError.{GlError}
use Rattle.gl_plain.specs.declared.errors.GlError.TheVariants.{InvalidEnum, InvalidOperation, OutOfMemory}
use Rattle.gl_plain.specs.declared.driver_calls.DriverCall.{DriverCall}
use Rattle.gl_plain.specs.declared.driver_calls.DriverCall.TheVariants.{Object}
use Rattle.gl_plain.specs.declared.driver_calls.ObjectDriver.TheVariants as calls
use Rattle.gl_plain.specs.subjects.Names.{Names, named, made_object, unbound, IsLive, gen_refusal, is_bind_over_limit, NamesAgree}
use Rattle.gl_plain.specs.subjects.Levels.{is_texture_target, is_cube_target, is_cube_face, face_count, new_texture, level_in}

-- the textures by number, the default textures of both targets, and the units
pub record TextureObjects : Type 0 where
  pub by_number : table.FinMap nat_cmp Texture
  pub flat : Texture
  pub cube : Texture
  pub units : TextureUnits

-- the textures, and their names
pub record TextureTables : Type 0 where
  pub names : table.FinMap nat_cmp Name
  pub objects : TextureObjects

-- a unit that binds the default textures
abbrev pub no_binding : TextureUnit
no_binding = record { flat = 0; cube = 0 }

abbrev pub no_bindings : TextureUnits
no_bindings = record { units = replicate 8 no_binding; active = 0 }

-- no texture name is in use, and all units bind the default textures
abbrev pub no_textures : TextureTables
no_textures = record { names = table.empty; objects = record { by_number = table.empty; flat = new_texture false; cube = new_texture true; units = no_bindings } }

-- a unit
abbrev pub unit_at : TextureUnits → ℕ → TextureUnit
unit_at u unit = slice_index_or u.units unit no_binding

-- the number that a unit binds: of a cube map, or of a flat texture
abbrev pub bound_in : TextureUnit → Bool → ℕ
bound_in unit true = unit.cube
bound_in unit false = unit.flat

-- the number that the active unit binds
abbrev pub bound_number : TextureUnits → Bool → ℕ
bound_number u cube = bound_in (unit_at u u.active) cube

-- the unit with another binding
abbrev pub with_number : TextureUnit → Bool → ℕ → TextureUnit
with_number unit true number = record unit { cube = number }
with_number unit false number = record unit { flat = number }

-- the active unit binds this number
abbrev pub with_bound : TextureUnits → Bool → ℕ → TextureUnits
with_bound u cube number = record u { units = slice_set u.units u.active (with_number (unit_at u u.active) cube number) }

-- the default texture
abbrev pub default_texture : TextureObjects → Bool → Texture
default_texture t true = t.cube
default_texture t false = t.flat

-- the texture of a number, or the default one of 0, if it is there
abbrev pub texture_at : TextureObjects → ℕ → Bool → Option Texture
texture_at t number cube = if number == 0 then Some (default_texture t cube) else table.get t.by_number number

abbrev pub with_default : TextureObjects → Bool → Texture → TextureObjects
with_default t true x = record t { cube = x }
with_default t false x = record t { flat = x }

-- that texture is replaced
abbrev pub with_texture : TextureObjects → ℕ → Bool → Texture → TextureObjects
with_texture t number cube x = if number == 0 then with_default t cube x else record t { by_number = table.insert t.by_number number x }

-- the texture that the active unit binds
abbrev pub bound_texture : TextureObjects → Bool → Option Texture
bound_texture t cube = texture_at t (bound_number t.units cube) cube

-- an image of the texture that the active unit binds to the target of the face
abbrev pub place_bound : TextureObjects → GlEnum → ℕ → ImagePlace
place_bound t face level = record { texture = bound_number t.units (is_cube_face face); face = face; level = level }

-- the image at a place, if it is there
abbrev pub level_at : TextureObjects → ImagePlace → Option LevelView
level_at t place = level_in (texture_at t place.texture (is_cube_face place.face)) place.face place.level

-- GenTextures

abbrev pub gen_textures_refusal : TextureTables → Option GlError
gen_textures_refusal t = gen_refusal t.names (pos 1)

-- a texture name comes into use
abbrev pub gen_textures_effect : TextureTables → ℕ → ℕ → TextureTables
gen_textures_effect t id number = record t { names = named t.names id number }

-- BindTexture

-- two kinds of textures differ
abbrev pub is_other : Bool → Bool → Bool
is_other true cube = not cube
is_other false cube = cube

-- the object is a texture of the other target
abbrev pub has_other_target : Option Texture → Bool → Bool
has_other_target None cube = false
has_other_target (Some x) cube = is_other x.cube cube

abbrev pub is_of_other_target : TextureTables → Bool → Option Name → Bool
is_of_other_target t cube None = false
is_of_other_target t cube (Some x) = x.is_object && has_other_target (table.get t.objects.by_number x.number) cube

-- a target that is none; too many names; a texture whose first target was the other one
abbrev pub bind_texture_refusal : TextureTables → GlEnum → ℕ → Option GlError
bind_texture_refusal t target id =
    if not (is_texture_target target) then Some InvalidEnum
    else if is_bind_over_limit t.names id then Some OutOfMemory
    else if is_of_other_target t (is_cube_target target) (table.get t.names id) then Some InvalidOperation else None

-- the object of a name is there, with this target from its first bind on
abbrev pub with_object : TextureTables → ℕ → Bool → Name → TextureTables
with_object t id cube x =
    if x.is_object then t else record t { names = made_object t.names id x; objects = record t.objects { by_number = table.insert t.objects.by_number x.number (new_texture cube) } }

-- the active unit binds this number
abbrev pub binding : TextureTables → Bool → ℕ → TextureTables
binding t cube number = record t { objects = record t.objects { units = with_bound t.objects.units cube number } }

-- by what the table has of the name, if anything
abbrev pub bind_texture_by : TextureTables → Bool → ℕ → Option Name → TextureTables
bind_texture_by t cube id None = binding t cube 0
bind_texture_by t cube id (Some x) = binding (with_object t id cube x) cube x.number

-- the active unit binds the object of a name in use, which is made at its first bind, or the default texture for 0, which is never in use
abbrev pub bind_texture_effect : TextureTables → GlEnum → ℕ → TextureTables
bind_texture_effect t target id = bind_texture_by t (is_cube_target target) id (table.get t.names id)

-- a name to bind is 0 or live, and was not bound to the other target
pub record IsBindTextureAllowed (t : TextureTables) (target : GlEnum) (name : ℕ) : Type 0 where
  pub target_is : IsTrue (is_texture_target target)
  pub name_is : (name ≡ 0) ⊎ IsLive t.names name
  pub same_target : is_of_other_target t (is_cube_target target) (table.get t.names name) ≡ false

-- DeleteTextures

-- nothing is bound where this number was
abbrev pub unit_unbound : ℕ → TextureUnit → TextureUnit
unit_unbound number unit = record { flat = unbound number unit.flat; cube = unbound number unit.cube }

abbrev pub all_unbound : TextureUnits → ℕ → TextureUnits
all_unbound u number = record u { units = map (unit_unbound number) u.units }

-- the name of a texture and its object are there no more, and no unit binds it
abbrev pub without_texture : TextureTables → ℕ → ℕ → TextureTables
without_texture t id number = record {
  names = table.remove t.names id;
  objects = record t.objects { by_number = table.remove t.objects.by_number number; units = all_unbound t.objects.units number };
}

-- by what the table has of the name, if anything
abbrev pub delete_textures_by : TextureTables → ℕ → Option Name → TextureTables
delete_textures_by t id None = t
delete_textures_by t id (Some x) = without_texture t id x.number

-- a name in use goes with its texture; 0 is never in use
abbrev pub delete_textures_effect : TextureTables → ℕ → TextureTables
delete_textures_effect t id = delete_textures_by t id (table.get t.names id)

-- a delete of 0 or of an unused name makes no driver call
abbrev pub delete_textures_calls : Option Name → List DriverCall
delete_textures_calls None = []
delete_textures_calls (Some x) = Object (calls.DeleteTexture x.number) ∷ []

-- ActiveTexture

-- TEXTURE0 to TEXTURE7
abbrev pub active_texture_refusal : GlEnum → Option GlError
active_texture_refusal unit = if nat_le TEXTURE0.0 unit.0 && nat_le unit.0 TEXTURE7.0 then None else Some InvalidEnum

-- the number of a unit
abbrev pub unit_number : GlEnum → ℕ
unit_number unit = unit.0 - TEXTURE0.0

abbrev pub active_texture_effect : TextureObjects → ℕ → TextureObjects
active_texture_effect t unit = record t { units = record t.units { active = unit } }

-- TexParameteri

-- NEAREST or LINEAR
abbrev pub is_filter : GlEnum → Bool
is_filter value = (value.0 == NEAREST.0) || (value.0 == LINEAR.0)

-- one of the four filters of levels
abbrev pub is_mipmap_filter : GlEnum → Bool
is_mipmap_filter value =
    (value.0 == NEAREST_MIPMAP_NEAREST.0) || (value.0 == LINEAR_MIPMAP_NEAREST.0) || (value.0 == NEAREST_MIPMAP_LINEAR.0) || (value.0 == LINEAR_MIPMAP_LINEAR.0)

abbrev pub is_wrap : GlEnum → Bool
is_wrap value = (value.0 == REPEAT.0) || (value.0 == CLAMP_TO_EDGE.0) || (value.0 == MIRRORED_REPEAT.0)

-- the parameter takes this value (table 3.9)
abbrev pub is_parameter : GlEnum → GlEnum → Bool
is_parameter pname value =
    if pname.0 == TEXTURE_MIN_FILTER.0 then is_filter value || is_mipmap_filter value
    else if pname.0 == TEXTURE_MAG_FILTER.0 then is_filter value
    else if (pname.0 == TEXTURE_WRAP_S.0) || (pname.0 == TEXTURE_WRAP_T.0) then is_wrap value else false

-- a target, a parameter or a value that is none
abbrev pub tex_parameter_refusal : GlEnum → GlEnum → GlEnum → Option GlError
tex_parameter_refusal target pname value = if is_texture_target target && is_parameter pname value then None else Some InvalidEnum

abbrev pub with_parameter : Texture → GlEnum → GlEnum → Texture
with_parameter x pname value =
    if pname.0 == TEXTURE_MIN_FILTER.0 then record x { min = value }
    else if pname.0 == TEXTURE_MAG_FILTER.0 then record x { mag = value }
    else if pname.0 == TEXTURE_WRAP_S.0 then record x { wrap_s = value }
    else record x { wrap_t = value }

abbrev pub tex_parameter_by : TextureObjects → Bool → GlEnum → GlEnum → Option Texture → TextureObjects
tex_parameter_by t cube pname value None = t
tex_parameter_by t cube pname value (Some x) = with_texture t (bound_number t.units cube) cube (with_parameter x pname value)

-- the texture that the active unit binds has this value
abbrev pub tex_parameter_effect : TextureObjects → GlEnum → GlEnum → GlEnum → TextureObjects
tex_parameter_effect t target pname value = tex_parameter_by t (is_cube_target target) pname value (bound_texture t (is_cube_target target))

-- What is always so

-- a texture has a place for each level of each face, and no image is too great
pub record HasLevels (x : Texture) : Type 0 where
  pub count : length x.levels ≡ face_count x.cube * (LAST_LEVEL + 1)
  pub sides : (at : ℕ) (v : LevelView) → slice_index_or x.levels at None ≡ Some v → (v.width ≤ SIDE_LIMIT) × (v.height ≤ SIDE_LIMIT)

-- a texture of this kind is there
abbrev pub IsOfKind : Bool → Option Texture → Type 0
IsOfKind cube None = ⊥
IsOfKind cube (Some x) = x.cube ≡ cube

-- an object with this number is in use
pub record IsOwned (names : Names) (n : ℕ) : Type 0 where
  pub id : ℕ
  pub name : Name
  pub there : table.get names id ≡ Some name
  pub number_is : name.number ≡ n
  pub made : name.is_object ≡ true

-- an object has a texture and a texture an object, textures have their levels, and defaults and bindings their kinds
pub record AreTexturesSound (t : TextureTables) : Type 0 where
  pub made : (id : ℕ) (name : Name) → table.get t.names id ≡ Some name → name.is_object ≡ true → IsSome (table.get t.objects.by_number name.number)
  pub owned : (n : ℕ) (x : Texture) → table.get t.objects.by_number n ≡ Some x → IsOwned t.names n
  pub sized : (n : ℕ) (x : Texture) → table.get t.objects.by_number n ≡ Some x → HasLevels x
  pub flat_sized : HasLevels t.objects.flat
  pub cube_sized : HasLevels t.objects.cube
  pub flat_kind : t.objects.flat.cube ≡ false
  pub cube_kind : t.objects.cube.cube ≡ true
  pub bound : (unit : ℕ) (cube : Bool) → IsOfKind cube (texture_at t.objects (bound_in (unit_at t.objects.units unit) cube) cube)

-- names agree, objects, default textures and units are the same, and they are sound
pub record TexturesAgree (w d : TextureTables) (given : set.FinSet nat_cmp) : Type 0 where
  pub names : NamesAgree w.names d.names given
  pub objects : w.objects ≡ d.objects
  pub sound : AreTexturesSound w
