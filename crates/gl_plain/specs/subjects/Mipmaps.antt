-- GenerateMipmap (OpenGL ES 2.0.25, section 3.7.11): the levels behind level 0 become its halves, down to one pixel.
use Prim.Native.Nat.{zero, suc}
use Rattle.std.specs.Prelude.{◌≡◌, ℕ, Bool, true, false, not, ◌+◌, ◌&&◌, if◌then◌else◌, List, [], ◌∷◌, ◌++◌, map, Option, None, Some}
use Rattle.gl_base.specs.declared.gl_enum.GlEnum.{GlEnum}
use Rattle.gl_base.specs.declared.limits.TheConstants.{LAST_LEVEL}
use Rattle.gl_plain.specs.declared.errors.GlError.{GlError}
use Rattle.gl_plain.specs.declared.errors.GlError.TheVariants.{InvalidEnum, InvalidOperation}
use Rattle.gl_plain.specs.declared.targets.AnyImage.{AnyImage}
use Rattle.gl_plain.specs.declared.targets.AnyImage.TheVariants as image
use Rattle.gl_plain.specs.declared.textures.ImagePlace.{ImagePlace}
use Rattle.gl_plain.specs.declared.textures.LevelView.{LevelView}
use Rattle.gl_plain.specs.declared.textures.Texture.{Texture}
use Rattle.gl_plain.specs.subjects.Levels.{is_texture_target, is_cube_target, face_count, with_level}
use Rattle.gl_plain.specs.subjects.Completeness.{is_power_of_two, is_alike, halved, is_last, base_level, levels_of_face, levels_behind, level_places, face_places, first_face}
use Rattle.gl_plain.specs.subjects.Textures.{TextureObjects, bound_number, bound_texture, with_texture}
use Rattle.gl_plain.specs.subjects.Targets.{Renderbuffers}
use Rattle.gl_plain.specs.subjects.Images.{Contents, all_made, counted, AreWritten}

-- level 0 of a face is as that of the first face
abbrev pub has_alike_base : LevelView → List (Option LevelView) → Bool
has_alike_base v [] = false
has_alike_base v (level ∷ levels) = is_alike v level

-- so are so many faces, from the first on
abbrev pub are_bases_alike : Texture → LevelView → ℕ → Bool
are_bases_alike x v zero = true
are_bases_alike x v (suc n) = are_bases_alike x v n && has_alike_base v (levels_of_face x n)

-- by level 0 of the first face: its sides are powers of two, and that of each face is alike
abbrev pub can_halve_by : Texture → Option LevelView → Bool
can_halve_by x None = false
can_halve_by x (Some v) = is_power_of_two v.width && is_power_of_two v.height && are_bases_alike x v (face_count x.cube)

abbrev pub can_halve : Option Texture → Bool
can_halve None = false
can_halve (Some x) = can_halve_by x (base_level x)

-- a target that is none; no level 0, sides that are no powers of two, or faces that differ
abbrev pub generate_mipmap_refusal : TextureObjects → GlEnum → Option GlError
generate_mipmap_refusal t target =
    if not (is_texture_target target) then Some InvalidEnum
    else if not (can_halve (bound_texture t (is_cube_target target))) then Some InvalidOperation else None

-- a face has the halves of an image behind it, from this level on, so many at most
abbrev pub with_halves : Texture → GlEnum → LevelView → ℕ → ℕ → Texture
with_halves x face v level zero = x
with_halves x face v level (suc n) = if is_last v then x else with_halves (with_level x face level (halved v)) face (halved v) (level + 1) n

-- so many faces have them, from this one on, rising
abbrev pub with_all_halves : Texture → LevelView → ℕ → ℕ → Texture
with_all_halves x v face zero = x
with_all_halves x v face (suc n) = with_all_halves (with_halves x (record { 0 = face }) v 1 LAST_LEVEL) v (face + 1) n

abbrev pub halves_of : Texture → Option LevelView → Texture
halves_of x None = x
halves_of x (Some v) = with_all_halves x v (first_face x.cube).0 (face_count x.cube)

abbrev pub generate_mipmap_by : TextureObjects → Bool → Option Texture → TextureObjects
generate_mipmap_by t cube None = t
generate_mipmap_by t cube (Some x) = with_texture t (bound_number t.units cube) cube (halves_of x (base_level x))

-- the texture that the active unit binds has the halves of its level 0
abbrev pub generate_mipmap_effect : TextureObjects → GlEnum → TextureObjects
generate_mipmap_effect t target = generate_mipmap_by t (is_cube_target target) (bound_texture t (is_cube_target target))

-- The images that are read, and those that are made

-- level 0 of each face, rising
abbrev pub base_places_by : ℕ → Option Texture → List ImagePlace
base_places_by number None = []
base_places_by number (Some x) = face_places number 1 (first_face x.cube).0 (face_count x.cube)

abbrev pub base_places : TextureObjects → GlEnum → List ImagePlace
base_places t target = base_places_by (bound_number t.units (is_cube_target target)) (bound_texture t (is_cube_target target))

-- how many levels stand behind level 0
abbrev pub half_count : Option LevelView → ℕ
half_count None = 0
half_count (Some v) = levels_behind v LAST_LEVEL

-- so many levels of each of so many faces, from level 1 on; faces rising from this one
abbrev pub half_places_from : ℕ → ℕ → ℕ → ℕ → List ImagePlace
half_places_from number levels face zero = []
half_places_from number levels face (suc n) = level_places number (record { 0 = face }) 1 levels ++ half_places_from number levels (face + 1) n

abbrev pub half_places_by : ℕ → Option Texture → List ImagePlace
half_places_by number None = []
half_places_by number (Some x) = half_places_from number (half_count (base_level x)) (first_face x.cube).0 (face_count x.cube)

-- the levels behind level 0 of each face, rising
abbrev pub half_places : TextureObjects → GlEnum → List ImagePlace
half_places t target = half_places_by (bound_number t.units (is_cube_target target)) (bound_texture t (is_cube_target target))

abbrev pub half_images : TextureObjects → GlEnum → List AnyImage
half_images t target = map image.Level (half_places t target)

-- they are made by the next record, at all their places
abbrev pub halved_contents : TextureObjects → GlEnum → Contents → Contents
halved_contents t target k = counted (all_made k.records k (half_images t target))

-- a driver is asked for the halves of what can be halved, and all of what is read was written
pub record IsMipmapAllowed (t : TextureObjects) (r : Renderbuffers) (k : Contents) (target : GlEnum) : Type 0 where
  pub fair : generate_mipmap_refusal t target ≡ None
  pub written : AreWritten t r k (map image.Level (base_places t target))
