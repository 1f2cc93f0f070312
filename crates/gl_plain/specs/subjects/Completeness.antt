-- Whether a texture can be sampled (OpenGL ES 2.0.25, sections 3.7.10 and 3.8.2), and which of its images are.
use Prim.Native.Nat.{zero, suc}
use Rattle.std.specs.Prelude.{ℕ, Bool, true, false, not, ◌+◌, ◌*◌, ◌/◌, ◌==◌, ◌&&◌, ◌||◌, max, if◌then◌else◌, List, [], ◌∷◌, ◌++◌, take, drop, slice_index_or, Option, None, Some, count_ones}
use Rattle.gl_base.specs.declared.gl_enum.GlEnum.{GlEnum}
use Rattle.gl_base.specs.declared.limits.TheConstants.{LAST_LEVEL}
use Rattle.gl_base.specs.declared.texture_enums.TheConstants.{TEXTURE_2D, TEXTURE_CUBE_MAP_POSITIVE_X, NEAREST, LINEAR, CLAMP_TO_EDGE}
use Rattle.gl_plain.specs.declared.textures.LevelView.{LevelView}
use Rattle.gl_plain.specs.declared.textures.ImagePlace.{ImagePlace}
use Rattle.gl_plain.specs.declared.textures.Texture.{Texture}
use Rattle.gl_plain.specs.subjects.Levels.{face_count}

-- a power of two has one bit
abbrev pub is_power_of_two : ℕ → Bool
is_power_of_two n = count_ones n == 1

-- the other four values of the minification filter use all levels (section 3.7.7)
abbrev pub uses_mipmaps : GlEnum → Bool
uses_mipmaps min = not ((min.0 == NEAREST.0) || (min.0 == LINEAR.0))

-- an image has these sides, this format and this type
abbrev pub is_alike : LevelView → Option LevelView → Bool
is_alike v None = false
is_alike v (Some other) = (other.width == v.width) && (other.height == v.height) && (other.format.0 == v.format.0) && (other.kind.0 == v.kind.0)

-- an image of half the sides, of which none is below 1
abbrev pub halved : LevelView → LevelView
halved v = record v { width = max 1 (v.width / 2); height = max 1 (v.height / 2) }

-- one pixel, which is not halved again
abbrev pub is_last : LevelView → Bool
is_last v = (v.width == 1) && (v.height == 1)

-- behind an image stand its halves, down to one pixel
abbrev pub has_chain : LevelView → List (Option LevelView) → Bool
has_chain v [] = is_last v
has_chain v (level ∷ levels) = is_last v || (is_alike (halved v) level && has_chain (halved v) levels)

-- the levels of a face, from 0 on
abbrev pub levels_of_face : Texture → ℕ → List (Option LevelView)
levels_of_face x face = take (LAST_LEVEL + 1) (drop (face * (LAST_LEVEL + 1)) x.levels)

-- a face has level 0 as the first face has it, and its halves where they are used
abbrev pub is_face_complete : Texture → LevelView → List (Option LevelView) → Bool
is_face_complete x v [] = false
is_face_complete x v (level ∷ levels) = is_alike v level && (not (uses_mipmaps x.min) || has_chain v levels)

-- so many faces are, from the first on
abbrev pub are_faces_complete : Texture → LevelView → ℕ → Bool
are_faces_complete x v zero = true
are_faces_complete x v (suc n) = are_faces_complete x v n && is_face_complete x v (levels_of_face x n)

-- sides that are no powers of two want coordinates that stop at the edge, and one level (section 3.8.2)
abbrev pub suits_sides : Texture → LevelView → Bool
suits_sides x v =
    (is_power_of_two v.width && is_power_of_two v.height)
    || ((x.wrap_s.0 == CLAMP_TO_EDGE.0) && (x.wrap_t.0 == CLAMP_TO_EDGE.0) && not (uses_mipmaps x.min))

-- by level 0 of the first face, which has positive sides
abbrev pub is_complete_by : Texture → Option LevelView → Bool
is_complete_by x None = false
is_complete_by x (Some v) = not (v.width == 0) && not (v.height == 0) && are_faces_complete x v (face_count x.cube) && suits_sides x v

-- level 0 of the first face
abbrev pub base_level : Texture → Option LevelView
base_level x = slice_index_or x.levels 0 None

abbrev pub is_complete : Texture → Bool
is_complete x = is_complete_by x (base_level x)

-- The images that are sampled of a complete texture

-- how many levels stand behind an image, down to one pixel, of so many that may
abbrev pub levels_behind : LevelView → ℕ → ℕ
levels_behind v zero = 0
levels_behind v (suc n) = if is_last v then 0 else 1 + levels_behind (halved v) n

-- level 0, and those behind it where they are used
abbrev pub sampled_levels : Texture → Option LevelView → ℕ
sampled_levels x None = 0
sampled_levels x (Some v) = if uses_mipmaps x.min then 1 + levels_behind v LAST_LEVEL else 1

-- so many levels of a face, rising from this one on
abbrev pub level_places : ℕ → GlEnum → ℕ → ℕ → List ImagePlace
level_places number face level zero = []
level_places number face level (suc n) = record { texture = number; face = face; level = level } ∷ level_places number face (level + 1) n

-- so many levels of each of so many faces, rising from this face on
abbrev pub face_places : ℕ → ℕ → ℕ → ℕ → List ImagePlace
face_places number levels face zero = []
face_places number levels face (suc n) = level_places number (record { 0 = face }) 0 levels ++ face_places number levels (face + 1) n

-- the first face of a texture
abbrev pub first_face : Bool → GlEnum
first_face true = TEXTURE_CUBE_MAP_POSITIVE_X
first_face false = TEXTURE_2D

-- the images of the texture with this number: faces rising, and of each the levels rising
abbrev pub sampled_places : ℕ → Texture → List ImagePlace
sampled_places number x = face_places number (sampled_levels x (base_level x)) (first_face x.cube).0 (face_count x.cube)
