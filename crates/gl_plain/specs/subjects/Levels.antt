-- Textures as objects, and where their images stand (OpenGL ES 2.0.25, sections 3.7.1 and 3.7.12).
use Rattle.std.specs.Prelude.{ℕ, Bool, true, false, ◌+◌, ◌-◌, ◌*◌, ◌==◌, ◌&&◌, ◌||◌, nat_le, if◌then◌else◌, replicate, slice_index_or, slice_set, Option, None, Some}
use Rattle.gl_base.specs.declared.gl_enum.GlEnum.{GlEnum}
use Rattle.gl_base.specs.declared.limits.TheConstants.{LAST_LEVEL}
use Rattle.gl_base.specs.declared.texture_enums.TheConstants.{TEXTURE_2D, TEXTURE_CUBE_MAP, TEXTURE_CUBE_MAP_POSITIVE_X, TEXTURE_CUBE_MAP_NEGATIVE_Z, NEAREST_MIPMAP_LINEAR, LINEAR, REPEAT}
use Rattle.gl_plain.specs.declared.textures.LevelView.{LevelView}
use Rattle.gl_plain.specs.declared.textures.Texture.{Texture}

-- TEXTURE_2D or TEXTURE_CUBE_MAP
abbrev pub is_texture_target : GlEnum → Bool
is_texture_target target = (target.0 == TEXTURE_2D.0) || (target.0 == TEXTURE_CUBE_MAP.0)

-- one of the six faces of a cube map
abbrev pub is_cube_face : GlEnum → Bool
is_cube_face face = nat_le TEXTURE_CUBE_MAP_POSITIVE_X.0 face.0 && nat_le face.0 TEXTURE_CUBE_MAP_NEGATIVE_Z.0

-- the target of an image: TEXTURE_2D or a face
abbrev pub is_image_target : GlEnum → Bool
is_image_target face = (face.0 == TEXTURE_2D.0) || is_cube_face face

-- the target is that of cube maps
abbrev pub is_cube_target : GlEnum → Bool
is_cube_target target = target.0 == TEXTURE_CUBE_MAP.0

-- a cube map has six faces, and a flat texture one image
abbrev pub face_count : Bool → ℕ
face_count true = 6
face_count false = 1

-- the face is one of such a texture
abbrev pub suits : Bool → GlEnum → Bool
suits true face = is_cube_face face
suits false face = face.0 == TEXTURE_2D.0

-- faces are counted from 0
abbrev pub face_number : GlEnum → ℕ
face_number face = if face.0 == TEXTURE_2D.0 then 0 else face.0 - TEXTURE_CUBE_MAP_POSITIVE_X.0

-- where a level stands in the list of all levels
abbrev pub level_index : GlEnum → ℕ → ℕ
level_index face level = face_number face * (LAST_LEVEL + 1) + level

-- the image of a level on a face, if it is there
abbrev pub level_of : Texture → GlEnum → ℕ → Option LevelView
level_of x face level = if suits x.cube face && nat_le level LAST_LEVEL then slice_index_or x.levels (level_index face level) None else None

abbrev pub level_in : Option Texture → GlEnum → ℕ → Option LevelView
level_in None face level = None
level_in (Some x) face level = level_of x face level

-- a level on a face has another image
abbrev pub with_level : Texture → GlEnum → ℕ → LevelView → Texture
with_level x face level v = record x { levels = slice_set x.levels (level_index face level) (Some v) }

-- a texture opens with no images, NEAREST_MIPMAP_LINEAR and LINEAR as its filters, and coordinates that repeat (table 6.8)
abbrev pub new_texture : Bool → Texture
new_texture cube = record {
  cube = cube;
  min = NEAREST_MIPMAP_LINEAR;
  mag = LINEAR;
  wrap_s = REPEAT;
  wrap_t = REPEAT;
  levels = replicate (face_count cube * (LAST_LEVEL + 1)) None;
}
