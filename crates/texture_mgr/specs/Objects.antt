-- The textures of the service beside the tables.
use Rattle.std.specs.Prelude.{ℕ, Bool, true, false, ◌==◌, if◌then◌else◌, Option, None, Some}
use Rattle.std.specs.FinMap as map
use Rattle.gl_base.specs.declared.gl_enum.GlEnum.{GlEnum}
use Rattle.gl_base.specs.declared.rect.Rect.{Rect}
use Rattle.gl_plain.specs.declared.textures.Texture as plain
use Rattle.gl_plain.specs.declared.textures.TextureUnits.{TextureUnits}
use Rattle.gl_plain.specs.subjects.Names.{Names}
use Rattle.gl_plain.specs.subjects.Levels.{is_cube_face}
use Rattle.gl_plain.specs.subjects.Textures.{TextureObjects, TextureTables}
use Rattle.gl_plain.specs.subjects.Images.{Covers}
use Rattle.texture_mgr.specs.declared.texture.Texture.{Texture}
use Rattle.texture_mgr.specs.declared.objects.Objects.{Objects}
use Rattle.texture_mgr.specs.Kept.{none_written}
use Rattle.texture_mgr.specs.Covered.{cover_of}
use Rattle.texture_mgr.specs.MappedValues.{map_values}

abbrev pub default_in : Objects → Bool → Texture
default_in o true = o.cube
default_in o false = o.flat

-- the texture of a number, or the default one of 0, if it is there
abbrev pub texture_in : Objects → ℕ → Bool → Option Texture
texture_in o number cube = if number == 0 then Some (default_in o cube) else map.get o.by_number number

abbrev pub with_default : Objects → Bool → Texture → Objects
with_default o true x = record o { cube = x }
with_default o false x = record o { flat = x }

-- that texture is replaced
abbrev pub with_texture : Objects → ℕ → Bool → Texture → Objects
with_texture o number cube x = if number == 0 then with_default o cube x else record o { by_number = map.insert o.by_number number x }

-- a texture as tables have it
abbrev pub table_of : Texture → plain.Texture
table_of x = x.table

-- all textures as tables have them, beside the units
abbrev pub objects_of : Objects → TextureUnits → TextureObjects
objects_of o u = record { by_number = map_values table_of o.by_number; flat = o.flat.table; cube = o.cube.table; units = u }

-- the tables of textures with these names
abbrev pub tables_of : Names → Objects → TextureUnits → TextureTables
tables_of names o u = record { names = names; objects = objects_of o u }

-- what was written of a texture's levels, if it is there
abbrev pub cover_in : Option Texture → GlEnum → ℕ → Rect
cover_in None = none_written
cover_in (Some x) = cover_of x

-- what was written of each image
abbrev pub covers_of : Objects → Covers
covers_of o place = cover_in (texture_in o place.texture (is_cube_face place.face)) place.face place.level
