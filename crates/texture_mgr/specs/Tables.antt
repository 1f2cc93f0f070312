-- The part of the state tables that the textures are, and what was written of their images.
use Rattle.std.specs.Prelude.{ℕ, Option, None, Some}
use Rattle.gl_plain.specs.declared.textures.Texture as plain
use Rattle.gl_plain.specs.subjects.Textures.{TextureObjects, TextureTables}
use Rattle.gl_plain.specs.subjects.Images.{Covers}
use Rattle.gl_plain.specs.subjects.Completeness.{base_level, sampled_levels}
use Rattle.texture_mgr.specs.declared.textures.Textures.{Textures}
use Rattle.texture_mgr.specs.Objects.{tables_of, covers_of}

-- what the fields of a `Textures` are in the state tables
abbrev pub tables : Textures → TextureTables
tables t = tables_of t.names t.objects t.units

-- what was written of each image
abbrev pub covers : Textures → Covers
covers t = covers_of t.objects

-- the tables with other objects of the same names
abbrev pub with_objects : TextureTables → TextureObjects → TextureTables
with_objects t objects = record t { objects = objects }

-- how many levels are sampled of a texture, if it is there
abbrev pub levels_sampled : Option plain.Texture → ℕ
levels_sampled None = 0
levels_sampled (Some x) = sampled_levels x (base_level x)
