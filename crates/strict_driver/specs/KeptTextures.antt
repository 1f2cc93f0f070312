-- The textures that the tables of a driver are.
use Rattle.std.specs.Prelude.{◌≡◌, ◌≤◌, Bool, true, false, Option, None, Some}
use Rattle.gl_base.specs.declared.limits.TheConstants.{LAST_LEVEL}
use Rattle.gl_plain.specs.declared.textures.Texture.{Texture}
use Rattle.gl_plain.specs.subjects.Completeness.{base_level}
use Rattle.gl_plain.specs.subjects.Levels.{is_image_target, new_texture, with_level}
use Rattle.gl_plain.specs.subjects.Mipmaps.{halves_of}
use Rattle.gl_plain.specs.subjects.Textures.{TextureObjects, TextureTables, bound_number, bound_texture, with_parameter, with_texture}
use Rattle.strict_driver.specs.declared.textures.Change.{Change}
use Rattle.strict_driver.specs.declared.textures.Change.TheVariants.{Level, Parameter, Halves}
use Rattle.strict_driver.specs.declared.textures.Textures.{Textures}

-- the level of an image is one that textures have
abbrev pub IsChange : Change → Type 0
IsChange (Level face level view) = (is_image_target face ≡ true) × (level ≤ LAST_LEVEL)
IsChange (Parameter pname value) = Unit {0}
IsChange Halves = Unit {0}

-- the texture behind a change
abbrev pub changed : Change → Texture → Texture
changed (Level face level view) x = with_level x face level view
changed (Parameter pname value) x = with_parameter x pname value
changed Halves x = halves_of x (base_level x)

-- a default texture is as it opens until it is changed
abbrev pub default_of : Bool → Option Texture → Texture
default_of cube None = new_texture cube
default_of cube (Some x) = x

-- the textures by their names, which are their numbers, the default textures, and the units
abbrev pub textures_of : Textures → TextureTables
textures_of t = record { names = t.names.names; objects = record { by_number = t.names.objects; flat = default_of false t.flat; cube = default_of true t.cube; units = t.units } }

abbrev pub changed_by : TextureObjects → Bool → Change → Option Texture → TextureObjects
changed_by t cube change None = t
changed_by t cube change (Some x) = with_texture t (bound_number t.units cube) cube (changed change x)

-- the texture that the active unit binds is changed
abbrev pub bound_changed : TextureObjects → Bool → Change → TextureObjects
bound_changed t cube change = changed_by t cube change (bound_texture t cube)
