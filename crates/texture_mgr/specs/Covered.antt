-- The written rectangles of a texture's levels.
use Rattle.std.specs.Prelude.{◌≡◌, ℕ, Bool, true, not, ◌==◌, ◌&&◌, if◌then◌else◌, List, [], Option, None, Some, Result, Ok, Err}
use Rattle.gl_base.specs.declared.gl_enum.GlEnum.{GlEnum}
use Rattle.gl_base.specs.declared.rect.Rect.{Rect}
use Rattle.gl_base.specs.Rects.{IsIn, IsRest, covers, whole}
use Rattle.gl_plain.specs.declared.errors.GlError.{GlError}
use Rattle.gl_plain.specs.declared.errors.GlError.TheVariants.{InvalidEnum}
use Rattle.gl_plain.specs.declared.textures.LevelView.{LevelView}
use Rattle.gl_plain.specs.subjects.Textures.{is_parameter}
use Rattle.texture_mgr.specs.declared.texture.Texture.{Texture}
use Rattle.texture_mgr.specs.Kept.{item_at, written_in, with_written}

-- what was written of the level of a face
abbrev pub cover_of : Texture → GlEnum → ℕ → Rect
cover_of x face level = written_in (item_at x.table.cube x.covers face level)

-- a level that is there is written whole
abbrev pub whole_written : (GlEnum → ℕ → Rect) → GlEnum → ℕ → Option LevelView → GlEnum → ℕ → Rect
whole_written f face level None = f
whole_written f face level (Some v) = with_written f face level (whole v.width v.height)

-- the rectangle lies in an image that is there
abbrev pub IsInLevel : Option LevelView → Rect → Type 0
IsInLevel None r = ⊥
IsInLevel (Some v) r = IsIn r v.width v.height

-- there is no image, or one with positive sides of which each place was written
abbrev pub has_all : Option LevelView → Rect → Bool
has_all None r = true
has_all (Some v) r = not (v.width == 0) && not (v.height == 0) && covers r (whole v.width v.height)

-- an image that is there is written whole
abbrev pub IsWhole : Option LevelView → Rect → Type 0
IsWhole None r = Unit {0}
IsWhole (Some v) r = r ≡ whole v.width v.height

-- the rectangles are what was not written of an image that is there
abbrev pub IsRestOf : Option LevelView → Rect → List Rect → Type 0
IsRestOf None r rs = rs ≡ []
IsRestOf (Some v) r rs = IsRest v.width v.height r rs

-- a parameter is set, or refused
abbrev pub parameter_answer : GlEnum → GlEnum → Result (Unit {0}) GlError
parameter_answer pname value = if is_parameter pname value then Ok tt else Err InvalidEnum
