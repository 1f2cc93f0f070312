-- What is kept of the levels of a texture, and what was written of each.
use Rattle.std.specs.Prelude.{◌≡◌, ℕ, Bool, true, false, ◌+◌, ◌*◌, ◌==◌, ◌&&◌, nat_le, if◌then◌else◌, List, length, slice_index_or, Option, None, Some}
use Rattle.gl_base.specs.declared.gl_enum.GlEnum.{GlEnum}
use Rattle.gl_base.specs.declared.limits.TheConstants.{LAST_LEVEL}
use Rattle.gl_base.specs.declared.rect.Rect.{Rect}
use Rattle.gl_base.specs.Rects.{whole}
use Rattle.image_cover.specs.declared.cover.Cover.{Cover}
use Rattle.gl_plain.specs.declared.textures.LevelView.{LevelView}
use Rattle.gl_plain.specs.subjects.Images.{no_rect}
use Rattle.gl_plain.specs.subjects.Levels.{suits, face_count, level_index}

-- what such a texture has at a level of a face, if it has such a place
abbrev pub item_at : {X : Type 0} → Bool → List (Option X) → GlEnum → ℕ → Option X
item_at cube items face level = if suits cube face && nat_le level LAST_LEVEL then slice_index_or items (level_index face level) None else None

-- a level that is there has a cover of its sides, and one that is not has none
abbrev pub is_cover_of : Option LevelView → Option Cover → Bool
is_cover_of None None = true
is_cover_of None (Some c) = false
is_cover_of (Some v) None = false
is_cover_of (Some v) (Some c) = (c.width == v.width) && (c.height == v.height)

-- what is written of a new image: all or nothing
abbrev pub first_written : Bool → LevelView → Rect
first_written written v = if written then whole v.width v.height else no_rect

-- the written rectangle, if there is an image
abbrev pub written_in : Option Cover → Rect
written_in None = no_rect
written_in (Some c) = c.written

-- nothing was written of any
abbrev pub none_written : GlEnum → ℕ → Rect
none_written face level = no_rect

-- the written rectangle of one level is another
abbrev pub with_written : (GlEnum → ℕ → Rect) → GlEnum → ℕ → Rect → GlEnum → ℕ → Rect
with_written f face level r other at = if (other.0 == face.0) && (at == level) then r else f other at

-- such a texture has a place for each level of each face, and each level its cover
pub record HasCovers (cube : Bool) (levels : List (Option LevelView)) (covers : List (Option Cover)) : Type 0 where
  pub places : length levels ≡ face_count cube * (LAST_LEVEL + 1)
  pub count : length covers ≡ length levels
  pub sides : (i : ℕ) → is_cover_of (slice_index_or levels i None) (slice_index_or covers i None) ≡ true
