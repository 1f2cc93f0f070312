-- What is written of a texture once its levels become the halves of level 0 (OpenGL ES 2.0.25, section 3.7.11).
use Prim.Native.Nat.{zero, suc}
use Rattle.std.specs.Prelude.{ℕ, Bool, ◌+◌, if◌then◌else◌, Option, None, Some}
use Rattle.gl_base.specs.declared.gl_enum.GlEnum.{GlEnum}
use Rattle.gl_base.specs.declared.limits.TheConstants.{LAST_LEVEL}
use Rattle.gl_base.specs.declared.rect.Rect.{Rect}
use Rattle.gl_base.specs.Rects.{whole}
use Rattle.gl_plain.specs.declared.textures.LevelView.{LevelView}
use Rattle.gl_plain.specs.subjects.Completeness.{halved, is_last, first_face}
use Rattle.gl_plain.specs.subjects.Levels.{face_count}
use Rattle.texture_mgr.specs.Kept.{with_written}

-- the halves of an image on a face are whole, from this level on, so many at most
abbrev pub halves_written : (GlEnum → ℕ → Rect) → GlEnum → LevelView → ℕ → ℕ → GlEnum → ℕ → Rect
halves_written f face v level zero = f
halves_written f face v level (suc n) =
    if is_last v then f else halves_written (with_written f face level (whole (halved v).width (halved v).height)) face (halved v) (level + 1) n

-- so many faces have them, from this one on, rising
abbrev pub all_halves_written : (GlEnum → ℕ → Rect) → LevelView → ℕ → ℕ → GlEnum → ℕ → Rect
all_halves_written f v face zero = f
all_halves_written f v face (suc n) = all_halves_written (halves_written f (record { 0 = face }) v 1 LAST_LEVEL) v (face + 1) n

-- by level 0 of the first face of such a texture
abbrev pub written_by_halves : (GlEnum → ℕ → Rect) → Bool → Option LevelView → GlEnum → ℕ → Rect
written_by_halves f cube None = f
written_by_halves f cube (Some v) = all_halves_written f v (first_face cube).0 (face_count cube)
