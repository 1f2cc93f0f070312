-- One step of the loops that make halves: with what is left, the texture comes to the same.
use Prim.Native.Nat.{suc}
use Rattle.std.proofs.Common.{◌≡◌, ◌<◌, ℕ, ◌+◌, ◌-◌, false, if◌then◌else◌, ap, sym, ◌∙◌, arith}
use Rattle.gl_base.specs.declared.gl_enum.GlEnum.{GlEnum}
use Rattle.gl_base.specs.declared.limits.TheConstants.{LAST_LEVEL}
use Rattle.gl_base.specs.declared.rect.Rect.{Rect}
use Rattle.gl_base.specs.Rects.{whole}
use Rattle.gl_plain.specs.declared.textures.LevelView.{LevelView}
use Rattle.gl_plain.specs.declared.textures.Texture.{Texture}
use Rattle.gl_plain.specs.subjects.Levels.{with_level}
use Rattle.gl_plain.specs.subjects.Completeness.{halved, is_last}
use Rattle.gl_plain.specs.subjects.Mipmaps.{with_halves, with_all_halves}
use Rattle.texture_mgr.specs.Kept.{with_written}
use Rattle.texture_mgr.specs.Halves.{halves_written, all_halves_written}

one_less : (i n : ℕ) → i < n → n - i ≡ suc (n - (i + 1))
one_less i n within = omega arith

-- A level of a face

module _ (face : GlEnum) (v w : LevelView) (level n : ℕ) (within : level < n) (half : w ≡ halved v) (more : is_last v ≡ false) where
  pub levels_step : (x now : Texture) → now ≡ with_level x face level w → with_halves now face w (level + 1) (n - (level + 1)) ≡ with_halves x face v level (n - level)
  levels_step x now is =
      ap (λ t. with_halves t face w (level + 1) (n - (level + 1))) is
      ∙ ap (λ u. with_halves (with_level x face level u) face u (level + 1) (n - (level + 1))) half
      ∙ sym (ap (λ b. if b then x else with_halves (with_level x face level (halved v)) face (halved v) (level + 1) (n - (level + 1))) more)
      ∙ sym (ap (with_halves x face v level) (one_less level n within))

  pub written_step : (f now : GlEnum → ℕ → Rect) → now ≡ with_written f face level (whole w.width w.height)
      → halves_written now face w (level + 1) (n - (level + 1)) ≡ halves_written f face v level (n - level)
  written_step f now is =
      ap (λ t. halves_written t face w (level + 1) (n - (level + 1))) is
      ∙ ap (λ (u : LevelView). halves_written (with_written f face level (whole u.width u.height)) face u (level + 1) (n - (level + 1))) half
      ∙ sym (ap (λ b. if b then f else halves_written (with_written f face level (whole (halved v).width (halved v).height)) face (halved v) (level + 1) (n - (level + 1))) more)
      ∙ sym (ap (halves_written f face v level) (one_less level n within))

-- A face

module _ (v : LevelView) (first index count : ℕ) (within : index < count) where
  one_on : first + (index + 1) ≡ first + index + 1
  one_on = omega arith

  pub faces_step : (x now : Texture) → now ≡ with_halves x (record { 0 = first + index }) v 1 LAST_LEVEL
      → with_all_halves now v (first + (index + 1)) (count - (index + 1)) ≡ with_all_halves x v (first + index) (count - index)
  faces_step x now is =
      ap (λ t. with_all_halves t v (first + (index + 1)) (count - (index + 1))) is
      ∙ ap (λ face. with_all_halves (with_halves x (record { 0 = first + index }) v 1 LAST_LEVEL) v face (count - (index + 1))) one_on
      ∙ sym (ap (with_all_halves x v (first + index)) (one_less index count within))

  pub faces_written_step : (f now : GlEnum → ℕ → Rect) → now ≡ halves_written f (record { 0 = first + index }) v 1 LAST_LEVEL
      → all_halves_written now v (first + (index + 1)) (count - (index + 1)) ≡ all_halves_written f v (first + index) (count - index)
  faces_written_step f now is =
      ap (λ t. all_halves_written t v (first + (index + 1)) (count - (index + 1))) is
      ∙ ap (λ face. all_halves_written (halves_written f (record { 0 = first + index }) v 1 LAST_LEVEL) v face (count - (index + 1))) one_on
      ∙ sym (ap (all_halves_written f v (first + index)) (one_less index count within))
