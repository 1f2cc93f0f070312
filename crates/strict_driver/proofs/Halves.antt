-- The halves of a texture's images, step by step.
use Rattle.std.proofs.Common.{◌≡◌, ◌<◌, ◌≤◌, ℕ, zero, suc, ◌+◌, ◌-◌, Bool, true, false, if◌then◌else◌, refl, sym, ◌∙◌, ap, arith}
use Rattle.gl_base.specs.declared.gl_enum.GlEnum.{GlEnum}
use Rattle.gl_base.specs.declared.limits.TheConstants.{LAST_LEVEL}
use Rattle.gl_plain.specs.declared.textures.LevelView.{LevelView}
use Rattle.gl_plain.specs.declared.textures.Texture.{Texture}
use Rattle.gl_plain.specs.subjects.Completeness.{halved, is_last}
use Rattle.gl_plain.specs.subjects.Levels.{with_level}
use Rattle.gl_plain.specs.subjects.Mipmaps.{with_all_halves, with_halves}

-- another image has its half behind it
pub halves_next : (x : Texture) (face : GlEnum) (v : LevelView) (level n m : ℕ) → is_last v ≡ false → n ≡ m + 1 → with_halves x face v level n ≡ with_halves (with_level x face level (halved v)) face (halved v) (level + 1) m
halves_next x face v level zero m e is = absurd (omega arith)
halves_next x face v level (suc n) m e is =
    let same : n ≡ m = omega arith in
    ap (λ b. if b then x else with_halves (with_level x face level (halved v)) face (halved v) (level + 1) n) e ∙ ap (with_halves (with_level x face level (halved v)) face (halved v) (level + 1)) same

-- one face, and then the others
pub faces_next : (x : Texture) (v : LevelView) (face n m : ℕ) → n ≡ m + 1 → with_all_halves x v face n ≡ with_all_halves (with_halves x (record { 0 = face }) v 1 LAST_LEVEL) v (face + 1) m
faces_next x v face zero m is = absurd (omega arith)
faces_next x v face (suc n) m is = let same : n ≡ m = omega arith in ap (with_all_halves (with_halves x (record { 0 = face }) v 1 LAST_LEVEL) v (face + 1)) same
