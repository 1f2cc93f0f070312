-- How many levels stand behind an image, counted one by one.
use Prim.Native.Nat.{suc}
use Rattle.std.proofs.Common.{◌≡◌, ◌<◌, ◌+◌, ◌-◌, ℕ, true, false, if◌then◌else◌, ap, ◌∙◌, arith}
use Rattle.gl_plain.specs.declared.textures.LevelView.{LevelView}
use Rattle.gl_plain.specs.subjects.Completeness.{halved, is_last, levels_behind}

module _ (v : LevelView) (level n all : ℕ) (within : level < n) (so_far : level + levels_behind v (n - level) ≡ all) where
  one_left : levels_behind v (n - level) ≡ (if is_last v then 0 else 1 + levels_behind (halved v) (n - (level + 1)))
  one_left = ap (levels_behind v) (let e : n - level ≡ suc (n - (level + 1)) = omega arith in e)

  -- one pixel has none behind it
  pub ended : is_last v ≡ true → level ≡ all
  ended last =
      let none : levels_behind v (n - level) ≡ 0 = one_left ∙ ap (λ b. if b then 0 else 1 + levels_behind (halved v) (n - (level + 1))) last in
      omega (arith, none, so_far)

  -- behind any other image there is its half
  pub one_more : is_last v ≡ false → level + 1 + levels_behind (halved v) (n - (level + 1)) ≡ all
  one_more last =
      let more : levels_behind v (n - level) ≡ 1 + levels_behind (halved v) (n - (level + 1)) = one_left ∙ ap (λ b. if b then 0 else 1 + levels_behind (halved v) (n - (level + 1))) last in
      omega (arith, more, so_far)
