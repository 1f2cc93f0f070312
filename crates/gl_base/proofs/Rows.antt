-- How the rows of an image lie in client memory.
use Rattle.std.proofs.Common.{◌≤◌, ℕ, ◌+◌, ◌-◌, arith}
use Rattle.std.proofs.lemmas.Nat.{div-add-mod', mod_below}
use Rattle.gl_base.specs.PixelSizes.{row_step}

-- a step is not below its row
pub row_within : (row alignment : ℕ) → 1 ≤ alignment → row ≤ row_step row alignment
row_within row alignment h = grind (arith, div-add-mod' (row + (alignment - 1)) alignment, mod_below (row + (alignment - 1)) alignment h)
