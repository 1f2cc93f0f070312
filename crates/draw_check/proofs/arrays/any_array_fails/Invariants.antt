use Rattle.std.proofs.Common.{◌≡◌, drop}
use Rattle.gl_plain.specs.subjects.Draws as d
use Rattle.draw_check.proofs.arrays.any_array_fails.Given as goal

abbrev pub invariant-loop-array : goal.invariant-loop-array
invariant-loop-array l = d.any_array_fails l.rest l.last 0 (drop l.array-index l.arrays) ≡ d.any_array_fails l.used l.last 0 l.arrays
