-- The faces that are left make, of what was put so far, what all make of the texture as it was.
use Rattle.std.proofs.Common.{◌≡◌, ◌+◌, ◌-◌}
use Rattle.gl_plain.specs.subjects.Mipmaps.{with_all_halves}
use Rattle.strict_driver.proofs.mipmaps.put_on_faces.Given as goal

abbrev pub invariant-loop-index : goal.invariant-loop-index
invariant-loop-index l = with_all_halves l.texture l.fn.base (l.fn.first + l.index) (l.fn.count - l.index) ≡ with_all_halves l.fn.texture l.fn.base l.fn.first l.fn.count
