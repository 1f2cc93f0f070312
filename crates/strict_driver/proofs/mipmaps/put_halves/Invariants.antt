-- The halves that are left make, of what was put so far, what all make of the texture as it was.
use Rattle.std.proofs.Common.{◌≡◌, ◌+◌, ◌-◌}
use Rattle.gl_base.specs.declared.limits.TheConstants.{LAST_LEVEL}
use Rattle.gl_plain.specs.subjects.Mipmaps.{with_halves}
use Rattle.strict_driver.proofs.mipmaps.put_halves.Given as goal

abbrev pub invariant-loop-level : goal.invariant-loop-level
invariant-loop-level l = with_halves l.texture l.fn.face l.view l.level (LAST_LEVEL + 1 - l.level) ≡ with_halves l.fn.texture l.fn.face l.fn.base 1 LAST_LEVEL
