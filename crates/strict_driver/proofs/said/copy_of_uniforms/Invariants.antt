-- The copies are those of the uniforms so far.
use Rattle.std.proofs.Common.{◌≡◌, take}
use Rattle.strict_driver.proofs.said.copy_of_uniforms.Given as goal

abbrev pub invariant-loop-uniform : goal.invariant-loop-uniform
invariant-loop-uniform l = l.copies ≡ take l.uniform-index l.uniforms
