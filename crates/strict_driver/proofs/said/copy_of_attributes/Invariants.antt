-- The copies are those of the attributes so far.
use Rattle.std.proofs.Common.{◌≡◌, take}
use Rattle.strict_driver.proofs.said.copy_of_attributes.Given as goal

abbrev pub invariant-loop-attribute : goal.invariant-loop-attribute
invariant-loop-attribute l = l.copies ≡ take l.attribute-index l.attributes
