use Rattle.std.proofs.Common.{◌≡◌, drop}
use Rattle.std.specs.List.{list_any}
use Rattle.gl_plain.specs.subjects.Links.{conflict}
use Rattle.gl_plain.proofs.links.conflicts_with_any.Given as goal

-- the attributes ahead decide
abbrev pub invariant-loop-other : goal.invariant-loop-other
invariant-loop-other l = list_any (λ b. conflict b l.attribute) (drop l.other-index l.before) ≡ list_any (λ b. conflict b l.attribute) l.before
