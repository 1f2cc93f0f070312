use Rattle.std.proofs.Common.{◌≡◌, ℕ, ◌<◌, ◌^◌}
use Rattle.gl_plain.proofs.names.name_of.Given as goal
use Rattle.std.specs.List.{All}
use Rattle.gl_plain.specs.declared.objects.Name.{Name}
use Rattle.gl_plain.specs.subjects.Names as d

abbrev pub invariant-loop-id : goal.invariant-loop-id
invariant-loop-id l = (d.name_of l.fn.names l.fn.number ≡ d.name_among l.id-iterator l.fn.number) × All (λ (e : ℕ × Name). e.0 < 2 ^ 32) l.id-iterator
