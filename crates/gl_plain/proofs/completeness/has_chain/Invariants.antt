use Rattle.std.proofs.Common.{◌≡◌, drop}
use Rattle.gl_plain.specs.subjects.Completeness as d
use Rattle.gl_plain.proofs.completeness.has_chain.Given as goal

abbrev pub invariant-loop-level : goal.invariant-loop-level
invariant-loop-level l = d.has_chain l.last (drop l.level-index l.levels) ≡ d.has_chain l.fn.base l.levels
