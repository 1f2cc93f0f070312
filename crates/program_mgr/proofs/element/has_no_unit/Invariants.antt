use Rattle.std.proofs.Common.{◌≡◌, ◌-◌}
use Rattle.gl_plain.specs.Bytes.{words_from}
use Rattle.gl_plain.specs.subjects.Uniforms.{has_no_unit}
use Rattle.program_mgr.proofs.element.has_no_unit.Given as goal

abbrev pub invariant-loop-i : goal.invariant-loop-i
invariant-loop-i l = has_no_unit (words_from l.bytes l.i (l.count - l.i)) ≡ has_no_unit (words_from l.bytes 0 l.count)
