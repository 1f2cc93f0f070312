use Rattle.std.proofs.Common.{◌≡◌, ◌≤◌, ◌++◌, ◌-◌, take, drop, length}
use Rattle.gl_plain.specs.subjects.Programs.{without}
use Rattle.program_mgr.proofs.program.remove_number.Given as goal

abbrev pub invariant-loop-i : goal.invariant-loop-i
invariant-loop-i l = record {
  rest : take l.i l.numbers.items ++ without (drop l.i l.numbers.items) l.number ≡ without l.fn.numbers.items l.number;
  within : l.i ≤ length l.numbers.items;
}

abbrev pub decreases-loop-i : goal.decreases-loop-i
decreases-loop-i l = length l.numbers.items - l.i
