use Rattle.std.proofs.Common.{◌≡◌, drop}
use Rattle.gl_plain.specs.subjects.Programs.{all_released}
use Rattle.program_mgr.specs.Tables.{tables}
use Rattle.program_mgr.proofs.programs.Programs.release_all.Given as goal

abbrev pub invariant-loop-number : goal.invariant-loop-number
invariant-loop-number l = all_released (tables l.self) (drop l.number-index l.numbers) ≡ all_released (tables l.fn.self) l.numbers
