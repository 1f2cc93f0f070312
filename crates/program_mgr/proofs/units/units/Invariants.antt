use Rattle.std.proofs.Common.{◌≡◌, ◌≤◌, length}
use Rattle.program_mgr.specs.Units.{uses_below}
use Rattle.program_mgr.proofs.units.units.Given as goal

abbrev pub invariant-loop-unit : goal.invariant-loop-unit
invariant-loop-unit l = record {
  so_far : l.units.items ≡ uses_below l.executable l.unit;
  few : length l.units.items ≤ l.unit;
}
