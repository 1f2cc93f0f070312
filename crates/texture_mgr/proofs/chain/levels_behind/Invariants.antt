use Rattle.std.proofs.Common.{◌≡◌, ◌+◌, ◌-◌}
use Rattle.gl_base.specs.declared.limits.TheConstants.{LAST_LEVEL}
use Rattle.gl_plain.specs.subjects.Completeness as plain
use Rattle.texture_mgr.proofs.chain.levels_behind.Given as goal

-- the levels so far, and those behind the last one
abbrev pub invariant-loop-level : goal.invariant-loop-level
invariant-loop-level l = l.level + plain.levels_behind l.last (LAST_LEVEL - l.level) ≡ plain.levels_behind l.fn.view LAST_LEVEL
