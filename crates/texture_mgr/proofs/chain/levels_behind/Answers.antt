use Rattle.std.proofs.Common.{◌+◌, ◌-◌, ap, sym, ◌∙◌}
use Rattle.gl_base.specs.declared.limits.TheConstants.{LAST_LEVEL}
use Rattle.gl_plain.specs.subjects.Completeness.{levels_behind}
use Rattle.texture_mgr.proofs.LevelsBehind.{ended, one_more}
use Rattle.texture_mgr.proofs.chain.levels_behind.Goals as goal

pub loop-level-preserved : goal.loop-level-preserved
loop-level-preserved c =
    ap (λ v. c.loop-level.level + 1 + levels_behind v (LAST_LEVEL - (c.loop-level.level + 1))) c.halved-last.ensures
    ∙ one_more c.loop-level.last c.loop-level.level LAST_LEVEL _ c.loop-level-test.true c.loop-level.invariant (sym c.is_last.ensures ∙ c.if-is_last.false)

pub returns-then-is_last-clause-levels : goal.returns-then-is_last-clause-levels
returns-then-is_last-clause-levels c = ended c.loop-level.last c.loop-level.level LAST_LEVEL _ c.loop-level-test.true c.loop-level.invariant (sym c.is_last.ensures ∙ c.if-is_last.true)
