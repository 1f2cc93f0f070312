-- That one more level leaves what all levels make.
use Rattle.std.proofs.Common.{◌≡◌, ◌+◌, ◌-◌, false, sym, ◌∙◌, arith}
use Rattle.gl_base.specs.declared.limits.TheConstants.{LAST_LEVEL}
use Rattle.gl_plain.specs.subjects.Completeness.{is_last}
use Rattle.strict_driver.proofs.Halves.{halves_next}
use Rattle.strict_driver.proofs.mipmaps.put_halves.Goals as goal

pub loop-level-preserved : goal.loop-level-preserved
loop-level-preserved c =
    let level = c.loop-level.level in
    let below = c.loop-level-test.true in
    let more : is_last c.loop-level.view ≡ false = sym c.is_last.ensures ∙ c.if-is_last.false in
    let left : LAST_LEVEL + 1 - level ≡ LAST_LEVEL + 1 - (level + 1) + 1 = omega arith in
    rw (c.set_level.ensures.done, c.halved-view.ensures) (sym (halves_next c.loop-level.texture c.args.face c.loop-level.view level (LAST_LEVEL + 1 - level) (LAST_LEVEL + 1 - (level + 1)) more left) ∙ c.loop-level.invariant)
