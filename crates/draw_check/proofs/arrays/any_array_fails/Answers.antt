use Rattle.std.proofs.Common.{◌∙◌, sym, arith}
use Rattle.draw_check.proofs.Locations.{passed}
use Rattle.draw_check.proofs.arrays.any_array_fails.Goals as goal

pub loop-array-preserved : goal.loop-array-preserved
loop-array-preserved c =
    passed c.loop-array.rest c.args.last c.loop-array.array-index _ c.args.arrays.now _ (omega arith) (sym c.array_fails.ensures ∙ c.if-array_fails.false) c.loop-array.invariant
