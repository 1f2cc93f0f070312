-- The word at this place goes behind those that are kept.
use Rattle.std.proofs.Common.{arith}
use Rattle.svc_raster.proofs.Kept.{kept_more}
use Rattle.svc_raster.proofs.rules.kept_words.Goals as goal

pub loop-at-preserved : goal.loop-at-preserved
loop-at-preserved c = record {
  whole = kept_more c.rules_of-rules.result.now c.args.words.now _ _ _ c.loop-at.at _ _ _ (omega arith) c.word.ensures c.kept_word.ensures c.push.ensures.items c.loop-at.invariant.whole;
  size = omega arith;
}
