use Rattle.buffer_mgr.proofs.Greatest.{short_more}
use Rattle.buffer_mgr.proofs.indices.greatest_short.Goals as goal

pub loop-pair-preserved : goal.loop-pair-preserved
loop-pair-preserved c =
    short_more c.args.bytes.now c.loop-pair.greatest c.short_at.result _ c.loop-pair.pair _ _ c.loop-pair-test.true c.short_at.ensures c.max-greatest.ensures c.loop-pair.invariant
