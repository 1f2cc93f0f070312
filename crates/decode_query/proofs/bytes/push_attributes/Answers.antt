use Rattle.std.proofs.Common.{arith}
use Rattle.decode_query.proofs.Entries.{attributes_more}
use Rattle.decode_query.proofs.bytes.push_attributes.Goals as goal

pub loop-attribute-preserved : goal.loop-attribute-preserved
loop-attribute-preserved c =
    attributes_more _ _ _ c.args.attributes.now c.loop-attribute.attribute-index c.attribute-item.result _ (omega arith) c.attribute-item.is c.in_ok-push_attribute.ensures c.loop-attribute.invariant
