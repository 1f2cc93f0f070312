use Rattle.std.proofs.Common.{◌≡◌, ℕ, List, arith, length, max, ap, ◌∙◌}
use Rattle.decode_query.proofs.Longest.{attribute_longer}
use Rattle.decode_query.proofs.programs.longest_attribute.Goals as goal

pub loop-attribute-preserved : goal.loop-attribute-preserved
loop-attribute-preserved c =
    let is : c.max-longest.result ≡ max (length c.attribute-item.result.name) c.loop-attribute.longest = c.max-longest.ensures ∙ ap (λ (bs : List ℕ). max (length bs) c.loop-attribute.longest) c.as_slice.ensures in
    (attribute_longer c.args.attributes.now c.loop-attribute.attribute-index c.attribute-item.result _ c.loop-attribute.longest _ c.max-longest.result (omega arith) c.attribute-item.is is c.loop-attribute.invariant.0, omega (arith, is, c.loop-attribute.invariant.1, c.max-longest.ensures, c.as_slice.type_inv))
