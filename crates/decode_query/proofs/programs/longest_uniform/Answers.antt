use Rattle.std.proofs.Common.{◌≡◌, ℕ, List, arith, length, max, ap, ◌∙◌}
use Rattle.decode_query.proofs.Longest.{uniform_longer}
use Rattle.decode_query.proofs.programs.longest_uniform.Goals as goal

pub loop-uniform-preserved : goal.loop-uniform-preserved
loop-uniform-preserved c =
    let is : c.max-longest.result ≡ max (length c.uniform-item.result.name) c.loop-uniform.longest = c.max-longest.ensures ∙ ap (λ (bs : List ℕ). max (length bs) c.loop-uniform.longest) c.as_slice.ensures in
    (uniform_longer c.args.uniforms.now c.loop-uniform.uniform-index c.uniform-item.result _ c.loop-uniform.longest _ c.max-longest.result (omega arith) c.uniform-item.is is c.loop-uniform.invariant.0, omega (arith, is, c.loop-uniform.invariant.1, c.max-longest.ensures, c.as_slice.type_inv))
