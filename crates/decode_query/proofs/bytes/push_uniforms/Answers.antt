use Rattle.std.proofs.Common.{arith}
use Rattle.decode_query.proofs.Entries.{elements_more, uniforms_more}
use Rattle.decode_query.proofs.bytes.push_uniforms.Goals as goal

pub loop-uniform-preserved : goal.loop-uniform-preserved
loop-uniform-preserved c = (
  uniforms_more _ _ _ c.loop-uniform.location c.args.uniforms.now c.loop-uniform.uniform-index c.uniform-item.result _ (omega arith) c.uniform-item.is c.in_ok-push_uniform.ensures c.loop-uniform.invariant.0,
  elements_more c.loop-uniform.location c.args.uniforms.now c.loop-uniform.uniform-index c.uniform-item.result _ (omega arith) c.uniform-item.is c.loop-uniform.invariant.1,
)
