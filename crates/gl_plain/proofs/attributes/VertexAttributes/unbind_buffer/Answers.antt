-- That each turn of the loop takes one more attribute out of the buffer.
use Rattle.std.proofs.Common.{ap, ◌∙◌, arith, slice_set}
use Rattle.gl_plain.proofs.Edits.{written}
use Rattle.gl_plain.specs.subjects.Attributes.{outside}
use Rattle.gl_plain.proofs.attributes.VertexAttributes.unbind_buffer.Goals as goal

pub loop-index-preserved : goal.loop-index-preserved
loop-index-preserved c =
    ap (slice_set c.loop-index.self.attributes c.loop-index.index) c.outside.ensures
    ∙ written (outside c.args.object) c.args.self.now.attributes c.loop-index.self.attributes c.loop-index.index _ (omega arith) (omega arith) c.loop-index.invariant
