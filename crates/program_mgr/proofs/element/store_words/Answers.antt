use Rattle.std.proofs.Common.{◌∙◌, ap, arith}
use Rattle.gl_plain.specs.subjects.Uniforms.{as_stored}
use Rattle.program_mgr.proofs.Given.{stored_more}
use Rattle.program_mgr.proofs.element.store_words.Goals as goal

pub loop-i-preserved : goal.loop-i-preserved
loop-i-preserved c = stored_more (as_stored c.args.uniform c.args.kind) c.loop-i.values c.args.bytes.now c.loop-i.i c.as_stored.result (omega arith) (c.as_stored.ensures ∙ ap (as_stored c.args.uniform c.args.kind) c.word.ensures) c.loop-i.invariant
