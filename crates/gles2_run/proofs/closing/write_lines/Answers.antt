use Rattle.std.proofs.Common.{◌∙◌, ◌+◌}
use Rattle.gles2_run.proofs.BlocksWritten.{one_line, all_lines, whole_front, written_front, written_front_more, gained_front_more, written_further}
use Rattle.gles2_run.proofs.closing.write_lines.Goals as goal

pub returns-in_err-push-clause-memory : goal.returns-in_err-push-clause-memory
returns-in_err-push-clause-memory g c = λ is.
    rw (all_lines g.T.Line.printed c.args.items.now (g.O.Sink.held c.args.sink.now) (g.O.Sink.held c.loop-number.sink) c.args.waiting.now c.loop-number.waiting c.loop-number.number, c.in_err-push.ensures.err)
    (written_front_more _ _ _ _ _ (whole_front _ _ _ _ c.loop-number.invariant.so_far))

pub returns-in_err-write_block-clause-part : goal.returns-in_err-write_block-clause-part
returns-in_err-write_block-clause-part g c = λ is.
    let so_far = one_line g.T.Line.printed c.args.items.now _ _ c.args.waiting.now c.loop-number.waiting c.loop-number.number c.index-items-number.result c.loop-number-test.true c.index-items-number.is c.loop-number.invariant.so_far in
    let part = rw c.in_ok-push.ensures.ok at c.in_err-write_block.ensures.part in
    rw (all_lines g.T.Line.printed c.args.items.now (g.O.Sink.held c.args.sink.now) (g.O.Sink.held c.loop-number.sink) c.args.waiting.now c.loop-number.waiting (c.loop-number.number + 1))
    (gained_front_more _ _ _ _ (written_front _ _ _ _ _ so_far part))

pub loop-number-preserved : goal.loop-number-preserved
loop-number-preserved g c =
    let so_far = one_line g.T.Line.printed c.args.items.now _ _ c.args.waiting.now c.loop-number.waiting c.loop-number.number c.index-items-number.result c.loop-number-test.true c.index-items-number.is c.loop-number.invariant.so_far in
    let next = rw c.in_ok-push.ensures.ok at c.in_ok-write_block.ensures.ok in
    record {
      so_far = written_further _ _ _ _ _ so_far _ next;
      kept = c.in_ok-write_block.ensures.kept ∙ c.loop-number.invariant.kept;
    }
