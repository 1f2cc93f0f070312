use Rattle.std.proofs.Common.{ap, Err}
use Rattle.report_text.specs.Ends.{end_text}
use Rattle.report_text.specs.Report.{work_text}
use Rattle.gles2_run.proofs.BlocksWritten.{closes_short}
use Rattle.gles2_run.proofs.closing.close.Goals as goal

pub returns-clause-closes : goal.returns-clause-closes
returns-clause-closes g c =
    let is = ap Err c.in-Err-NoMemory.field-0-is in
    rw (← c.as_slice-replies.ensures, ← c.journal.ensures.exact) (
    closes_short (g.O.Sink.held c.args.sink.now) (g.O.Sink.held c.write_output.new.sink) (g.O.Sink.held c.write_short.new.sink) (work_text c.as_slice-replies.result.now c.journal.result.now) (end_text c.args.end)
    c.write_output.new.waiting (c.in-Err-NoMemory.ensures.memory is) c.write_short.result (g.O.Sink.faults c.args.sink.now) (g.O.Sink.faults c.write_output.new.sink) (g.O.Sink.faults c.write_short.new.sink)
    (c.in-Err-NoMemory.ensures.kept is) c.write_short.ensures
    )
