use Rattle.std.proofs.Common.{◌∙◌}
use Rattle.std.proofs.lemmas.Result.{err_from_is_err_and}
use Rattle.report_text.specs.Ends.{end_text}
use Rattle.report_text.specs.Journal.{journal_text}
use Rattle.report_text.specs.Replies.{reply_text}
use Rattle.gles2_run.proofs.BlocksWritten.{replies_short, replies_fault, journal_short, journal_fault, end_short, end_fault, end_written}
use Rattle.gles2_run.proofs.closing.write_output.Goals as goal

pub returns-in_err-write_lines-clause-memory : goal.returns-in_err-write_lines-clause-memory
returns-in_err-write_lines-clause-memory g c =
    let p = err_from_is_err_and c.from_residual.result c.from_residual.ensures.1 in
    rw (p.1, p.2) (λ is. replies_short (g.O.Sink.held c.args.sink.now) (g.O.Sink.held c.write_lines.new.sink) c.args.waiting.now (reply_text c.args.replies.now) (journal_text c.args.journal.now) (end_text c.args.end.now) c.requires
    c.write_lines.new.waiting (c.in_err-write_lines.ensures.memory is))

pub returns-in_err-write_lines-clause-part : goal.returns-in_err-write_lines-clause-part
returns-in_err-write_lines-clause-part g c =
    let p = err_from_is_err_and c.from_residual.result c.from_residual.ensures.1 in
    rw (p.1, p.2) (λ is. replies_fault (g.O.Sink.held c.args.sink.now) (g.O.Sink.held c.write_lines.new.sink) c.args.waiting.now (reply_text c.args.replies.now) (journal_text c.args.journal.now) (end_text c.args.end.now) c.requires
    (c.in_err-write_lines.ensures.part is))

pub returns-in_err-write_lines-2-clause-memory : goal.returns-in_err-write_lines-2-clause-memory
returns-in_err-write_lines-2-clause-memory g c =
    let p = err_from_is_err_and c.from_residual-in_err-write_lines-2.result c.from_residual-in_err-write_lines-2.ensures.1 in
    rw (p.1, p.2) (λ is. journal_short (g.O.Sink.held c.args.sink.now) (g.O.Sink.held c.write_lines.new.sink) c.args.waiting.now (reply_text c.args.replies.now) (journal_text c.args.journal.now) (end_text c.args.end.now) c.requires
    (g.O.Sink.held c.write_lines-2.new.sink) c.write_lines.new.waiting c.in_ok-write_lines.ensures.ok c.write_lines-2.new.waiting (c.in_err-write_lines-2.ensures.memory is))

pub returns-in_err-write_lines-2-clause-part : goal.returns-in_err-write_lines-2-clause-part
returns-in_err-write_lines-2-clause-part g c =
    let p = err_from_is_err_and c.from_residual-in_err-write_lines-2.result c.from_residual-in_err-write_lines-2.ensures.1 in
    rw (p.1, p.2) (λ is. journal_fault (g.O.Sink.held c.args.sink.now) (g.O.Sink.held c.write_lines.new.sink) c.args.waiting.now (reply_text c.args.replies.now) (journal_text c.args.journal.now) (end_text c.args.end.now) c.requires
    (g.O.Sink.held c.write_lines-2.new.sink) c.write_lines.new.waiting c.in_ok-write_lines.ensures.ok (c.in_err-write_lines-2.ensures.part is))

pub returns-in_err-push_end-clause-memory : goal.returns-in_err-push_end-clause-memory
returns-in_err-push_end-clause-memory g c = λ is.
    rw c.in_err-push_end.ensures.err (end_short (g.O.Sink.held c.args.sink.now) (g.O.Sink.held c.write_lines.new.sink) c.args.waiting.now (reply_text c.args.replies.now) (journal_text c.args.journal.now) (end_text c.args.end.now) c.requires
    (g.O.Sink.held c.write_lines-2.new.sink) c.write_lines.new.waiting c.in_ok-write_lines.ensures.ok (g.O.Sink.held c.write_lines-2.new.sink) c.write_lines-2.new.waiting c.in_ok-write_lines-2.ensures.ok)

pub returns-in_err-write_all-clause-part : goal.returns-in_err-write_all-clause-part
returns-in_err-write_all-clause-part g c = λ is.
    end_fault (g.O.Sink.held c.args.sink.now) (g.O.Sink.held c.write_lines.new.sink) c.args.waiting.now (reply_text c.args.replies.now) (journal_text c.args.journal.now) (end_text c.args.end.now) c.requires
    (g.O.Sink.held c.write_lines-2.new.sink) c.write_lines.new.waiting c.in_ok-write_lines.ensures.ok (g.O.Sink.held c.write_all.new.sink) c.write_lines-2.new.waiting c.in_ok-write_lines-2.ensures.ok
    c.as_slice.result.now (c.as_slice.ensures ∙ c.in_ok-push_end.ensures.ok) c.in_err-write_all.ensures.part

pub returns-clause-ok : goal.returns-clause-ok
returns-clause-ok g c =
    end_written (g.O.Sink.held c.args.sink.now) (g.O.Sink.held c.write_lines.new.sink) c.args.waiting.now (reply_text c.args.replies.now) (journal_text c.args.journal.now) (end_text c.args.end.now) c.requires
    (g.O.Sink.held c.write_lines-2.new.sink) c.write_lines.new.waiting c.in_ok-write_lines.ensures.ok (g.O.Sink.held c.write_all.new.sink) c.write_lines-2.new.waiting c.in_ok-write_lines-2.ensures.ok
    c.as_slice.result.now (c.as_slice.ensures ∙ c.in_ok-push_end.ensures.ok) c.in_ok-write_all.ensures.whole
