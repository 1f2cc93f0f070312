use Rattle.std.specs.Prelude.{map, string_bytes}
use Rattle.gles2_run.proofs.Exact.{Said, is_bad_line, is_done, is_stopped, says}
use Rattle.gles2_run.proofs.top.run.Goals as goal
use Rattle.gles2_run.proofs.top.run.Given.{Over}
use Rattle.gles2_run.proofs.top.run.Goals.{After-close-status}

pub returns-clause-done_exact : goal.returns-clause-done_exact
returns-clause-done_exact g c = λ input script told short text stop.
    is_done (map string_bytes c.args.words.now) (g.I.Source.left c.args.source.now) (g.I.Source.left c.work-end.new.source) (g.I.Source.ended c.work-end.new.source) (g.I.Source.faults c.args.source.now) (g.I.Source.faults c.work-end.new.source)
    c.work-end.new.desk c.close-status.result (g.O.Sink.held c.args.sink.now) (g.O.Sink.held c.close-status.new.sink) (g.O.Sink.faults c.args.sink.now) (g.O.Sink.faults c.close-status.new.sink)
    input told short c.work-end.result script c.work-end.ensures c.close-status.ensures.closes text stop

pub returns-clause-bad_line_exact : goal.returns-clause-bad_line_exact
returns-clause-bad_line_exact g c = λ input number told short text.
    is_bad_line (map string_bytes c.args.words.now) (g.I.Source.left c.args.source.now) (g.I.Source.left c.work-end.new.source) (g.I.Source.ended c.work-end.new.source) (g.I.Source.faults c.args.source.now) (g.I.Source.faults c.work-end.new.source)
    c.work-end.new.desk c.close-status.result (g.O.Sink.held c.args.sink.now) (g.O.Sink.held c.close-status.new.sink) (g.O.Sink.faults c.args.sink.now) (g.O.Sink.faults c.close-status.new.sink)
    input told short c.work-end.result number c.work-end.ensures c.close-status.ensures.closes text

pub returns-clause-stopped_exact : goal.returns-clause-stopped_exact
returns-clause-stopped_exact g c = λ input script stop told short text stopped.
    is_stopped (map string_bytes c.args.words.now) (g.I.Source.left c.args.source.now) (g.I.Source.left c.work-end.new.source) (g.I.Source.ended c.work-end.new.source) (g.I.Source.faults c.args.source.now) (g.I.Source.faults c.work-end.new.source)
    c.work-end.new.desk c.close-status.result (g.O.Sink.held c.args.sink.now) (g.O.Sink.held c.close-status.new.sink) (g.O.Sink.faults c.args.sink.now) (g.O.Sink.faults c.close-status.new.sink)
    input told short c.work-end.result script stop c.work-end.ensures c.close-status.ensures.closes text stopped

module _ (g : Over) (c : After-close-status g) where
  said : Said (map string_bytes c.args.words.now) (g.I.Source.left c.args.source.now) (g.I.Source.left c.work-end.new.source) (g.I.Source.ended c.work-end.new.source) c.work-end.new.desk c.close-status.result
  said = says (map string_bytes c.args.words.now) (g.I.Source.left c.args.source.now) (g.I.Source.left c.work-end.new.source) (g.I.Source.ended c.work-end.new.source) (g.I.Source.faults c.args.source.now) (g.I.Source.faults c.work-end.new.source)
      c.work-end.new.desk c.close-status.result (g.O.Sink.held c.args.sink.now) (g.O.Sink.held c.close-status.new.sink) (g.O.Sink.faults c.args.sink.now) (g.O.Sink.faults c.close-status.new.sink) c.work-end.result c.work-end.ensures c.close-status.ensures.closes

pub returns-clause-ring_run : goal.returns-clause-ring_run
returns-clause-ring_run g c = (said g c).ring_run

pub returns-clause-done : goal.returns-clause-done
returns-clause-done g c = (said g c).done

pub returns-clause-bad_line : goal.returns-clause-bad_line
returns-clause-bad_line g c = (said g c).bad_line

pub returns-clause-stopped : goal.returns-clause-stopped
returns-clause-stopped g c = (said g c).stopped

pub returns-clause-lost : goal.returns-clause-lost
returns-clause-lost g c = (said g c).lost

pub returns-clause-cut_short : goal.returns-clause-cut_short
returns-clause-cut_short g c = (said g c).cut_short

pub returns-clause-too_long : goal.returns-clause-too_long
returns-clause-too_long g c = (said g c).too_long
