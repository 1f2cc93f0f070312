use Rattle.std.proofs.Common.{◌≡◌, ◌++◌, take}
use Rattle.report_text.specs.Lines.{lines}
use Rattle.gles2_run.specs.Written.{HasWritten}
use Rattle.gles2_run.proofs.closing.write_lines.Given as goal

-- The lines so far wait or are written, and no write failed.
abbrev pub invariant-loop-number : goal.invariant-loop-number
invariant-loop-number g l = record {
  so_far : HasWritten (g.O.Sink.held l.fn.sink) (g.O.Sink.held l.sink) (l.fn.waiting ++ lines g.T.Line.printed 0 (take l.number l.items)) l.waiting;
  kept : g.O.Sink.faults l.sink ≡ g.O.Sink.faults l.fn.sink;
}
