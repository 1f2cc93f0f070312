-- All that a run prints.
use Rattle.std.specs.Prelude.{ℕ, List, ◌++◌}
use Rattle.gl_plain.specs.declared.calls.Reply.{Reply}
use Rattle.gl_plain.specs.declared.driver_calls.DriverEntry.{DriverEntry}
use Rattle.report_text.specs.declared.end.End.{End}
use Rattle.report_text.specs.Ends.{end_text}
use Rattle.report_text.specs.Journal.{journal_text}
use Rattle.report_text.specs.Replies.{reply_text}

-- of what was done the replies are printed, then the driver calls
abbrev pub work_text : List Reply → List DriverEntry → List ℕ
work_text replies journal = reply_text replies ++ journal_text journal

-- a run prints what was done, then how it ended
abbrev pub output_text : List Reply → List DriverEntry → End → List ℕ
output_text replies journal end = work_text replies journal ++ end_text end
