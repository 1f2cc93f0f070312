-- The lines of a journal.
use Rattle.std.specs.Prelude.{ℕ, List, ◌++◌, codes}
use Rattle.std.specs.Fmt.{decimal}
use Rattle.gl_plain.specs.declared.driver_calls.DriverEntry.{DriverEntry}
use Rattle.report_text.specs.Calls.{call_text, answer_text}
use Rattle.report_text.specs.Lines.{lines}

-- the line of driver call k is the word `driver`, the number, the call and what the answer adds
unfoldable pub journal_line : ℕ → DriverEntry → List ℕ
journal_line k entry =
    codes "driver " ++ (decimal k ++ (codes " " ++ (call_text entry.call ++ (answer_text entry.answer ++ codes "\n"))))

-- a journal is printed as a line for each driver call, numbered from 0
abbrev pub journal_text : List DriverEntry → List ℕ
journal_text entries = lines journal_line 0 entries
