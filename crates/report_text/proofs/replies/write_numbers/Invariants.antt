use Rattle.std.proofs.Common.{◌≡◌, ◌++◌, drop, map}
use Rattle.std.specs.Fmt.{decimal}
use Rattle.report_text.specs.Lines.{spaced}
use Rattle.report_text.proofs.replies.write_numbers.Given as goal

abbrev pub invariant-loop-number : goal.invariant-loop-number
invariant-loop-number l = l.line.items ++ spaced (map decimal (drop l.number-index l.numbers)) ≡ l.fn.line.items ++ spaced (map decimal l.numbers)
