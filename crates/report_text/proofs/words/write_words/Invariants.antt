use Rattle.std.proofs.Common.{◌≡◌, ◌++◌, drop}
use Rattle.report_text.specs.Lines.{spaced}
use Rattle.report_text.specs.Values.{words}
use Rattle.report_text.proofs.words.write_words.Given as goal

abbrev pub invariant-loop-argument : goal.invariant-loop-argument
invariant-loop-argument l = l.line.items ++ spaced (words (drop l.argument-index l.arguments)) ≡ l.fn.line.items ++ spaced (words l.arguments)
