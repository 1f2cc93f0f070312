use Rattle.std.proofs.Common.{◌≡◌, ◌++◌, drop, map}
use Rattle.report_text.specs.Lines.{spaced}
use Rattle.report_text.specs.Values.{pattern_text}
use Rattle.report_text.proofs.words.write_patterns.Given as goal

abbrev pub invariant-loop-pattern : goal.invariant-loop-pattern
invariant-loop-pattern l = l.line.items ++ spaced (map pattern_text (drop l.pattern-index l.patterns)) ≡ l.fn.line.items ++ spaced (map pattern_text l.patterns)
