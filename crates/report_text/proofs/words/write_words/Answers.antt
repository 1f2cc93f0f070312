use Rattle.std.proofs.Common.{◌++◌, ◌+◌, ◌∙◌, sym, ap, append_assoc, drop, List, ℕ}
use Rattle.report_text.specs.Lines.{spaced}
use Rattle.report_text.specs.Values.{words}
use Rattle.report_text.proofs.Spaced.{words-drop}
use Rattle.report_text.proofs.words.write_words.Goals as goal

pub loop-argument-preserved : goal.loop-argument-preserved
loop-argument-preserved c =
    let rest : List ℕ = spaced (words (drop (c.loop-argument.argument-index + 1) c.args.arguments.now)) in
    ap (λ (front : List ℕ). front ++ rest) c.in_ok-write_argument.ensures
    ∙ append_assoc c.loop-argument.line.items _ rest
    ∙ ap (λ (words_left : List ℕ). c.loop-argument.line.items ++ words_left) (sym (words-drop c.args.arguments.now c.loop-argument.argument-index _ c.loop-argument-test.true))
    ∙ c.loop-argument.invariant
