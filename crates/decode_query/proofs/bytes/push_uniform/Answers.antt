use Rattle.std.proofs.Common.{ℕ, List, ◌++◌, ap, ◌∙◌}
use Rattle.gl_plain.specs.Words.{as_word}
use Rattle.decode_query.proofs.Entries.{uniform_added}
use Rattle.decode_query.proofs.bytes.push_uniform.Goals as goal

pub returns : goal.returns
returns c =
    uniform_added c.args.bytes.now.items _ _ _ _ _ c.args.location c.args.uniform.now c.word.result c.in_ok-push_word.ensures c.in_ok-push_word-2.ensures c.in_ok-push_word-3.ensures c.in_ok-push_word-4.ensures
    (c.word.ensures ∙ ap as_word c.len.ensures) (c.in_ok-extend_from_slice.ensures.items ∙ ap (λ (name : List ℕ). c.push_word-4.new.bytes.items ++ name) c.as_slice.ensures)
