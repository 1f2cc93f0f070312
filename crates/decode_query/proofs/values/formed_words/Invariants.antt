use Rattle.std.proofs.Common.{◌≡◌, ◌++◌, drop, map}
use Rattle.gl_plain.specs.subjects.Values as d
use Rattle.decode_query.proofs.values.formed_words.Given as goal

abbrev pub invariant-loop-word : goal.invariant-loop-word
invariant-loop-word l = l.formed.items ++ map (d.word_in_form l.form l.floats) (drop l.word-index l.words) ≡ map (d.word_in_form l.form l.floats) l.words
