use Rattle.std.proofs.Common.{◌≡◌, ◌++◌, drop}
use Rattle.gl_plain.specs.Bytes.{bytes_of_words}
use Rattle.cb_format.specs.Replied.{counted}
use Rattle.decoder_core.proofs.replying.counted_bytes.Given as goal

abbrev pub invariant-loop-word : goal.invariant-loop-word
invariant-loop-word l = l.bytes.items ++ bytes_of_words (drop l.word-index l.words) ≡ counted l.words
