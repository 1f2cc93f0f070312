use Rattle.std.proofs.Common.{◌≡◌, ◌-◌, ◌++◌, length}
use Rattle.gl_plain.specs.Bytes.{words_from}
use Rattle.cb_fetch.proofs.copying.words.Given as goal

abbrev pub invariant-loop-i : goal.invariant-loop-i
invariant-loop-i l = record {
  rest : l.words.items ++ words_from l.bytes l.i (l.count - l.i) ≡ words_from l.bytes 0 l.count;
  len : length l.words.items ≡ l.i;
}
