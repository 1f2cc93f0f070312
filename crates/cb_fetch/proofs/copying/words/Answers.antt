use Rattle.std.proofs.Common.{◌∙◌, ap, ◌++◌, ◌∷◌, [], ℕ, arith}
use Rattle.std.proofs.lemmas.Grind.{common_steps}
use Rattle.cb_fetch.proofs.Words.{words_more}
use Rattle.cb_fetch.proofs.copying.words.Goals as goal

pub loop-i-preserved : goal.loop-i-preserved
loop-i-preserved c = record {
  rest = words_more c.args.bytes.now c.loop-i.words.items c.push.new.self.items _ c.loop-i.i c.args.count c.loop-i-test.true
      (c.push.ensures.items ∙ ap (λ (w : ℕ). c.loop-i.words.items ++ w ∷ []) c.word.ensures) c.loop-i.invariant.rest;
  len = grind (arith, common_steps, c.push.ensures, c.loop-i.invariant.len);
}
