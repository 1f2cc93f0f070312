use Rattle.std.proofs.Common.{◌≡◌, ℕ, List, length, get_or, arith, codes}
use Rattle.std.proofs.lemmas.Grind.{common_steps}
use Rattle.ring_script.specs.Lines.{line_by_word}
use Rattle.ring_script.proofs.line.line_with_word.Goals as goal

-- a text of these bytes is the word
is_region : (w : List ℕ) → length w ≡ 6 → get_or w 0 0 ≡ 114 → get_or w 1 0 ≡ 101 → get_or w 2 0 ≡ 103 → get_or w 3 0 ≡ 105 → get_or w 4 0 ≡ 111 → get_or w 5 0 ≡ 110 → w ≡ codes "region"
is_region w n r e g i o m = grind (arith, common_steps)

pub returns-in-region : goal.returns-in-region
unfolding line_by_word
returns-in-region c = rw (is_region c.args.word.now (omega arith) (omega arith) (omega arith) (omega arith) (omega arith) (omega arith) (omega arith)) c.region_line.ensures
