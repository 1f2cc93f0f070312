use Rattle.std.proofs.Common.{◌≡◌, drop}
use Rattle.gl_plain.specs.subjects.Raster.{any_word, is_wrong_value}
use Rattle.svc_raster.proofs.rules.any_wrong_value.Given as goal

abbrev pub invariant-loop-at : goal.invariant-loop-at
invariant-loop-at l = any_word is_wrong_value (drop l.at l.rules) (drop l.at l.words) ≡ any_word is_wrong_value l.rules l.words
