use Rattle.std.proofs.Common.{◌≡◌, drop}
use Rattle.gl_plain.specs.subjects.Raster.{any_word, is_wrong_enum}
use Rattle.svc_raster.proofs.rules.any_wrong_enum.Given as goal

abbrev pub invariant-loop-at : goal.invariant-loop-at
invariant-loop-at l = any_word is_wrong_enum (drop l.at l.rules) (drop l.at l.words) ≡ any_word is_wrong_enum l.rules l.words
