use Rattle.std.proofs.Common.{◌≡◌, ◌++◌, length, drop}
use Rattle.gl_plain.specs.subjects.Raster.{kept_by}
use Rattle.svc_raster.proofs.rules.kept_words.Given as goal

abbrev pub invariant-loop-at : goal.invariant-loop-at
invariant-loop-at l = record {
  whole : l.kept.items ++ kept_by (drop l.at l.rules) (drop l.at l.words) ≡ kept_by l.rules l.words;
  size : length l.kept.items ≡ l.at;
}
