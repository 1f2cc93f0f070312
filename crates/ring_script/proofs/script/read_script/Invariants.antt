use Rattle.std.proofs.Common.{◌≡◌, ◌+◌, length}
use Rattle.ring_script.specs.Rules.{empty_draft, IsSound}
use Rattle.ring_script.specs.Script.{lines_of, lines_read}
use Rattle.ring_script.proofs.script.read_script.Given as goal

-- what is left reads as the whole does
abbrev pub invariant-reading : goal.invariant-reading
invariant-reading l = record {
  same : lines_read (l.number + 1) l.draft (lines_of l.rest) ≡ lines_read 1 empty_draft (lines_of l.text);
  count : l.number + length (lines_of l.rest) ≡ length (lines_of l.text);
  sound : IsSound l.draft;
}

abbrev pub decreases-reading : goal.decreases-reading
decreases-reading l = length l.rest
