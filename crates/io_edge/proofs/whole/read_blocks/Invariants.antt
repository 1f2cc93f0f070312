-- What was read so far was consumed, and stays within the limit. No read has failed.
use Rattle.std.proofs.Common.{◌≡◌, ◌≤◌, ◌-◌, length}
use Rattle.std.specs.Io.KnownBytes.{Consumes}
use Rattle.io_edge.proofs.whole.read_blocks.Given as goal

abbrev pub invariant-reading : goal.invariant-reading
invariant-reading g l =
    let left = g.I.Source.left in
    let faults = g.I.Source.faults in
    record {
      whole : Consumes (left l.fn.source) (left l.source) l.all.items;
      short : length l.all.items ≤ 67108864;
      kept : faults l.source ≡ faults l.fn.source;
    }

abbrev pub decreases-reading : goal.decreases-reading
decreases-reading g l = 67108864 - length l.all.items
