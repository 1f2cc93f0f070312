-- What was written so far is the front of the bytes. No write has failed.
use Rattle.std.proofs.Common.{◌≡◌, ◌++◌, List, ℕ, length}
use Rattle.std.specs.Io.KnownBytes.{Appends}
use Rattle.io_edge.proofs.whole.write_all.Given as goal

abbrev pub invariant-writing : goal.invariant-writing
invariant-writing g l =
    let held = g.O.Sink.held in
    let faults = g.O.Sink.faults in
    record {
      part : (front : List ℕ) × (l.fn.bytes ≡ front ++ l.rest) × Appends (held l.fn.sink) (held l.sink) front;
      kept : faults l.sink ≡ faults l.fn.sink;
    }

abbrev pub decreases-writing : goal.decreases-writing
decreases-writing g l = length l.rest
