-- The next write lengthens the front that was written.
use Rattle.std.proofs.Common.{◌++◌, ◌∙◌, take, arith}
use Rattle.std.proofs.KnownBytes.{Appends-trans}
use Rattle.io_edge.proofs.Moving.{split_front}
use Rattle.io_edge.proofs.whole.write_all.Goals as goal

pub writing-preserved : goal.writing-preserved
writing-preserved g c =
    let p = c.writing.invariant.part in
    let n = c.in_ok-count.count in
    record {
      part = (
        p.0 ++ take n c.writing.rest.now,
        split_front _ p.0 c.writing.rest.now n _ p.1 c.in_ok-count.ensures.bound (omega arith),
        Appends-trans _ _ _ _ _ p.2 c.in_ok-count.ensures.bytes,
      );
      kept = c.in_ok-count.ensures.cause.kept ∙ c.writing.invariant.kept;
    }
