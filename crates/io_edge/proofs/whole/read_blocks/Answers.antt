-- The last read and those before it are one front.
use Rattle.std.proofs.Common.{◌++◌, ℕ, take, arith, length-append, length-take}
use Rattle.std.proofs.KnownBytes.{Consumes-trans}
use Rattle.io_edge.proofs.whole.read_blocks.Goals as goal

pub returns-then-count-len-clause-long : goal.returns-then-count-len-clause-long
returns-then-count-len-clause-long g c = λ _. (
  c.reading.all.items ++ take c.in-Ok.count c.read.new.out,
  Consumes-trans _ _ _ _ _ c.reading.invariant.whole c.in-Ok.ensures.bytes.0,
  omega (arith, c.in-Ok.ensures.bound, c.len.ensures, c.reading.all.ok.0, length-append {A = ℕ}, length-take {A = ℕ}),
)

pub returns-then-count-len-clause-part : goal.returns-then-count-len-clause-part
returns-then-count-len-clause-part g c = (_, Consumes-trans _ _ _ _ _ c.reading.invariant.whole c.in-Ok.ensures.bytes.0)

pub returns-in_default-extend_from_slice-clause-part : goal.returns-in_default-extend_from_slice-clause-part
returns-in_default-extend_from_slice-clause-part g c = (_, Consumes-trans _ _ _ _ _ c.reading.invariant.whole c.in-Ok.ensures.bytes.0)
