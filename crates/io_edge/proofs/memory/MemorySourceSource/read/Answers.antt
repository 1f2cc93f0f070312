-- What was copied was the front of what was left.
use Rattle.std.proofs.Common.{arith}
use Rattle.std.proofs.lemmas.Grind.{common_steps}
use Rattle.io_edge.proofs.Moving.{copied_front}
use Rattle.io_edge.proofs.memory.MemorySourceSource.read.Goals as goal

pub returns-clause-bytes : goal.returns-clause-bytes
returns-clause-bytes c = (copied_front _ _ _ _ _ _ (cc) (omega arith) c.copy_from_slice.ensures.after, grind (arith, common_steps))
