-- There is a block for each size so far.
use Rattle.std.proofs.Common.{◌≡◌, map, replicate, take}
use Rattle.embedding.proofs.memory.BlockMemory.new.Given as goal

abbrev pub invariant-loop-size : goal.invariant-loop-size
invariant-loop-size l = l.blocks.items ≡ map (λ size. replicate size 0) (take l.size-index l.sizes)
