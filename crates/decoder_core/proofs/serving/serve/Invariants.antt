use Rattle.decoder_core.specs.Side.{side}
use Rattle.decoder_core.specs.Remaining.{left_to_do}
use Rattle.decoder_core.proofs.Joins.{SoFar}
use Rattle.decoder_core.proofs.serving.serve.Given as goal

abbrev pub invariant-steps : goal.invariant-steps
invariant-steps g l =
    let driver = g.D.Driver in
    let shm = g.S.Shm in
    record {
      so_far : SoFar driver.history driver.grown (side l.fn.service (shm.memory l.fn.shm) l.fn.driver) l.fn.replies (side l.service (shm.memory l.shm) l.driver) l.replies;
      grows : shm.grown l.fn.shm l.shm;
    }

abbrev pub decreases-steps : goal.decreases-steps
decreases-steps g l = left_to_do l.service
