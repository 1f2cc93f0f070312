-- What holds behind each turn.
use Rattle.std.proofs.Common.{◌≡◌, None}
use Rattle.gl_plain.specs.Agreement.{Agrees}
use Rattle.decoder_core.specs.ServiceView.{wire_of, with_put}
use Rattle.decoder_core.specs.Side.{side}
use Rattle.decoder_core.specs.Remaining.{left_to_do}
use Rattle.embedding.proofs.Turns.{SoFar}
use Rattle.embedding.proofs.serving.work.Given as goal

abbrev pub invariant-turns : goal.invariant-turns
invariant-turns g l =
    let driver = g.D.Driver in
    let shm = g.S.Shm in
    record {
      so_far : SoFar driver.history driver.grown (side (with_put l.fn.service l.fn.put) (shm.memory l.fn.memory) l.fn.driver) l.fn.replies (side l.service (shm.memory l.memory) l.driver) l.replies;
      agrees : l.service.stop ≡ None → Agrees (wire_of l.service) (driver.history l.driver).state;
      grows : shm.grown l.fn.memory l.memory;
    }

abbrev pub decreases-turns : goal.decreases-turns
decreases-turns g l = left_to_do l.service
