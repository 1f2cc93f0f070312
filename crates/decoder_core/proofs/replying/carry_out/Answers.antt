use Rattle.decoder_core.proofs.CarriedOut.{carries_stop, carries_no_reply}
use Rattle.decoder_core.proofs.replying.carry_out.Goals as goal

pub returns-in-Err-clause-carries : goal.returns-in-Err-clause-carries
returns-in-Err-clause-carries g c = rw c.at.ensures (carries_stop c.args.command.now _ _ c.args.driver.now c.execute.new.driver _ c.in-Err.stop c.in-Err.ensures)

pub returns-in-Err-write_reply-clause-carries : goal.returns-in-Err-write_reply-clause-carries
returns-in-Err-write_reply-clause-carries g c =
    carries_no_reply c.args.command.now _ _ c.args.driver.now c.execute.new.driver (g.S.Shm.memory c.args.shm.now) _ c.in-Ok.reply c.in-Ok.ensures c.in-Err-write_reply.ensures.refused
