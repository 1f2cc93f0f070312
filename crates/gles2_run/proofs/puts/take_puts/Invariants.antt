use Rattle.std.proofs.Common.{drop}
use Rattle.cb_shm.specs.HostileMemories.{memory_of, HasSameScript}
use Rattle.decoder_core.specs.Side.{side}
use Rattle.gles2_run.specs.Puts.{HasTaken}
use Rattle.gles2_run.proofs.puts.take_puts.Given as goal

abbrev pub invariant-loop-put : goal.invariant-loop-put
invariant-loop-put l = record {
  taken : HasTaken (side l.fn.service (memory_of l.fn.memory) l.fn.desk.driver) l.fn.desk.answers l.fn.puts (side l.service (memory_of l.memory) l.desk.driver) l.desk.answers (drop l.put-index l.puts);
  grows : HasSameScript l.fn.memory l.memory;
}
