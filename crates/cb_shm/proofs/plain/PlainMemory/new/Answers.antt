use Rattle.cb_shm.proofs.NewPlain.{ArePatched-new}
use Rattle.cb_shm.proofs.plain.PlainMemory.new.Goals as goal

pub invariant_of-result : goal.invariant_of-result
invariant_of-result c =
    rw (c.new.ensures, c.in_ok-add-3.ensures.ok, c.in_ok-add-2.ensures.ok, c.in_ok-add.ensures.ok, c.new-regions.ensures)
    (ArePatched-new c.args.entries c.args.transfer)
