use Rattle.std.proofs.Common.{refl, ap}
use Rattle.cb_shm.specs.declared.history.History.{History}
use Rattle.cb_shm.proofs.Described.{described_new}
use Rattle.cb_shm.proofs.hostile.HostileMemory.new.Goals as goal

pub returns-clause-described : goal.returns-clause-described
returns-clause-described c =
    described_new c.args.script.now _ c.requires (ap (λ (h : History). h.copies) c.new.ensures)
    (rw (c.come_due.ensures.regions, c.in_ok-waiting.ensures, c.apply.ensures, c.in_ok-regions.ensures, c.as_slice-3.ensures, c.as_slice-2.ensures, c.as_slice.ensures) refl)
    (rw (c.come_due.ensures.waiting, c.in_ok-waiting.ensures, c.as_slice-3.ensures) refl)
