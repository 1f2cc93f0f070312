use Rattle.std.proofs.Common.{◌≡◌, length, refl, sym, ap, ◌∙◌}
use Rattle.cb_shm.specs.declared.history.History.{History}
use Rattle.cb_shm.specs.Waiting.{bucket}
use Rattle.cb_shm.proofs.Described.{described_more, seen_more}
use Rattle.cb_shm.proofs.hostile.HostileMemoryShm.copy.Goals as goal

pub returns-clause-made : goal.returns-clause-made
returns-clause-made c =
    rw c.and-self.ensures (seen_more c.args.self.now _ c.come_due.new.regions c.args.region c.args.offset c.copy_from_slice.new.self (bucket c.args.self.now.waiting c.in-Some-checked_add.next)
    (rw c.copy_from_slice.ensures.after refl) c.come_due.ensures.regions)

pub returns-clause-grows : goal.returns-clause-grows
returns-clause-grows c = λ s.
    let len : length c.in-Some.bytes.now ≡ length c.args.out.now = sym (ap length c.copy_from_slice.ensures.after) ∙ c.copy_from_slice.ensures.len in
    described_more s c.args.self.now _ (record { region = c.args.region; offset = c.args.offset; bytes = c.in-Some.bytes.now })
    (ap (λ (h : History). h.copies) c.and-self.ensures)
    (rw len (sym c.in-Some.ensures))
    c.come_due.ensures.regions
    c.come_due.ensures.waiting
