-- That the bytes of one buffer alone are changed.
use Rattle.std.proofs.Common.{sym, ◌++◌}
use Rattle.strict_driver.proofs.Kept.{changed_kept, where_ok}
use Rattle.strict_driver.proofs.buffers.Buffers.change.Goals as goal

pub returns-in-Some-clause-ok : goal.returns-in-Some-clause-ok
returns-in-Some-clause-ok c =
    rw c.binding-name.ensures (where_ok c.change.result (λ ok more.
    changed_kept c.args.journal.now more c.args.self.now c.args.target c.args.offset c.args.bytes.now c.in-Some.buffer.now c.change.new.self (sym (rw (← c.binding-name.ensures) c.in-Some.ensures.value)) (c.requires.settled more) (ok (c.args.journal.now ++ more)))
    c.change.ensures.ok)
