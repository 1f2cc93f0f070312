-- That a write over a value is an insert at its key.
use Rattle.std.proofs.Common.{refl}
use Rattle.strict_driver.proofs.Entries.{get_entry, entry_inserted}
use Rattle.strict_driver.proofs.ordered.OrderedMap.replace.Goals as goal

pub returns-in_err-place-clause-before : goal.returns-in_err-place-clause-before
returns-in_err-place-clause-before g c = rw c.from_residual.ensures (get_entry c.self.inside.entries.entries _ c.args.key _ c.self.view_is c.in_err-place.ensures.value)

pub returns-clause-before : goal.returns-clause-before
returns-clause-before g c = rw c.replace.ensures.value (get_entry c.self.inside.entries.entries _ c.args.key _ c.self.view_is c.in_ok-place.ensures.value)

pub returns-clause-replaced : goal.returns-clause-replaced
returns-clause-replaced g c = rw c.replace.ensures.after (entry_inserted c.self.inside.entries.entries _ _ c.args.key c.args.value c.self.view_is ((c.get_mut.follows.holds c.args.value).3 (rw (← c.in_ok-place.ensures.value) refl)).0)
