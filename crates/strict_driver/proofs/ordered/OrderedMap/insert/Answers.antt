-- That an entry is the value of its key.
use Rattle.strict_driver.proofs.Entries.{entry_inserted}
use Rattle.strict_driver.proofs.ordered.OrderedMap.insert.Goals as goal

pub returns-clause-ok : goal.returns-clause-ok
returns-clause-ok g c = entry_inserted c.self.inside.entries.entries c.insert.new.self.entries _ c.args.key c.args.value c.self.view_is c.in_ok-insert.ensures.updates.0
