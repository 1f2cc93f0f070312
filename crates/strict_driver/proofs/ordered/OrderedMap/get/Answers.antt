-- That a key has the value of its entry.
use Rattle.strict_driver.proofs.Entries.{get_entry}
use Rattle.strict_driver.proofs.ordered.OrderedMap.get.Goals as goal

pub returns : goal.returns
returns g c = get_entry c.self.inside.entries.entries _ c.args.key _ c.self.view_is c.get.ensures.value
