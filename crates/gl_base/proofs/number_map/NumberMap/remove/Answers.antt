-- That what std's map gives back and holds after a removal is what the finite map says.
use Rattle.gl_base.proofs.Maps.{lookup_is_get, from_entries-remove}
use Rattle.gl_base.proofs.number_map.NumberMap.remove.Goals as goal

pub returns-clause-value : goal.returns-clause-value
returns-clause-value g c = lookup_is_get _ _ _ _ c.self.view_is c.remove.ensures.value

pub returns-clause-rest : goal.returns-clause-rest
returns-clause-rest g c = from_entries-remove _ _ _ _ c.self.view_is c.remove.ensures.updates.0
