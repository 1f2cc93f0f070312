-- That what std's map gives back and holds after an insert is what the finite map says.
use Rattle.std.proofs.Common.{sym}
use Rattle.gl_base.proofs.Maps.{lookup_is_get, from_entries-insert}
use Rattle.gl_base.proofs.number_map.NumberMap.insert.Goals as goal

pub returns-in-Ok-clause-before : goal.returns-in-Ok-clause-before
returns-in-Ok-clause-before g c = lookup_is_get _ _ _ _ c.self.view_is c.in-Ok.ensures.old

pub returns-in-Ok-clause-ok : goal.returns-in-Ok-clause-ok
returns-in-Ok-clause-ok g c = from_entries-insert _ _ _ _ _ c.self.view_is c.in-Ok.ensures.updates.0

pub returns-clause-only_new : goal.returns-clause-only_new
returns-clause-only_new g c = sym (lookup_is_get _ _ _ _ c.self.view_is (sym c.in-Err.ensures.absent))
