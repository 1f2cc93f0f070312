-- That a write over a value is an insert at its key.
use Rattle.std.proofs.Common.{ap, is_some, refl}
use Rattle.gl_base.proofs.Maps.{lookup_is_get, from_entries-insert}
use Rattle.gl_base.proofs.number_map.NumberMap.replace.Goals as goal

pub returns-in_default-clause-found : goal.returns-in_default-clause-found
returns-in_default-clause-found g c = ap is_some (lookup_is_get _ _ _ _ c.self.view_is c.in_default.ensures.value)

pub returns-clause-found : goal.returns-clause-found
returns-clause-found g c = ap is_some (lookup_is_get _ _ _ _ c.self.view_is c.in-Some.ensures.value)

pub returns-clause-replaced : goal.returns-clause-replaced
returns-clause-replaced g c = from_entries-insert _ _ _ _ _ c.self.view_is ((c.get_mut.follows.holds c.args.value).3 (rw (← c.in-Some.ensures.value) refl)).0
