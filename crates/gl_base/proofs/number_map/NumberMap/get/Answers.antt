-- That what std's map finds is what the finite map has.
use Rattle.gl_base.proofs.Maps.{lookup_is_get}
use Rattle.gl_base.proofs.number_map.NumberMap.get.Goals as goal

pub returns : goal.returns
returns g c = lookup_is_get _ _ _ _ c.self.view_is c.get.ensures.value
