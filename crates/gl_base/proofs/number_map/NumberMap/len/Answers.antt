-- That the entries of std's map are as many as the keys of the finite map.
use Rattle.std.proofs.Common.{sym, ◌∙◌, ap}
use Rattle.std.specs.FinMap as map
use Rattle.gl_base.proofs.Maps.{len-from_entries}
use Rattle.gl_base.proofs.number_map.NumberMap.len.Goals as goal

pub returns : goal.returns
returns g c = c.len.ensures.len ∙ sym (len-from_entries _ c.len.ensures.ordered) ∙ ap map.len c.self.view_is
