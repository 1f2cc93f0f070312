use Rattle.std.proofs.Common.{sym}
use Rattle.texture_mgr.proofs.Places.{none_past, if_none}
use Rattle.texture_mgr.proofs.texture.item.Goals as goal

pub returns-in-None : goal.returns-in-None
returns-in-None g c = sym (if_none _ _ (none_past c.args.items.now _ _ c.level_index.ensures (sym c.in-None.ensures)))
