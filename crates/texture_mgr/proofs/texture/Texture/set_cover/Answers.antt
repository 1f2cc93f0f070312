use Rattle.std.proofs.Common.{sym, ◌∙◌, refl}
use Rattle.texture_mgr.proofs.Places.{written_placed}
use Rattle.texture_mgr.proofs.texture.Texture.set_cover.Goals as goal

pub returns-then-level-le-LAST_LEVEL-clause-covers : goal.returns-then-level-le-LAST_LEVEL-clause-covers
returns-then-level-le-LAST_LEVEL-clause-covers c =
    written_placed c.args.self.now.table.cube c.args.self.now.table.levels c.args.self.now.covers c.set.new.self c.args.face c.args.level c.level_index.result c.args.cover _ (sym c.suits.ensures ∙ c.if-suits.true)
    c.if-level-le-LAST_LEVEL.true c.args.self.now.kept c.level_index.ensures c.set.ensures refl
