use Rattle.std.proofs.Common.{ap, ◌∙◌}
use Rattle.gl_plain.specs.declared.textures.Texture.{Texture}
use Rattle.texture_mgr.specs.Kept.{item_at, written_in}
use Rattle.texture_mgr.proofs.Places.{written_placed}
use Rattle.texture_mgr.proofs.texture.Texture.set_level.Goals as goal

pub returns-clause-covers : goal.returns-clause-covers
returns-clause-covers c =
    ap (λ (t : Texture). λ face level. written_in (item_at t.cube c.set.new.self face level)) c.set_level.ensures.done
    ∙ written_placed c.args.self.now.table.cube c.args.self.now.table.levels c.args.self.now.covers c.set.new.self c.args.face c.args.level c.level_index.result c.new_cover-cover.result _ c.requires.face c.requires.level
    c.args.self.now.kept c.level_index.ensures c.set.ensures c.new_cover-cover.ensures.written
