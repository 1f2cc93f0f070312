use Rattle.std.proofs.Common.{ap, sym, ◌∙◌}
use Rattle.std.specs.Option.{option_map}
use Rattle.texture_mgr.specs.Objects.{table_of}
use Rattle.texture_mgr.specs.Tables.{levels_sampled}
use Rattle.texture_mgr.proofs.TablesBeside.{texture_at_is}
use Rattle.texture_mgr.proofs.textures.Textures.sampled_levels.Goals as goal

pub returns-in-Some-clause-levels : goal.returns-in-Some-clause-levels
returns-in-Some-clause-levels c =
    c.sampled_levels.ensures.levels ∙ sym (ap levels_sampled (texture_at_is c.args.self.now.objects c.args.self.now.units c.args.number c.args.cube ∙ ap (option_map table_of) (sym c.in-Some.ensures)))

pub returns-in-None-clause-levels : goal.returns-in-None-clause-levels
returns-in-None-clause-levels c = sym (ap levels_sampled (texture_at_is c.args.self.now.objects c.args.self.now.units c.args.number c.args.cube ∙ ap (option_map table_of) (sym c.in-None.ensures)))
