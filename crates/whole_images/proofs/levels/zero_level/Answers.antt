use Rattle.std.proofs.Common.{Bool, subst}
use Rattle.std.specs.Bool.{OnTrue}
use Rattle.gl_plain.specs.subjects.Textures.{level_at}
use Rattle.texture_mgr.specs.Covered.{IsWhole}
use Rattle.texture_mgr.specs.Tables.{tables, covers}
use Rattle.whole_images.proofs.MadeWhole.{makes_already}
use Rattle.whole_images.proofs.levels.zero_level.Goals as goal

pub returns-then-is_whole : goal.returns-then-is_whole
returns-then-is_whole g c =
    makes_already g.met.D.Driver.grown_itself c.args.driver.now c.args.textures.now c.args.place
    (subst (λ (b : Bool). OnTrue b (IsWhole (level_at (tables c.args.textures.now).objects c.args.place) (covers c.args.textures.now c.args.place))) c.if-is_whole.true c.is_whole.ensures.whole)
