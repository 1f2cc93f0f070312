-- That what is sampled is made whole, and behind it what is drawn to.
use Rattle.std.proofs.Common.{Ok, Err, subst}
use Rattle.std.specs.Prelude.{map}
use Rattle.gl_plain.specs.declared.targets.AnyImage.TheVariants as image
use Rattle.gl_plain.specs.subjects.Images.{no_marks}
use Rattle.gl_plain.specs.subjects.Targets.{target_images}
use Rattle.gl_driver.specs.Performed.{MayMake}
use Rattle.texture_mgr.specs.Tables.{tables, covers}
use Rattle.target_mgr.specs.Tables.{marks}
use Rattle.decode_draw.specs.Judged.{sampled_first}
use Rattle.whole_images.proofs.MadeWhole.{levels_zeroed}
use Rattle.whole_images.proofs.MadeImages.{of_levels, passes, may_first, stops_first, may_left, joins}
use Rattle.decode_draw.proofs.sampled.zero_drawn.Goals as goal

pub zero_sampled-requires-clause-may : goal.zero_sampled-requires-clause-may
zero_sampled-requires-clause-may g c =
    subst (MayMake (g.D.Driver.history c.args.driver.now).state) (levels_zeroed (tables c.args.textures.now).objects (covers c.args.textures.now) (marks c.args.targets.now) no_marks (sampled_first (tables c.args.textures.now).objects c.args.judged.now))
    (may_first g.D.Driver.history g.D.Driver.grown g.met.D.Driver.grown_itself g.met.D.Driver.grown_further (map image.Level (sampled_first (tables c.args.textures.now).objects c.args.judged.now)) (target_images c.args.judged.now.target) c.args.driver.now c.args.textures.now c.args.targets.now c.requires.may)

pub returns-in_err-zero_sampled : goal.returns-in_err-zero_sampled
returns-in_err-zero_sampled g c = passes c.from_residual.result c.from_residual.ensures.1
    (stops_first g.D.Driver.history g.D.Driver.grown g.met.D.Driver.grown_itself g.met.D.Driver.grown_further (map image.Level (sampled_first (tables c.args.textures.now).objects c.args.judged.now)) (target_images c.args.judged.now.target) c.args.driver.now c.args.textures.now c.args.targets.now
    (of_levels c.args.targets.now (sampled_first (tables c.args.textures.now).objects c.args.judged.now) (Err c.in_err-zero_sampled.field-0.0) c.in_err-zero_sampled.ensures))

pub zero_target-requires-clause-may : goal.zero_target-requires-clause-may
zero_target-requires-clause-may g c =
    may_left g.D.Driver.history g.D.Driver.grown g.met.D.Driver.grown_itself g.met.D.Driver.grown_further (map image.Level (sampled_first (tables c.args.textures.now).objects c.args.judged.now)) (target_images c.args.judged.now.target) c.args.driver.now c.args.textures.now c.args.targets.now
    (of_levels c.args.targets.now (sampled_first (tables c.args.textures.now).objects c.args.judged.now) (Ok tt) c.in_ok-zero_sampled.ensures) c.requires.may

pub returns : goal.returns
returns g c =
    joins g.D.Driver.history g.D.Driver.grown g.met.D.Driver.grown_itself g.met.D.Driver.grown_further (map image.Level (sampled_first (tables c.args.textures.now).objects c.args.judged.now)) (target_images c.args.judged.now.target) c.args.driver.now c.args.textures.now c.args.targets.now
    (of_levels c.args.targets.now (sampled_first (tables c.args.textures.now).objects c.args.judged.now) (Ok tt) c.in_ok-zero_sampled.ensures) c.zero_target.result c.zero_target.ensures
