-- That the three images are made whole one behind the other.
use Rattle.std.proofs.Common.{◌++◌, Ok, Err}
use Rattle.gl_plain.specs.subjects.Targets.{image_list}
use Rattle.whole_images.proofs.MadeImages.{passes, may_first, stops_first, may_left, joins}
use Rattle.whole_images.proofs.targets.zero_target.Goals as goal

pub zero_image-requires-clause-may : goal.zero_image-requires-clause-may
zero_image-requires-clause-may g c =
    may_first g.D.Driver.history g.D.Driver.grown g.met.D.Driver.grown_itself g.met.D.Driver.grown_further (image_list c.in-Bound.colour) (image_list c.in-Bound.depth) c.args.driver.now c.args.textures.now c.args.targets.now
    (may_first g.D.Driver.history g.D.Driver.grown g.met.D.Driver.grown_itself g.met.D.Driver.grown_further (image_list c.in-Bound.colour ++ image_list c.in-Bound.depth) (image_list c.in-Bound.stencil) c.args.driver.now c.args.textures.now c.args.targets.now (rw c.in-Bound.is at c.requires.may))

pub returns-in_err-zero_image-in-Bound : goal.returns-in_err-zero_image-in-Bound
returns-in_err-zero_image-in-Bound g c = rw c.in-Bound.is (passes c.from_residual.result c.from_residual.ensures.1
    (stops_first g.D.Driver.history g.D.Driver.grown g.met.D.Driver.grown_itself g.met.D.Driver.grown_further (image_list c.in-Bound.colour ++ image_list c.in-Bound.depth) (image_list c.in-Bound.stencil) c.args.driver.now c.args.textures.now c.args.targets.now
    (stops_first g.D.Driver.history g.D.Driver.grown g.met.D.Driver.grown_itself g.met.D.Driver.grown_further (image_list c.in-Bound.colour) (image_list c.in-Bound.depth) c.args.driver.now c.args.textures.now c.args.targets.now c.in_err-zero_image-in-Bound.ensures)))

pub zero_image-requires-in-Bound-clause-may : goal.zero_image-requires-in-Bound-clause-may
zero_image-requires-in-Bound-clause-may g c =
    may_left g.D.Driver.history g.D.Driver.grown g.met.D.Driver.grown_itself g.met.D.Driver.grown_further (image_list c.in-Bound.colour) (image_list c.in-Bound.depth) c.args.driver.now c.args.textures.now c.args.targets.now c.in_ok-zero_image-in-Bound.ensures
    (may_first g.D.Driver.history g.D.Driver.grown g.met.D.Driver.grown_itself g.met.D.Driver.grown_further (image_list c.in-Bound.colour ++ image_list c.in-Bound.depth) (image_list c.in-Bound.stencil) c.args.driver.now c.args.textures.now c.args.targets.now (rw c.in-Bound.is at c.requires.may))

pub returns-in_err-zero_image-in-Bound-2 : goal.returns-in_err-zero_image-in-Bound-2
returns-in_err-zero_image-in-Bound-2 g c = rw c.in-Bound.is (passes c.from_residual-in_err-zero_image-in-Bound-2.result c.from_residual-in_err-zero_image-in-Bound-2.ensures.1
    (stops_first g.D.Driver.history g.D.Driver.grown g.met.D.Driver.grown_itself g.met.D.Driver.grown_further (image_list c.in-Bound.colour ++ image_list c.in-Bound.depth) (image_list c.in-Bound.stencil) c.args.driver.now c.args.textures.now c.args.targets.now
    (joins g.D.Driver.history g.D.Driver.grown g.met.D.Driver.grown_itself g.met.D.Driver.grown_further (image_list c.in-Bound.colour) (image_list c.in-Bound.depth) c.args.driver.now c.args.textures.now c.args.targets.now c.in_ok-zero_image-in-Bound.ensures (Err c.in_err-zero_image-in-Bound-2.field-0.0) c.in_err-zero_image-in-Bound-2.ensures)))

pub zero_image-requires-in-Bound-2-clause-may : goal.zero_image-requires-in-Bound-2-clause-may
zero_image-requires-in-Bound-2-clause-may g c =
    may_left g.D.Driver.history g.D.Driver.grown g.met.D.Driver.grown_itself g.met.D.Driver.grown_further (image_list c.in-Bound.colour ++ image_list c.in-Bound.depth) (image_list c.in-Bound.stencil) c.args.driver.now c.args.textures.now c.args.targets.now
    (joins g.D.Driver.history g.D.Driver.grown g.met.D.Driver.grown_itself g.met.D.Driver.grown_further (image_list c.in-Bound.colour) (image_list c.in-Bound.depth) c.args.driver.now c.args.textures.now c.args.targets.now c.in_ok-zero_image-in-Bound.ensures (Ok tt) c.in_ok-zero_image-in-Bound-2.ensures)
    (rw c.in-Bound.is at c.requires.may)

pub returns-in_ok-zero_image-in-Bound-2 : goal.returns-in_ok-zero_image-in-Bound-2
returns-in_ok-zero_image-in-Bound-2 g c = rw c.in-Bound.is (
    joins g.D.Driver.history g.D.Driver.grown g.met.D.Driver.grown_itself g.met.D.Driver.grown_further (image_list c.in-Bound.colour ++ image_list c.in-Bound.depth) (image_list c.in-Bound.stencil) c.args.driver.now c.args.textures.now c.args.targets.now
    (joins g.D.Driver.history g.D.Driver.grown g.met.D.Driver.grown_itself g.met.D.Driver.grown_further (image_list c.in-Bound.colour) (image_list c.in-Bound.depth) c.args.driver.now c.args.textures.now c.args.targets.now c.in_ok-zero_image-in-Bound.ensures (Ok tt) c.in_ok-zero_image-in-Bound-2.ensures)
    c.zero_image-in-Bound-2.result c.zero_image-in-Bound-2.ensures)
