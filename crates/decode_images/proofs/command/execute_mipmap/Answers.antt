use Rattle.std.proofs.Common.{[]}
use Rattle.gl_plain.specs.Errors.{no_errors}
use Rattle.decode_images.proofs.MipmapsDone.{mipmap_bound, mipmap_may_zero, mipmap_taken, mipmap_stops, mipmap_allowed, mipmap_done}
use Rattle.decode_images.proofs.command.execute_mipmap.Goals as goal

pub make_bases_whole-requires-clause-bound : goal.make_bases_whole-requires-clause-bound
make_bases_whole-requires-clause-bound g c = mipmap_bound c.args.target [] c.args.textures.now c.args.targets.now c.args.raster.now no_errors (c.requires [] no_errors)

pub make_bases_whole-requires-clause-may : goal.make_bases_whole-requires-clause-may
make_bases_whole-requires-clause-may g c = mipmap_may_zero c.args.target [] c.args.textures.now c.args.targets.now c.args.raster.now no_errors (c.requires [] no_errors)

pub returns-in_err-make_bases_whole : goal.returns-in_err-make_bases_whole
returns-in_err-make_bases_whole g c payload errors =
    mipmap_stops c.args.target payload c.args.textures.now c.args.targets.now c.args.raster.now errors (c.requires payload errors) c.from_residual.result c.from_residual.ensures.1 c.in_err-make_bases_whole.ensures.calls

pub generate_mipmap-requires-clause-taken : goal.generate_mipmap-requires-clause-taken
generate_mipmap-requires-clause-taken g c = mipmap_taken c.args.target [] c.args.textures.now c.args.targets.now c.args.raster.now no_errors (c.requires [] no_errors) c.make_bases_whole.new.textures c.in_ok-make_bases_whole.ensures.tables_are

pub generate_mipmap-requires-clause-allowed : goal.generate_mipmap-requires-clause-allowed
generate_mipmap-requires-clause-allowed g c =
    mipmap_allowed c.args.target [] c.args.textures.now c.args.targets.now c.args.raster.now no_errors (c.requires [] no_errors) c.in_ok-make_bases_whole.ensures

pub returns : goal.returns
returns g c payload errors =
    mipmap_done c.args.target payload c.args.textures.now c.args.targets.now c.args.raster.now errors (c.requires payload errors) c.in_ok-make_bases_whole.ensures g.met.D.Driver.grown_further c.generate_mipmap.result
    (c.generate_mipmap.ensures payload c.args.targets.now c.args.raster.now errors)
