use Rattle.std.proofs.Common.{sym, subst, []}
use Rattle.gl_plain.specs.declared.targets.Target.{Target}
use Rattle.gl_plain.specs.subjects.Targets.{colour_images}
use Rattle.gl_driver.specs.Performed.{MayMake}
use Rattle.target_mgr.specs.Tables.{renderbuffers}
use Rattle.whole_images.specs.Whole.{image_zeroings, IsColourThere}
use Rattle.whole_images.proofs.MadeImages.{whole_at}
use Rattle.decode_images.proofs.CopiesDone.{copy_is_there, copy_may_zero, copy_fair, copy_bound, copy_stops, copy_allowed, copy_done}
use Rattle.decode_images.proofs.command.execute_copy.Goals as goal

pub zero_colour-requires-clause-there : goal.zero_colour-requires-clause-there
zero_colour-requires-clause-there g c =
    subst (IsColourThere (renderbuffers c.args.targets.now).objects) (sym c.target-source.ensures)
    (copy_is_there c.args.copy [] c.args.textures.now c.args.targets.now c.args.raster.now c.args.errors.now (c.requires []))

pub zero_colour-requires-clause-may : goal.zero_colour-requires-clause-may
zero_colour-requires-clause-may g c =
    subst (λ (t : Target). MayMake (g.D.Driver.history c.args.driver.now).state (image_zeroings c.args.textures.now c.args.targets.now (colour_images t))) (sym c.target-source.ensures)
    (copy_may_zero c.args.copy [] c.args.textures.now c.args.targets.now c.args.raster.now c.args.errors.now (c.requires []))

pub returns-in_err-zero_colour : goal.returns-in_err-zero_colour
returns-in_err-zero_colour g c payload =
    copy_stops c.args.copy payload c.args.textures.now c.args.targets.now c.args.raster.now c.args.errors.now (c.requires payload) c.from_residual.result c.from_residual.ensures.1
    (whole_at c.target-source.ensures c.in_err-zero_colour.ensures).calls

pub copy_tex_image_2d-requires-clause-fair : goal.copy_tex_image_2d-requires-clause-fair
copy_tex_image_2d-requires-clause-fair g c = copy_fair c.args.copy [] c.args.textures.now c.args.targets.now c.args.raster.now c.args.errors.now (c.requires [])

pub copy_tex_image_2d-requires-clause-bound : goal.copy_tex_image_2d-requires-clause-bound
copy_tex_image_2d-requires-clause-bound g c = copy_bound c.args.copy [] c.args.textures.now c.args.targets.now c.args.raster.now c.args.errors.now (c.requires []) c.zero_colour.new.textures c.in_ok-zero_colour.ensures.tables_are

pub copy_tex_image_2d-requires-clause-allowed : goal.copy_tex_image_2d-requires-clause-allowed
copy_tex_image_2d-requires-clause-allowed g c =
    copy_allowed c.args.copy [] c.args.textures.now c.args.targets.now c.args.raster.now c.args.errors.now (c.requires []) (whole_at c.target-source.ensures c.in_ok-zero_colour.ensures)

pub returns : goal.returns
returns g c payload =
    copy_done c.args.copy payload c.args.textures.now c.args.targets.now c.args.raster.now c.args.errors.now (c.requires payload) (whole_at c.target-source.ensures c.in_ok-zero_colour.ensures) g.met.D.Driver.grown_further c.copy_tex_image_2d.result
    (c.copy_tex_image_2d.ensures payload c.zero_colour.new.targets c.args.raster.now)
