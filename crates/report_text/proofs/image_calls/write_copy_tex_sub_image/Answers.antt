-- That a copy into a part of an image is written with its numbers as they are.
use Rattle.std.proofs.Common.{rules, FitsSigned, w32}
use Rattle.std.proofs.lemmas.Int.{to_z-of_z}
use Rattle.report_text.specs.Calls.{image_text}
use Rattle.report_text.proofs.image_calls.write_copy_tex_sub_image.Goals as goal

pub returns : goal.returns
unfolding image_text
returns c =
    let level : FitsSigned w32 c.args.copy.level = search rules in
    let xoffset : FitsSigned w32 c.args.copy.xoffset = search rules in
    let yoffset : FitsSigned w32 c.args.copy.yoffset = search rules in
    let x : FitsSigned w32 c.args.copy.x = search rules in
    let y : FitsSigned w32 c.args.copy.y = search rules in
    let width : FitsSigned w32 c.args.copy.width = search rules in
    let height : FitsSigned w32 c.args.copy.height = search rules in
    simp to_z-of_z at c.write_named.ensures
