-- That a copy into a new image is written with its numbers as they are.
use Rattle.std.proofs.lemmas.Int.{to_z-of_z}
use Rattle.report_text.specs.Calls.{image_text}
use Rattle.report_text.proofs.image_calls.write_copy_tex_image.Goals as goal

pub returns : goal.returns
unfolding image_text
returns c =
    let level = c.ranges.level in
    let x = c.ranges.x in
    let y = c.ranges.y in
    let width = c.ranges.width in
    let height = c.ranges.height in
    simp to_z-of_z at c.write_named.ensures
