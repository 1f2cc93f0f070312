-- That the sides of an image that is not refused are not negative.
use Rattle.std.proofs.lemmas.Int.{to_z-of_z}
use Rattle.strict_driver.proofs.tables.Tables.put_image.Goals as goal

pub natural-requires : goal.natural-requires
natural-requires c =
    let width = c.ranges.width in
    simp to_z-of_z c.requires.columns

pub natural-requires-in-Done : goal.natural-requires-in-Done
natural-requires-in-Done c =
    let height = c.ranges.height in
    simp to_z-of_z c.requires.rows
