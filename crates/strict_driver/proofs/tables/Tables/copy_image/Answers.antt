-- That an image that was copied is put as any other one.
use Rattle.std.proofs.lemmas.Int.{to_z-of_z}
use Rattle.strict_driver.proofs.Kept.{where_ok}
use Rattle.strict_driver.proofs.tables.Tables.copy_image.Goals as goal

pub returns-clause-ok : goal.returns-clause-ok
returns-clause-ok c =
    let level = c.ranges.level in
    let width = c.ranges.width in
    let height = c.ranges.height in
    let put = simp to_z-of_z at c.put_image.ensures.ok in
    where_ok c.put_image.result (λ put t js x y. put t js) put
