use Rattle.std.proofs.Common.{◌≡◌, ◌∙◌, ap, rules, of_z, to_z}
use Rattle.std.specs.Int.{w32}
use Rattle.gl_base.specs.PixelSizes.{padded}
use Rattle.gl_plain.specs.Words.{natural}
use Rattle.gl_driver.proofs.Laws.{same_stop}
use Rattle.decode_query.proofs.ReadDone.{own_stops, own_short, own_done}
use Rattle.decode_query.proofs.reading.read_rows.Goals as goal

pub returns-in_err-bytes : goal.returns-in_err-bytes
returns-in_err-bytes g c errors =
    own_stops c.args.words c.args.bucket c.args.textures.now c.args.targets.now c.args.raster.now errors c.requires.some c.from_residual.result c.from_residual.ensures.1 c.in_err-bytes.ensures.served c.in_err-bytes.ensures.cause

pub returns-in_err-rows : goal.returns-in_err-rows
returns-in_err-rows g c errors =
    let x : to_z w32 (of_z w32 c.args.words.x) ≡ c.args.words.x = search rules in
    let y : to_z w32 (of_z w32 c.args.words.y) ≡ c.args.words.y = search rules in
    let width : to_z w32 (of_z w32 c.args.words.width) ≡ c.args.words.width = search rules in
    let height : to_z w32 (of_z w32 c.args.words.height) ≡ c.args.words.height = search rules in
    own_short c.args.words c.args.bucket c.args.textures.now c.args.targets.now c.args.raster.now errors c.requires.some c.in_ok-bytes.bytes c.from_residual-in_err-rows.result c.from_residual-in_err-rows.ensures.1
    (rw (x, y, width, height) at c.in_ok-bytes.ensures.served)

pub returns : goal.returns
returns g c errors =
    let x : to_z w32 (of_z w32 c.args.words.x) ≡ c.args.words.x = search rules in
    let y : to_z w32 (of_z w32 c.args.words.y) ≡ c.args.words.y = search rules in
    let width : to_z w32 (of_z w32 c.args.words.width) ≡ c.args.words.width = search rules in
    let height : to_z w32 (of_z w32 c.args.words.height) ≡ c.args.words.height = search rules in
    own_done c.args.words c.args.bucket c.args.textures.now c.args.targets.now c.args.raster.now errors c.requires.some c.in_ok-bytes.bytes c.in_ok-rows.rows
    (rw (x, y, width, height) at c.in_ok-bytes.ensures.served) (same_stop _ _ _ c.in_ok-bytes.ensures.cause)
    (c.in_ok-rows.ensures ∙ (λ i. padded ((c.natural.ensures ∙ ap natural width) i) ((c.natural-2.ensures ∙ ap natural height) i) 4 (c.pack_alignment.ensures.value i) c.in_ok-bytes.bytes))
