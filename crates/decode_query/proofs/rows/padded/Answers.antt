use Rattle.std.proofs.Common.{◌≡◌, ◌*◌, length, arith}
use Rattle.gl_base.specs.PixelSizes.{row_step}
use Rattle.decode_query.proofs.Padded.{packed}
use Rattle.decode_query.proofs.rows.padded.Goals as goal

pub returns-then-step-row : goal.returns-then-step-row
returns-then-step-row c =
    let whole : length c.args.bytes ≡ c.args.height * (c.args.width * 4) = grind (arith, c.requires.whole) in
    packed c.args.height (c.args.width * 4) (row_step (c.args.width * 4) c.args.alignment) c.args.bytes c.if-step-row.true whole
