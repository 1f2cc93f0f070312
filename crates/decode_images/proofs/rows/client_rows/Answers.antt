use Rattle.std.proofs.Common.{◌∙◌, Option, ℕ, ap, sym}
use Rattle.gl_base.specs.PixelSizes.{pixel_bytes}
use Rattle.decode_images.proofs.Packed.{no_pixels, is_nothing}
use Rattle.decode_images.proofs.rows.client_rows.Goals as goal

pub returns-then-is_none-clause-rows : goal.returns-then-is_none-clause-rows
returns-then-is_none-clause-rows c =
    no_pixels c.args.width c.args.height c.args.alignment (pixel_bytes c.args.format c.args.kind) c.args.bytes.now
    (is_nothing c.pixel_bytes.result c.is_none.result c.is_none.ensures c.if-is_none.true ∙ c.pixel_bytes.ensures.bytes) c.requires.aligned.0 c.requires.whole
