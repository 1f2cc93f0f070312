use Rattle.std.proofs.Common.{◌≡◌, ◌<◌, take, ◌+◌, ◌-◌, ◌*◌, ◌++◌, ◌∙◌, List, ℕ, ap, drop, arith}
use Rattle.gl_base.specs.PixelSizes.{rows_of}
use Rattle.decode_images.proofs.Packed.{next_row}
use Rattle.decode_images.proofs.rows.unpadded.Goals as goal

pub loop-y-preserved : goal.loop-y-preserved
loop-y-preserved c =
    let within : c.loop-y.y < c.args.height = omega arith in
    let count : c.loop-y.y * c.args.rows.step + c.args.rows.row - c.loop-y.y * c.args.rows.step ≡ c.args.rows.row = omega arith in
    ap (λ (items : List ℕ). items ++ rows_of (c.args.height - (c.loop-y.y + 1)) c.args.rows.row c.args.rows.step (drop ((c.loop-y.y + 1) * c.args.rows.step) c.args.bytes.now)) (c.in_ok-extend_from_slice.ensures.items ∙ ap (λ (n : ℕ). c.loop-y.all.items ++ take n (drop (c.loop-y.y * c.args.rows.step) c.args.bytes.now)) count)
    ∙ next_row c.args.height c.args.rows.row c.args.rows.step c.loop-y.y c.loop-y.all.items c.args.bytes.now _ within c.loop-y.invariant
