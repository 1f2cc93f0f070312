-- The rows so far, and what is left behind them, are all rows.
use Rattle.std.proofs.Common.{◌≡◌, ◌-◌, ◌*◌, ◌++◌, drop}
use Rattle.gl_base.specs.PixelSizes.{with_padding}
use Rattle.decode_query.proofs.Padded.{rows_left}
use Rattle.decode_query.proofs.rows.with_padding.Given as goal

abbrev pub invariant-loop-y : goal.invariant-loop-y
invariant-loop-y l = l.all.items ++ rows_left l.y (l.height - l.y) l.row l.gap (drop (l.y * l.row) l.bytes) ≡ with_padding l.height l.row l.gap l.bytes
