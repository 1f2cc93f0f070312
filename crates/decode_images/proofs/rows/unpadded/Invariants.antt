-- The rows so far, and those that are left, are all rows.
use Rattle.std.proofs.Common.{◌≡◌, ◌-◌, ◌*◌, ◌++◌, drop}
use Rattle.gl_base.specs.PixelSizes as sizes
use Rattle.decode_images.proofs.rows.unpadded.Given as goal

abbrev pub invariant-loop-y : goal.invariant-loop-y
invariant-loop-y l = l.all.items ++ sizes.rows_of (l.height - l.y) l.row l.step (drop (l.y * l.step) l.bytes) ≡ sizes.rows_of l.height l.row l.step l.bytes
