-- The rectangles so far were zeroed.
use Rattle.std.proofs.Common.{drop}
use Rattle.gl_plain.specs.Covers.{zero_calls}
use Rattle.gl_driver.specs.Performed.{Underway}
use Rattle.gl_driver.proofs.zeroing.zero_rects.Given as goal

abbrev pub invariant-loop-rect : goal.invariant-loop-rect
invariant-loop-rect g l = Underway g.D.Driver.history g.D.Driver.grown l.fn.driver l.driver (zero_calls l.place l.rects) (zero_calls l.place (drop l.rect-index l.rects))
