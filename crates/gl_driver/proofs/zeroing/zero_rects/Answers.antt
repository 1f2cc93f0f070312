-- That each turn of the loop makes the next call.
use Rattle.std.proofs.Common.{◌<◌, ◌+◌, List, [], ◌∷◌, length, get_or, drop, subst, arith}
use Rattle.gl_plain.specs.declared.driver_calls.Answer.TheVariants.{Done}
use Rattle.gl_plain.specs.declared.driver_calls.DriverCall.{DriverCall}
use Rattle.gl_plain.specs.subjects.Images.{no_rect}
use Rattle.gl_plain.specs.Covers.{zero_call, zero_calls}
use Rattle.gl_driver.specs.Performed.{Underway}
use Rattle.gl_driver.proofs.Making.{makes, makes_one, zero_calls_next}
use Rattle.gl_driver.proofs.zeroing.zero_rects.Goals as goal

pub loop-rect-preserved : goal.loop-rect-preserved
loop-rect-preserved g c =
    let within : c.loop-rect.rect-index < length c.args.rects.now = omega arith in
    let next = zero_call c.args.place (get_or c.args.rects.now c.loop-rect.rect-index no_rect) in
    let underway = subst (λ (calls : List DriverCall). Underway g.D.Driver.history g.D.Driver.grown c.args.driver.now c.loop-rect.driver (zero_calls c.args.place c.args.rects.now) calls) (zero_calls_next c.args.place c.args.rects.now c.loop-rect.rect-index within) c.loop-rect.invariant in
    makes g.met.D.Driver.grown_further (next ∷ []) (zero_calls c.args.place (drop (c.loop-rect.rect-index + 1) c.args.rects.now)) underway
    (makes_one next Done c.in_ok-zero_level.field-0 c.in_ok-zero_level.ensures.served c.in_ok-zero_level.ensures.cause)
