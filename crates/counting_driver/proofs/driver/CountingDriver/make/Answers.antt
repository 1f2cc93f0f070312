-- That as many names were given as before.
use Rattle.std.proofs.Common.{subst}
use Rattle.counting_driver.specs.Counting.{AreAbove}
use Rattle.counting_driver.specs.CountingViews.{CountingView}
use Rattle.counting_driver.specs.CountingHistory.{history_of}
use Rattle.counting_driver.specs.CountingInside.{view_of}
use Rattle.counting_driver.specs.Entries.{answer_made, call_made}
use Rattle.gl_plain.specs.driver.Effect.{driver_after}
use Rattle.counting_driver.proofs.Calls.{still_counted}
use Rattle.counting_driver.proofs.driver.CountingDriver.make.Goals as goal

pub enter-requires-clause-above : goal.enter-requires-clause-above
enter-requires-clause-above c =
    let made = c.args.made.now in
    subst (λ (v : CountingView). AreAbove (driver_after (history_of v).state (call_made made) (answer_made made)).tables.given c.enter.inside.names) c.enter.view_is
    (still_counted (view_of c.enter.inside) c.enter.invariant (call_made made) (answer_made made) c.requires.no_name)
