-- That one more call leaves the driver as its journal says.
use Rattle.std.proofs.Common.{◌∙◌, ap, sym, subst, [], ◌∷◌, ◌++◌}
use Rattle.gl_plain.specs.driver.Effect.{driver_after}
use Rattle.counting_driver.specs.declared.journal.Journal.{Journal}
use Rattle.counting_driver.specs.Counting.{AreAbove}
use Rattle.counting_driver.specs.CountingViews.{CountingView}
use Rattle.counting_driver.specs.CountingHistory.{history_of}
use Rattle.counting_driver.specs.CountingInside.{view_of}
use Rattle.counting_driver.specs.Entries.{entry_made}
use Rattle.counting_driver.proofs.Calls.{counted_entered, served_entered}
use Rattle.counting_driver.proofs.driver.CountingDriver.enter.Goals as goal

pub invariant_of-self : goal.invariant_of-self
invariant_of-self c =
    let e = entry_made c.args.made.now in
    counted_entered (view_of c.self.inside) c.and-self-inside.result.entries e c.args.names (ap (λ (j : Journal). j.entries) c.and-self-inside.ensures)
    (subst (λ (v : CountingView). AreAbove (driver_after (history_of v).state e.call e.answer).tables.given c.args.names) (sym c.self.view_is) c.requires.above)

pub returns-clause-served : goal.returns-clause-served
returns-clause-served c =
    let e = entry_made c.args.made.now in
    served_entered c.args.self.now _ e
    (ap (λ (j : Journal). j.entries) c.and-self-inside.ensures ∙ ap (λ (v : CountingView). v.journal ++ e ∷ []) c.self.view_is)
    (ap (λ (v : CountingView). v.surface) c.self.view_is) (ap (λ (v : CountingView). v.stop) c.self.view_is) (record { allowed = c.requires.allowed; answered = c.requires.answered })
