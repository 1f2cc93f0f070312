-- That the name is the last one given.
use Rattle.std.proofs.Common.{◌+◌, ◌∙◌, ap, sym, subst}
use Rattle.counting_driver.specs.Counting.{AreAbove}
use Rattle.counting_driver.specs.CountingViews.{CountingView}
use Rattle.counting_driver.specs.CountingHistory.{history_of}
use Rattle.counting_driver.proofs.Calls.{program_given}
use Rattle.counting_driver.proofs.driver.calls.CountingDriverDriver.create_program.Goals as goal

pub give-requires-clause-above : goal.give-requires-clause-above
give-requires-clause-above c =
    program_given _ c.self.inside.names (subst (λ (v : CountingView). AreAbove (history_of v).state.tables.given c.self.inside.names) c.self.view_is c.self.invariant) c.in_ok-name.name
    (c.in_ok-name.ensures.name ∙ ap (λ (v : CountingView). v.names.programs + 1) (c.name_behind.view_is ∙ sym c.in_ok-name.ensures.same ∙ sym c.self.view_is))
