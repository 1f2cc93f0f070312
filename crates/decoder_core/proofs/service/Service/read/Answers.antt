use Rattle.std.proofs.Common.{inl}
use Rattle.decoder_core.specs.ServiceInvariant.{view_of}
use Rattle.decoder_core.proofs.ReadSteps.{finds_bad, stands_begun, stands_copied, stands_ready}
use Rattle.decoder_core.proofs.service.Service.read.Goals as goal

pub returns-in-Copied-clause-place : goal.returns-in-Copied-clause-place
returns-in-Copied-clause-place g c =
    let none = rw (← c.self.view_is) at c.requires.none_waiting in
    rw (← c.self.view_is) (λ h reads n given stands.
    stands_copied reads _ (view_of c.self.inside) none n c.step.new.self _ _ _ c.in-Copied.ensures.fetch (c.in-Copied.ensures.seen reads n given (stands_begun reads _ (view_of c.self.inside) none n _ stands)))

pub returns-in-Ready-clause-place : goal.returns-in-Ready-clause-place
returns-in-Ready-clause-place g c =
    let none = rw (← c.self.view_is) at c.requires.none_waiting in
    rw (← c.self.view_is) (λ h reads n given stands.
    stands_ready reads _ (view_of c.self.inside) none n c.step.new.self _ _ c.in-Ready.command _ c.in-Ready.ensures.fetch (c.in-Ready.ensures.seen reads n given (stands_begun reads _ (view_of c.self.inside) none n _ stands)))

pub returns-in-Bad-clause-step : goal.returns-in-Bad-clause-step
returns-in-Bad-clause-step g c =
    let none = rw (← c.self.view_is) at c.requires.none_waiting in
    let going = rw (← c.self.view_is) at c.requires.going in
    rw (c.stopped.ensures.outcome, c.stopped.ensures.kept, ← c.self.view_is) (λ h.
    inl (finds_bad (view_of c.self.inside) _ c.step.new.self _ h going none (c.self.invariant.fetching going) (record { kind = c.in-Bad.kind; place = c.in-Bad.place }) c.in-Bad.ensures.fetch))
