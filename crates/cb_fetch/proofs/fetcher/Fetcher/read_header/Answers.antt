-- The steps are those of the fetcher as its fields show it.
use Rattle.std.proofs.Common.{◌≡◌, refl, sym, subst, arith}
use Rattle.gl_plain.specs.declared.commands.Malformed.TheVariants.{OutOfBounds}
use Rattle.cb_format.specs.Ring.{next_get}
use Rattle.cb_fetch.specs.declared.outcome.FetchOutcome.TheVariants.{Copied, Ready, Bad}
use Rattle.cb_fetch.specs.declared.stages.Stage.TheVariants as next
use Rattle.cb_fetch.specs.Begun.{Nothing}
use Rattle.cb_fetch.specs.FetchViews.{FetchView}
use Rattle.cb_fetch.specs.Inside.{view_of}
use Rattle.cb_fetch.specs.Steps.{IsAtHeader, IsStep}
use Rattle.cb_fetch.proofs.Copies.{step_unread, Stops}
use Rattle.cb_fetch.proofs.Steps.{header_bad, header_more, header_done}
use Rattle.cb_fetch.proofs.fetcher.Fetcher.read_header.Goals as goal

pub returns-then-self-clause-step : goal.returns-then-self-clause-step
returns-then-self-clause-step g c =
    let m = g.S.Shm.memory c.args.shm.now in
    let f2 = c.stop_bad.new.self in
    let at = subst IsAtHeader (sym c.self.view_is) c.requires in
    rw c.stop_bad.ensures.outcome (
    subst (λ (f : FetchView). IsStep f m f2 m (Bad OutOfBounds f.get)) c.self.view_is
    (step_unread (view_of c.self.inside) m f2 m c.self.invariant.inside at.going at.begun at.apart c.if-self.true refl (subst (λ (f : FetchView). Stops f f2 OutOfBounds) (sym c.self.view_is) c.stop_bad.ensures.after))
    )

pub returns-in-Err-clause-step : goal.returns-in-Err-clause-step
returns-in-Err-clause-step g c =
    let m = g.S.Shm.memory c.args.shm.now in
    let m2 = g.S.Shm.memory c.copy_header.new.shm in
    let f2 = c.stop_bad-in-Err.new.self in
    let at = subst IsAtHeader (sym c.self.view_is) c.requires in
    rw c.stop_bad-in-Err.ensures.outcome (
    subst (λ (f : FetchView). IsStep f m f2 m2 (Bad c.in-Err.kind f.get)) c.self.view_is
    (header_bad (view_of c.self.inside) m f2 m2 c.self.invariant.inside at c.if-self.false c.in-Ok.word c.in-Ok.ensures.made c.in-Err.kind c.in-Err.ensures.fault
    (subst (λ (f : FetchView). Stops f f2 c.in-Err.kind) (sym c.self.view_is) c.stop_bad-in-Err.ensures.after))
    )

pub returns-in-Ok-start-clause-step : goal.returns-in-Ok-start-clause-step
returns-in-Ok-start-clause-step g c =
    let m = g.S.Shm.memory c.args.shm.now in
    let m2 = g.S.Shm.memory c.copy_header.new.shm in
    let f2 = c.finish-in-Ok-start.new.self in
    let start = c.in-Ok-start.start in
    let fair = c.in-Ok-start.ensures.fair in
    let at = subst IsAtHeader (sym c.self.view_is) c.requires in
    rw c.finish-in-Ok-start.ensures.command (
    subst (λ (f : FetchView). IsStep f m f2 m2 (Ready (record { number = start.header.number; words = c.new.result; payload = c.new-in-Ok-start.result; place = f.get }))) c.self.view_is
    (header_done (view_of c.self.inside) m f2 m2 c.self.invariant.inside at c.if-self.false c.in-Ok.word c.in-Ok.ensures.made start fair.0 fair.1 c.if-start-eq0.true c.new.result c.new.ensures c.new-in-Ok-start.result c.new-in-Ok-start.ensures
    (subst (λ (f : FetchView). f2 ≡ record f { get = next_get f.entries f.get start.header.size; begun = Nothing }) (sym c.self.view_is) c.finish-in-Ok-start.ensures.after))
    )

pub returns-in-Ok-2-clause-step : goal.returns-in-Ok-2-clause-step
returns-in-Ok-2-clause-step g c =
    let m = g.S.Shm.memory c.args.shm.now in
    let m2 = g.S.Shm.memory c.copy_header.new.shm in
    let start = c.in-Ok-start.start in
    let fair = c.in-Ok-start.ensures.fair in
    let at = subst IsAtHeader (sym c.self.view_is) c.requires in
    subst (λ (f : FetchView). IsStep f m (view_of (record c.self.inside { stage = next.Words start })) m2 Copied) c.self.view_is
    (header_more (view_of c.self.inside) m _ m2 c.self.invariant.inside at c.if-self.false c.in-Ok.word c.in-Ok.ensures.made start fair.0 fair.1 (omega (arith, c.if-start-eq0.false)) refl)
