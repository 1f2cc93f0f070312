-- The steps are those of the fetcher as its fields show it.
use Rattle.std.proofs.Common.{◌≡◌, ◌<◌, ◌≤◌, length, refl, sym, ap, subst, arith}
use Rattle.cb_fetch.specs.declared.outcome.FetchOutcome.TheVariants.{Copied, Ready}
use Rattle.cb_fetch.specs.declared.stages.Body as stages
use Rattle.cb_fetch.specs.declared.stages.Stage.TheVariants as next
use Rattle.cb_fetch.specs.FetchViews.{FetchView}
use Rattle.cb_fetch.specs.Inside.{begun_of, view_of, IsPart}
use Rattle.cb_fetch.specs.Steps.{IsAtData, IsStep}
use Rattle.cb_fetch.proofs.Steps.{piece_more, piece_done}
use Rattle.cb_fetch.proofs.fetcher.Fetcher.read_piece.Goals as goal

pub returns-in-Ok-clause-step : goal.returns-in-Ok-clause-step
returns-in-Ok-clause-step g c =
    let m = g.S.Shm.memory c.args.shm.now in
    let m2 = g.S.Shm.memory c.copy_piece.new.shm in
    let body = c.in-Data.body in
    let now : stages.Body = record body { payload = c.copy_piece.new.payload } in
    let f2 = view_of (record c.self.inside { stage = next.Data now }) in
    let at = subst IsAtData (sym c.self.view_is) c.requires in
    let stage : c.self.inside.stage ≡ next.Data body = sym c.in-Data.ensures.value in
    let is = subst (IsPart c.self.inside.entries c.self.inside.get) stage c.self.invariant.part in
    let left : length now.payload.items < body.count = omega (arith, c.len.ensures, c.copy_piece.new.payload.ok, c.if-len-body.true) in
    subst (λ (f : FetchView). IsStep f m f2 m2 Copied) c.self.view_is
    (piece_more (view_of c.self.inside) m f2 m2 c.self.invariant.inside body at.going (ap begun_of stage) is now.payload.items c.in-Ok.ensures.made left refl)

pub returns-in-Ok-2-clause-step : goal.returns-in-Ok-2-clause-step
returns-in-Ok-2-clause-step g c =
    let m = g.S.Shm.memory c.args.shm.now in
    let m2 = g.S.Shm.memory c.copy_piece.new.shm in
    let body = c.in-Data.body in
    let more = c.copy_piece.new.payload.items in
    let f2 = c.finish.new.self in
    let at = subst IsAtData (sym c.self.view_is) c.requires in
    let stage : c.self.inside.stage ≡ next.Data body = sym c.in-Data.ensures.value in
    let is = subst (IsPart c.self.inside.entries c.self.inside.get) stage c.self.invariant.part in
    let whole : body.count ≤ length more = omega (arith, c.len.ensures, c.copy_piece.new.payload.ok, c.if-len-body.false) in
    rw (c.finish.ensures.command, c.from_vec.ensures) (
    subst (λ (f : FetchView). IsStep f m f2 m2 (Ready (record { number = body.header.number; words = body.words; payload = more; place = c.self.inside.get }))) c.self.view_is
    (piece_done (view_of c.self.inside) m f2 m2 c.self.invariant.inside body at.going (ap begun_of stage) is more c.in-Ok.ensures.made whole c.finish.ensures.after)
    )
