-- What all turns do.
use Rattle.std.proofs.lemmas.Result.{err_from_is_err_and}
use Rattle.embedding.proofs.Turns.{none_so_far, one_more, came_to_put, none_stays, ended, stays_stopped, where_some}
use Rattle.embedding.proofs.serving.work.Goals as goal

pub turns-init : goal.turns-init
turns-init g c = rw c.set_put.ensures (record { so_far = none_so_far g.met.D.Driver.grown_itself _ _; agrees = c.requires.agrees; grows = g.met.S.Shm.grown_itself _ })

pub turns-preserved : goal.turns-preserved
turns-preserved g c = record {
  so_far = one_more g.met.D.Driver.grown_further _ _ _ _ c.turns.invariant.so_far _ _ (rw c.if-branch.true at c.in_ok-turn.ensures.takes);
  agrees = c.in_ok-turn.ensures.agrees;
  grows = g.met.S.Shm.grown_further _ _ _ c.turns.invariant.grows c.turn.ensures.grows;
}

pub returns-clause-works : goal.returns-clause-works
returns-clause-works g c = came_to_put g.met.D.Driver.grown_further _ _ _ _ c.turns.invariant.so_far _ _ (rw c.if-branch.false at c.in_ok-turn.ensures.takes)

pub returns-clause-stays : goal.returns-clause-stays
returns-clause-stays g c = where_some _ (none_stays g.met.D.Driver.grown_further _ _ _ _ c.turns.invariant.so_far _ _ (rw c.if-branch.false at c.in_ok-turn.ensures.takes))

pub returns-in_err-turn-clause-works : goal.returns-in_err-turn-clause-works
returns-in_err-turn-clause-works g c =
    let p = err_from_is_err_and c.from_residual.result c.from_residual.ensures.1 in
    rw (p.1, p.2) (ended g.met.D.Driver.grown_further _ _ _ _ c.turns.invariant.so_far _ _ c.in_err-turn.field-0.0 c.in_err-turn.ensures.takes)

pub returns-in_err-turn-clause-stays : goal.returns-in_err-turn-clause-stays
returns-in_err-turn-clause-stays g c =
    let p = err_from_is_err_and c.from_residual.result c.from_residual.ensures.1 in
    rw (p.1, p.2) (where_some _ (λ first is. stays_stopped g.met.D.Driver.grown_further _ _ _ _ c.turns.invariant.so_far _ _ c.in_err-turn.field-0.0 first c.in_err-turn.ensures.takes is))
