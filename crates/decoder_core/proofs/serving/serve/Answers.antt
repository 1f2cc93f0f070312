use Rattle.std.proofs.lemmas.Result.{err_from_is_err_and}
use Rattle.decoder_core.proofs.Joins.{SoFar-nothing, SoFar-step, SoFar-rested, SoFar-stops}
use Rattle.decoder_core.proofs.serving.serve.Goals as goal

pub steps-init : goal.steps-init
steps-init g c =
    let D = g.met.D.Driver in
    record { so_far = SoFar-nothing D.grown_itself D.grown_further _ _ c.requires.at_rest c.requires.some c.requires.agrees; grows = g.met.S.Shm.grown_itself _ }

pub steps-preserved : goal.steps-preserved
steps-preserved g c =
    let D = g.met.D.Driver in
    record {
      so_far = SoFar-step D.grown_itself D.grown_further _ _ _ _ c.steps.invariant.so_far _ _ (rw c.if-branch.true at c.in_ok-one.ensures.takes);
      grows = g.met.S.Shm.grown_further _ _ _ c.steps.invariant.grows c.one.ensures.grows;
    }

pub returns-clause-served : goal.returns-clause-served
returns-clause-served g c =
    let D = g.met.D.Driver in
    SoFar-rested D.grown_itself D.grown_further _ _ _ _ c.steps.invariant.so_far _ _ (rw c.if-branch.false at c.in_ok-one.ensures.takes)

pub returns-in_err-one-clause-served : goal.returns-in_err-one-clause-served
returns-in_err-one-clause-served g c =
    let D = g.met.D.Driver in
    let p = err_from_is_err_and c.from_residual.result c.from_residual.ensures.1 in
    rw (p.1, p.2) (SoFar-stops D.grown_itself D.grown_further _ _ _ _ c.steps.invariant.so_far _ _ c.in_err-one.field-0.0 c.in_err-one.ensures.takes)
