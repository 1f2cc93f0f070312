use Rattle.std.proofs.lemmas.Result.{err_from_is_err_and}
use Rattle.gles2_run.proofs.Takings.{none_taken, taken_before, one_taken, not_taken}
use Rattle.gles2_run.proofs.puts.take_puts.Goals as goal

pub loop-put-init : goal.loop-put-init
loop-put-init c = record { taken = none_taken _ _ _ c.requires.agrees c.requires.at_rest; grows = λ s is. is }

pub loop-put-preserved : goal.loop-put-preserved
loop-put-preserved c = record {
  taken = one_taken _ _ _ _ _ _ _ (taken_before _ _ _ _ _ _ c.loop-put-test.true c.loop-put.invariant.taken) _ _ c.in_ok-take_put.ensures.served;
  grows = λ s is. c.in_ok-take_put.ensures.grows s (c.loop-put.invariant.grows s is);
}

pub returns-in_err-take_put-clause-taken : goal.returns-in_err-take_put-clause-taken
returns-in_err-take_put-clause-taken c =
    let p = err_from_is_err_and c.from_residual.result c.from_residual.ensures.1 in
    rw (p.1, p.2) (not_taken _ _ _ _ _ _ _ (taken_before _ _ _ _ _ _ c.loop-put-test.true c.loop-put.invariant.taken) _ _ _ c.in_err-take_put.ensures.served)
