-- What one turn does, by the outcome of its step.
use Rattle.std.proofs.Common.{inl}
use Rattle.std.proofs.lemmas.Result.{err_from_is_err_and}
use Rattle.embedding.proofs.Turns.{turn_copied, turn_executed, turn_dropped, turn_idle, turn_bad, turn_lost, turn_short}
use Rattle.embedding.proofs.serving.turn.Goals as goal

pub returns-in-Copied-clause-takes : goal.returns-in-Copied-clause-takes
returns-in-Copied-clause-takes g c = turn_copied _ _ _ c.in-Copied.ensures.steps c.in-Copied.ensures.less

pub returns-in_ok-push-in-Executed-clause-takes : goal.returns-in_ok-push-in-Executed-clause-takes
returns-in_ok-push-in-Executed-clause-takes g c = turn_executed _ _ _ c.in-Executed.reply _ c.in-Executed.ensures.steps c.in-Executed.ensures.less c.in_ok-push-in-Executed.ensures.ok

pub returns-in_err-push-in-Executed-clause-takes : goal.returns-in_err-push-in-Executed-clause-takes
returns-in_err-push-in-Executed-clause-takes g c =
    let p = err_from_is_err_and c.from_residual.result c.from_residual.ensures.1 in
    rw (p.1, p.2) (inl (turn_dropped _ _ _ c.in-Executed.reply _ c.in-Executed.ensures.steps c.in_err-push-in-Executed.ensures.err))

pub returns-in-Idle-clause-takes : goal.returns-in-Idle-clause-takes
returns-in-Idle-clause-takes g c = turn_idle _ _ _ c.in-Idle.ensures.steps

pub returns-in-Bad-clause-takes : goal.returns-in-Bad-clause-takes
returns-in-Bad-clause-takes g c = turn_bad _ _ _ (record { kind = c.in-Bad.kind; place = c.in-Bad.place }) c.in-Bad.ensures.steps

pub returns-in-Lost-clause-takes : goal.returns-in-Lost-clause-takes
returns-in-Lost-clause-takes g c = turn_lost _ _ _ c.in-Lost.ensures.steps

pub returns-in-NoMemory-clause-takes : goal.returns-in-NoMemory-clause-takes
returns-in-NoMemory-clause-takes g c = turn_short _ _ _ c.in-NoMemory.ensures.steps
