use Rattle.std.proofs.lemmas.Result.{err_from_is_err_and}
use Rattle.decoder_core.proofs.Turns.{takes_copy, takes_command, drops_reply, finds_fault, loses_driver, runs_out}
use Rattle.decoder_core.proofs.serving.one.Goals as goal

pub returns-in-Copied-clause-takes : goal.returns-in-Copied-clause-takes
returns-in-Copied-clause-takes g c = let e = c.in-Copied.ensures in takes_copy _ _ _ e.steps e.agrees e.place e.less

pub returns-in_ok-push-in-Executed-clause-takes : goal.returns-in_ok-push-in-Executed-clause-takes
returns-in_ok-push-in-Executed-clause-takes g c =
    let e = c.in-Executed.ensures in takes_command _ _ _ c.in-Executed.reply _ e.steps e.place e.less c.in_ok-push-in-Executed.ensures.ok

pub returns-in_err-push-in-Executed-clause-takes : goal.returns-in_err-push-in-Executed-clause-takes
returns-in_err-push-in-Executed-clause-takes g c =
    let p = err_from_is_err_and c.from_residual.result c.from_residual.ensures.1 in
    rw (p.1, p.2) (drops_reply _ _ _ c.in-Executed.reply _ c.in-Executed.ensures.steps c.in_err-push-in-Executed.ensures.err)

pub returns-in-Bad-clause-takes : goal.returns-in-Bad-clause-takes
returns-in-Bad-clause-takes g c = let e = c.in-Bad.ensures in finds_fault _ _ _ c.requires.going (record { kind = c.in-Bad.kind; place = c.in-Bad.place }) e.steps c.requires.agrees e.place

pub returns-in-Lost-clause-takes : goal.returns-in-Lost-clause-takes
returns-in-Lost-clause-takes g c = loses_driver _ _ _ c.requires.going c.in-Lost.ensures.steps

pub returns-in-NoMemory-clause-takes : goal.returns-in-NoMemory-clause-takes
returns-in-NoMemory-clause-takes g c = runs_out _ _ _ c.requires.going c.in-NoMemory.ensures.steps
