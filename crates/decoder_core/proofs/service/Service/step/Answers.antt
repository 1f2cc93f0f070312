use Rattle.decoder_core.specs.ServiceInvariant.{view_of}
use Rattle.decoder_core.proofs.Steps.{steps_again, steps_reading, steps_executed, steps_stopped}
use Rattle.decoder_core.proofs.service.Service.step.Goals as goal

pub returns-in-Some-clause-steps : goal.returns-in-Some-clause-steps
returns-in-Some-clause-steps g c =
    rw (c.into.ensures, ← c.self.view_is) (steps_again g.met.D.Driver.grown_itself (view_of c.self.inside) _ c.args.driver.now c.in-Some.stop c.in-Some.is)

pub returns-in-None-clause-steps : goal.returns-in-None-clause-steps
returns-in-None-clause-steps g c = steps_reading g.met.D.Driver.grown_itself c.args.self.now _ c.args.driver.now c.read.new.self _ c.read.result c.read.ensures.step

pub returns-in-None-clause-place : goal.returns-in-None-clause-place
returns-in-None-clause-place g c = c.read.ensures.place (g.D.Driver.history c.args.driver.now)

pub returns-in-Ok-clause-steps : goal.returns-in-Ok-clause-steps
returns-in-Ok-clause-steps g c =
    rw (← c.self.view_is) (steps_executed (view_of c.self.inside) _ _ c.carry_out.new.tables c.in-Some-waiting.command c.in_default.is c.in-Some-waiting.is c.args.driver.now c.carry_out.new.driver c.in-Ok.reply c.in-Ok.ensures.carries)

pub returns-in-Err-clause-steps : goal.returns-in-Err-clause-steps
returns-in-Err-clause-steps g c =
    rw (c.stopped.ensures.outcome, c.stopped.ensures.kept, ← c.self.view_is) (steps_stopped (view_of c.self.inside) _ _ c.carry_out.new.tables c.in-Some-waiting.command c.in_default.is c.in-Some-waiting.is c.args.driver.now c.carry_out.new.driver c.in-Err.stop c.in-Err.ensures.carries)
