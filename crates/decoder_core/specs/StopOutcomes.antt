-- How a stop is answered: by an execution, by the service, and by a step.
use Rattle.std.specs.Prelude.{ℕ, Option, None, Some, Result, Ok, Err}
use Rattle.gl_plain.specs.declared.calls.Reply.{Reply}
use Rattle.gl_plain.specs.declared.stop.ExecStop.{ExecStop}
use Rattle.gl_plain.specs.declared.stop.ExecStop.TheVariants as exec
use Rattle.decoder_core.specs.declared.outcome.Outcome.{Outcome}
use Rattle.decoder_core.specs.declared.outcome.Outcome.TheVariants as outcomes
use Rattle.decoder_core.specs.declared.outcome.ServiceStop.{ServiceStop}
use Rattle.decoder_core.specs.declared.outcome.ServiceStop.TheVariants.{Bad, Lost, NoMemory}
use Rattle.decoder_core.specs.declared.outcome.StepOutcome.{StepOutcome}
use Rattle.decoder_core.specs.declared.outcome.StepOutcome.TheVariants as steps

-- the outcome of each execution from a stop on
abbrev pub outcome_of : ExecStop → Outcome
outcome_of (exec.Bad kind) = outcomes.Bad kind
outcome_of exec.Lost = outcomes.Lost
outcome_of exec.NoMemory = outcomes.NoMemory

-- the reply of an outcome, or the stop
abbrev pub result_of : Outcome → Result Reply ExecStop
result_of (outcomes.Done reply) = Ok reply
result_of (outcomes.Bad kind) = Err (exec.Bad kind)
result_of outcomes.Lost = Err exec.Lost
result_of outcomes.NoMemory = Err exec.NoMemory

-- the stop that a result is, if it is one
abbrev pub stop_in : {T : Type 0} → Result T ExecStop → Option ExecStop
stop_in (Ok x) = None
stop_in (Err stop) = Some stop

-- the service stops where the command at a place does
abbrev pub service_stop : ℕ → ExecStop → ServiceStop
service_stop place (exec.Bad kind) = Bad (record { kind = kind; place = place })
service_stop place exec.Lost = Lost
service_stop place exec.NoMemory = NoMemory

-- the outcome of each step of the service from a stop on
abbrev pub step_of : ServiceStop → StepOutcome
step_of (Bad stop) = steps.Bad stop.kind stop.place
step_of Lost = steps.Lost
step_of NoMemory = steps.NoMemory

-- the service ends for want of memory
abbrev pub no_memory : ServiceStop
no_memory = NoMemory
