-- The ways in which a step of the service ends.
use Rattle.std.proofs.Common.{◌≡◌, List, [], refl, None, Some, Ok, Err, inl, inr}
use Rattle.gl_driver.specs.History.{History}
use Rattle.gl_driver.proofs.Laws.{Served-nothing}
use Rattle.gl_plain.specs.declared.calls.Reply.{Reply}
use Rattle.gl_plain.specs.declared.commands.Fetched.{Fetched}
use Rattle.gl_plain.specs.declared.driver_calls.DriverEntry.{DriverEntry}
use Rattle.cb_shm.specs.Memory.{MemoryView}
use Rattle.decoder_core.specs.declared.outcome.ServiceStop.{ServiceStop}
use Rattle.decoder_core.specs.declared.outcome.ServiceStop.TheVariants.{Bad, Lost, NoMemory}
use Rattle.decoder_core.specs.declared.outcome.StepOutcome.{StepOutcome}
use Rattle.decoder_core.specs.declared.outcome.StepOutcome.TheVariants.{Executed}
use Rattle.decoder_core.specs.StopOutcomes.{step_of}
use Rattle.decoder_core.specs.declared.tables.Tables.{Tables}
use Rattle.decoder_core.specs.Execution.{state_of}
use Rattle.decoder_core.specs.Replying.{IsCarriedOut, CarriesOut}
use Rattle.decoder_core.specs.ServiceView.{ServiceView, wire_of}
use Rattle.decoder_core.specs.Side.{Side, side}
use Rattle.decoder_core.specs.Step.{IsStep, Steps, WasStopped}
use Rattle.decoder_core.proofs.RunsOn.{HasRun-step}

stays : (a : Side History) (stop : ServiceStop) → a.service.stop ≡ Some stop → WasStopped a a [] stop
stays a stop is = record { stopped = is; after = refl; same = refl; untouched = record { no_calls = refl; same_driver = refl } }

again : (a : Side History) (stop : ServiceStop) → a.service.stop ≡ Some stop → IsStep a a [] (step_of stop)
again a (Bad stop) is = inr (stays a (Bad stop) is)
again a Lost is = inr (stays a Lost is)
again a NoMemory is = inr (stays a NoMemory is)

module _ {D : Type 0} {history : D → History} {grown : D → D → Type 0} (itself : (d : D) → grown d d) (s : ServiceView) (m : MemoryView) (d : D) where
  -- the service stopped before, and answers the same
  pub steps_again : (stop : ServiceStop) → s.stop ≡ Some stop → Steps history grown (side s m d) (side s m d) (step_of stop)
  steps_again stop is = record { entries = []; served = Served-nothing itself d; step = again (side s m (history d)) stop is }

  -- a step that makes no driver call
  pub steps_reading : (s2 : ServiceView) (m2 : MemoryView) (outcome : StepOutcome) → ((h : History) → IsStep (side s m h) (side s2 m2 h) [] outcome) → Steps history grown (side s m d) (side s2 m2 d) outcome
  steps_reading s2 m2 outcome step = record { entries = []; served = Served-nothing itself d; step = step (history d) }

module _ (s : ServiceView) (m m2 : MemoryView) (t2 : Tables) (command : Fetched) (going : s.stop ≡ None) (waits : s.waiting ≡ Some command) where
  -- the command that waited was executed, and its reply written
  step_executed : (h h2 : History) (reply : Reply) (entries : List DriverEntry) → IsCarriedOut command (wire_of s) m h entries (state_of t2) m2 h2 (Ok reply)
      → IsStep (side s m h) (side (record s { tables = t2; waiting = None }) m2 h2) entries (Executed reply)
  step_executed h h2 reply entries carried = record {
    going = going;
    command = command;
    waited = waits;
    did = carried.0;
    after = refl;
    put = carried.1;
    run = λ w commands replies entered had. HasRun-step w commands (wire_of s) replies entered command h h2 entries (state_of t2) reply carried.0.itself had;
  }

  -- the service stopped at it
  step_stopped : (h h2 : History) (stop : ServiceStop) (entries : List DriverEntry) → IsCarriedOut command (wire_of s) m h entries (state_of t2) m2 h2 (Err stop)
      → IsStep (side s m h) (side (record s { tables = t2; stop = Some stop }) m2 h2) entries (step_of stop)
  step_stopped h h2 (Bad stop) entries carried = inl (record {
    going = going;
    faulty = inr (command, waits, carried.0.bad, carried.0.kind_is, carried.1, carried.2, refl);
    after = refl;
    same_state = carried.0.same;
    untouched = record { no_calls = carried.0.no_calls; same_driver = carried.0.same_driver };
  })
  step_stopped h h2 Lost entries carried = inl (record { going = going; command = command; waited = waits; lost = carried.0; after = refl; same = carried.1 })
  step_stopped h h2 NoMemory entries carried = inl (record { going = going; short = inr (command, waits, carried.0, refl); after = refl; same = carried.1 })

  module _ {D : Type 0} {history : D → History} {grown : D → D → Type 0} (d d2 : D) where
    pub steps_executed : (reply : Reply) → CarriesOut history grown command (wire_of s) m d (state_of t2) m2 d2 (Ok reply)
        → Steps history grown (side s m d) (side (record s { tables = t2; waiting = None }) m2 d2) (Executed reply)
    steps_executed reply c = record { entries = c.entries; served = c.served; step = step_executed (history d) (history d2) reply c.entries c.carried }

    pub steps_stopped : (stop : ServiceStop) → CarriesOut history grown command (wire_of s) m d (state_of t2) m2 d2 (Err stop)
        → Steps history grown (side s m d) (side (record s { tables = t2; stop = Some stop }) m2 d2) (step_of stop)
    steps_stopped stop c = record { entries = c.entries; served = c.served; step = step_stopped (history d) (history d2) stop c.entries c.carried }
