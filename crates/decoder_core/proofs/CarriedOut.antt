-- From the execution of a command to what the service makes of it.
use Rattle.std.proofs.Common.{◌≡◌, refl, Ok, Err}
use Rattle.gl_plain.specs.declared.calls.Reply.{Reply}
use Rattle.gl_plain.specs.declared.commands.Fetched.{Fetched}
use Rattle.gl_plain.specs.declared.stop.ExecStop.{ExecStop}
use Rattle.gl_plain.specs.declared.stop.ExecStop.TheVariants as exec
use Rattle.gl_plain.specs.State.{WireState}
use Rattle.gl_plain.specs.Meaning.{meaning_of}
use Rattle.gl_driver.specs.History.{History}
use Rattle.cb_shm.specs.Memory.{MemoryView}
use Rattle.decoder_core.specs.declared.outcome.ServiceStop.TheVariants as stops
use Rattle.decoder_core.specs.StopOutcomes.{service_stop}
use Rattle.decoder_core.specs.Execution.{Performs}
use Rattle.decoder_core.specs.Replying.{CarriesOut}
use Rattle.decoder_core.proofs.Fronts.{front_of_part}

module _ {D : Type 0} {history : D → History} {grown : D → D → Type 0} (f : Fetched) (w w2 : WireState) (d d2 : D) (m : MemoryView) where
  -- a command stops, and nothing is written
  pub carries_stop : (stop : ExecStop) → Performs history grown f w d w2 d2 (Err stop) → CarriesOut history grown f w m d w2 m d2 (Err (service_stop f.place stop))
  carries_stop (exec.Bad kind) p = record { entries = p.entries; served = p.served; carried = (p.outcome, refl, refl) }
  carries_stop exec.Lost p = record { entries = p.entries; served = p.served; carried = (p.outcome, refl) }
  carries_stop exec.NoMemory p = record { entries = p.entries; served = p.served; carried = (p.outcome, refl) }

  -- there was no memory for the reply of a command that was executed
  pub carries_no_reply : (m2 : MemoryView) (reply : Reply) → Performs history grown f w d w2 d2 (Ok reply) → m2 ≡ m → CarriesOut history grown f w m d w2 m2 d2 (Err stops.NoMemory)
  carries_no_reply m2 reply p same = record {
    entries = p.entries;
    served = p.served;
    carried = (front_of_part (meaning_of w f) (history d) (history d2) p.entries w2 reply p.outcome.itself, same);
  }
