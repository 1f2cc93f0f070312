-- What is seen of a decoder.
use Rattle.std.specs.Prelude.{◌≡◌, Option}
use Rattle.gl_plain.specs.declared.stop.ExecStop.{ExecStop}
use Rattle.gl_plain.specs.State.{WireState}
use Rattle.decoder_core.specs.declared.decoder.Decoder.{Decoder}
use Rattle.decoder_core.specs.declared.outcome.Outcome.{Outcome}
use Rattle.decoder_core.specs.StopOutcomes.{outcome_of}
use Rattle.decoder_core.specs.Execution.{state_of}

-- its state
abbrev pub decoder_state : Decoder → WireState
decoder_state b = state_of b.tables

-- why it stopped, if it did
abbrev pub decoder_stop : Decoder → Option ExecStop
decoder_stop b = b.stop

-- the decoder stopped before: it answers that again, and nothing is done
pub record StaysStopped {D : Type 0} (b : Decoder) (d : D) (b2 : Decoder) (d2 : D) (outcome : Outcome) (stop : ExecStop) : Type 0 where
  pub outcome_is : outcome ≡ outcome_of stop
  pub same : b2 ≡ b
  pub same_driver : d2 ≡ d
