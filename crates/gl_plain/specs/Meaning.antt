-- What a command means.
use Rattle.std.specs.Prelude.{ℕ, Bool, true, false, ◌||◌, List, [], Option, None, Some}
use Rattle.gl_plain.specs.declared.driver_calls.DriverCall.{DriverCall}
use Rattle.gl_plain.specs.declared.commands.Command.{Command}
use Rattle.gl_plain.specs.declared.commands.Fetched.{Fetched}
use Rattle.gl_plain.specs.Oracle.{Oracle}
use Rattle.gl_plain.specs.State.{WireState}
use Rattle.gl_plain.specs.Outcome.{Outcome, leaves}
use Rattle.gl_plain.specs.Commands.{command_of}
use Rattle.gl_plain.specs.subjects.Buckets.{breaks_bucket_rule, names_no_bucket, with_reply}
use Rattle.gl_plain.specs.Wire.{is_bad, data_words, reply_bucket, given_to, own_step, wire_step, own_calls, command_calls}

-- whether a command's arguments are malformed, and, by the answers that it is given, what it leaves and which driver calls it makes
pub record Meaning (S : Type 0) : Type 0 where
  pub bad : Bool
  pub step : Oracle → Outcome S
  pub calls : Oracle → List DriverCall

-- a command, in a state of the service, with its data
abbrev pub command_meaning : WireState → Command → List ℕ → Meaning WireState
command_meaning w c payload = record { bad = is_bad w c; step = wire_step w c payload; calls = command_calls w c payload }

-- what is left of a command behind its zeroings, where it is neither malformed nor refused
abbrev pub own_meaning : WireState → Command → List ℕ → Meaning WireState
own_meaning w c payload = record { bad = false; step = own_step w c payload; calls = own_calls w c payload }

-- no command is malformed
abbrev pub no_meaning : WireState → Meaning WireState
no_meaning w = record { bad = true; step = leaves w; calls = λ o. [] }

-- what a command leaves, with its reply in the bucket that it names
abbrev pub delivered : Option ℕ → Outcome WireState → Outcome WireState
delivered bucket out = record { state = record out.state { buckets = with_reply out.state.buckets bucket out.reply }; oracle = out.oracle; reply = out.reply }

-- a command whose reply goes into a bucket, if it goes into one
abbrev pub delivering : Option ℕ → Meaning WireState → Meaning WireState
delivering None m = m
delivering (Some bucket) m = record { bad = m.bad; step = λ o. delivered (Some bucket) (m.step o); calls = m.calls }

-- a command whose data or reply may lie in a bucket, where it breaks no rule of the bucket
abbrev pub meaning_if : (broken : Bool) → WireState → Command → List ℕ → Meaning WireState
meaning_if true w c payload = no_meaning w
meaning_if false w c payload = delivering (reply_bucket c) (command_meaning w c (given_to w c payload))

-- a rule on buckets is broken
abbrev pub breaks_a_bucket_rule : WireState → Command → Bool
breaks_a_bucket_rule w c = breaks_bucket_rule w.buckets (data_words c) || names_no_bucket (reply_bucket c)

-- the command that is spelled, if one is, with the bytes that come beside it
abbrev pub meaning_by : WireState → Option Command → List ℕ → Meaning WireState
meaning_by w None payload = no_meaning w
meaning_by w (Some c) payload = meaning_if (breaks_a_bucket_rule w c) w c payload

-- a fetched command
abbrev pub meaning_of : WireState → Fetched → Meaning WireState
meaning_of w f = meaning_by w (command_of f) f.payload
