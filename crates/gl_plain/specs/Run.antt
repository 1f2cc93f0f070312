-- Runs of many commands.
use Rattle.std.specs.Prelude.{ℕ, if◌then◌else◌, List, [], ◌∷◌, ◌++◌, Option, Some}
use Rattle.gl_plain.specs.declared.calls.Reply.{Reply}
use Rattle.gl_plain.specs.declared.commands.Fetched.{Fetched}
use Rattle.gl_plain.specs.declared.commands.Malformed.TheVariants.{InvalidArguments}
use Rattle.gl_plain.specs.declared.commands.Stop.{Stop}
use Rattle.gl_plain.specs.Oracle.{Oracle}
use Rattle.gl_plain.specs.State.{WireState}
use Rattle.gl_plain.specs.Meaning.{meaning_of}

-- what a run of commands gives: a reply for each, the malformed command that stopped it, if any, and the state
pub record Run : Type 0 where
  pub replies : List Reply
  pub stop : Option Stop
  pub state : WireState

-- these replies come before those of a run
abbrev pub after_replies : List Reply → Run → Run
after_replies replies run = record { replies = replies ++ run.replies; stop = run.stop; state = run.state }

-- a run that stops at once, at a command whose arguments are malformed
abbrev pub stopped_at : WireState → ℕ → Run
stopped_at w place = record { replies = []; stop = Some (record { kind = InvalidArguments; place = place }); state = w }

-- the commands in order, up to the first whose arguments are malformed, or to the stop behind the last of them
abbrev pub wire_run : WireState → List Fetched → Option Stop → Oracle → Run
wire_run w [] stop o = record { replies = []; stop = stop; state = w }
wire_run w (f ∷ fs) stop o =
    if (meaning_of w f).bad then stopped_at w f.place
    else after_replies (((meaning_of w f).step o).reply ∷ []) (wire_run ((meaning_of w f).step o).state fs stop ((meaning_of w f).step o).oracle)
