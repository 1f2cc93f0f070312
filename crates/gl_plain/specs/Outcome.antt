-- What a call leaves.
use Rattle.std.specs.Prelude.{ℕ, List, Option, None}
use Rattle.gl_plain.specs.declared.errors.GlError.{GlError}
use Rattle.gl_plain.specs.declared.calls.Reply.{Reply}
use Rattle.gl_plain.specs.declared.calls.Reply.TheVariants as reply
use Rattle.gl_plain.specs.Errors.{noted}
use Rattle.gl_plain.specs.Oracle.{Oracle}
use Rattle.gl_plain.specs.State.{EsState}

-- the state, the answers that are left, and the reply
pub record Outcome (S : Type 0) : Type 0 where
  pub state : S
  pub oracle : Oracle
  pub reply : Reply

-- a call that asks nothing and replies nothing
abbrev pub leaves : {S : Type 0} → S → Oracle → Outcome S
leaves s o = record { state = s; oracle = o; reply = reply.None }

-- the code is recorded
abbrev pub with_error : EsState → GlError → EsState
with_error s e = record s { errors = noted s.errors e }

-- what a call may choose: the names that a Gen gives, and the code, if any, that GetError gives
pub record Choice : Type 0 where
  pub names : List ℕ
  pub code : Option GlError

-- a choice of names alone
abbrev pub choosing : List ℕ → Choice
choosing names = record { names = names; code = None }
