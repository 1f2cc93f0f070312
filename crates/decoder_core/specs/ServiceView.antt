-- What is seen of a service.
use Rattle.std.specs.Prelude.{◌≡◌, ℕ, Option, None, Some}
use Rattle.gl_plain.specs.declared.commands.Fetched.{Fetched}
use Rattle.gl_plain.specs.State.{Surface, WireState, opening_wire}
use Rattle.cb_fetch.specs.Begun.{Nothing}
use Rattle.cb_fetch.specs.FetchViews.{FetchView, new_fetcher}
use Rattle.decoder_core.specs.declared.outcome.ServiceStop.{ServiceStop}
use Rattle.decoder_core.specs.declared.tables.Tables.{Tables}
use Rattle.decoder_core.specs.Execution.{state_of}

-- its fetcher, the command that was read whole and waits to be executed, its tables, and why it stopped, if it did
pub record ServiceView : Type 0 where
  pub fetch : FetchView
  pub waiting : Option Fetched
  pub tables : Tables
  pub stop : Option ServiceStop

-- the state that its tables are
abbrev pub wire_of : ServiceView → WireState
wire_of s = state_of s.tables

-- the service did nothing so far, for a default framebuffer of these sides and a ring of so many entries
pub record IsNewService (surface : Surface) (entries : ℕ) (s : ServiceView) : Type 0 where
  pub fetch : s.fetch ≡ new_fetcher entries
  pub none_waiting : s.waiting ≡ None
  pub opening : wire_of s ≡ opening_wire surface
  pub going : s.stop ≡ None

-- the client published put
abbrev pub with_put : ServiceView → ℕ → ServiceView
with_put s put = record s { fetch = record s.fetch { put = put } }

-- the entry of the command that is executed next
abbrev pub get_of : Option Fetched → ℕ → ℕ
get_of (Some command) next = command.place
get_of None next = next

-- the entry up to which the service has executed the commands
abbrev pub get_in : ServiceView → ℕ
get_in s = get_of s.waiting s.fetch.get

-- the service is between two commands
pub record IsAtRest (s : ServiceView) : Type 0 where
  pub going : s.stop ≡ None
  pub none_waiting : s.waiting ≡ None
  pub none_begun : s.fetch.begun ≡ Nothing
