-- What is seen of a fetcher.
use Rattle.std.specs.Prelude.{ℕ, Option, None}
use Rattle.cb_fetch.specs.declared.outcome.FetchStop.{FetchStop}
use Rattle.cb_fetch.specs.Begun.{Begun, Nothing}

-- how many entries its ring has, the put that it was given last, the entry where the command stands, what was copied of that, and why
-- it stopped, if it did
pub record FetchView : Type 0 where
  pub entries : ℕ
  pub put : ℕ
  pub get : ℕ
  pub begun : Begun
  pub stop : Option FetchStop

-- a fetcher that read nothing
abbrev pub new_fetcher : ℕ → FetchView
new_fetcher entries = record { entries = entries; put = 0; get = 0; begun = Nothing; stop = None }
