-- Calls of which some are named to fail.
use Rattle.std.specs.Prelude.{◌≡◌, ℕ, Result, Contains}
use Rattle.std.specs.Global.{Vec}
use Rattle.io_edge.specs.declared.calls.Calls.{Calls}
use Rattle.io_edge.specs.Causes.{one_more, count_after}

-- no call was made yet, and these fail, counted from 0
abbrev pub no_calls : Vec ℕ → Calls
no_calls failing = record { failing = failing; made = 0; faults = 0 }

-- the next call is one of those that fail
abbrev pub FailsNext : Calls → Type 0
FailsNext calls = Contains calls.failing.items calls.made

-- one call more was made, which had this result
pub record CountsCall {T E : Type 0} (old new : Calls) (result : Result T E) : Type 0 where
  pub same : new.failing ≡ old.failing
  pub made : new.made ≡ one_more old.made
  pub faults : new.faults ≡ count_after result old.faults
