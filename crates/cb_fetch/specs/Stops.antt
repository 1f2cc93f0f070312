-- The outcome of each step of a fetcher that stopped.
use Rattle.cb_fetch.specs.declared.outcome.FetchStop.{FetchStop}
use Rattle.cb_fetch.specs.declared.outcome.FetchStop.TheVariants as stops
use Rattle.cb_fetch.specs.declared.outcome.FetchOutcome.{FetchOutcome}
use Rattle.cb_fetch.specs.declared.outcome.FetchOutcome.TheVariants.{Bad, NoMemory}

abbrev pub outcome_of : FetchStop → FetchOutcome
outcome_of (stops.Bad stop) = Bad stop.kind stop.place
outcome_of stops.NoMemory = NoMemory
