use Rattle.std.proofs.Common.{◌≡◌, ℕ, List, Option, is_none, ap}
use Rattle.decode_query.proofs.values.is_unknown.Goals as goal

pub returns-in-Some : goal.returns-in-Some
returns-in-Some c = λ s. ap (λ (o : Option (List ℕ)). is_none o) (c.in-Some.ensures s)

pub returns-in-None : goal.returns-in-None
returns-in-None c = λ s. ap (λ (o : Option (List ℕ)). is_none o) (c.in-None.ensures s)
