use Rattle.std.proofs.Common.{◌≡◌, ℕ, List, [], Option, ap, ◌∙◌, unwrap_or}
use Rattle.decode_query.proofs.values.state_words.Goals as goal

pub returns-in-Some : goal.returns-in-Some
returns-in-Some c = λ s. ap (λ (o : Option (List ℕ)). unwrap_or o []) (c.in-Some.ensures s)

pub returns-in-None : goal.returns-in-None
returns-in-None c = λ s. c.new.ensures ∙ ap (λ (o : Option (List ℕ)). unwrap_or o []) (c.in-None.ensures s)
