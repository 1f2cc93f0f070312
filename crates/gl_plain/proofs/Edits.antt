-- Lists whose items are replaced one after the other.
use Rattle.std.proofs.Common.{◌≡◌, ◌<◌, ◌+◌, ◌++◌, ℕ, List, length, take, drop, get_or, slice_set}
use Rattle.std.specs.Prelude.{map}
use Rattle.std.proofs.lemmas.List.{get_or_default}
use Rattle.std.proofs.lemmas.List.Edits.{map_over_more}

-- a write at the next place, of what a function gives for what is there
pub written : {X : Type 0} (f : X → X) (xs ys : List X) (i : ℕ) (d : X) → i < length xs → i < length ys → ys ≡ map f (take i xs) ++ drop i xs → slice_set ys i (f (get_or ys i d)) ≡ map f (take (i + 1) xs) ++ drop (i + 1) xs
written f xs ys i d within there so = map_over_more f xs ys i (get_or ys i d) within so (get_or_default ys i d (get_or ys i d) there)
