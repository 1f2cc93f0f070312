-- Numbers that are listed once each.
use Rattle.std.specs.Prelude.{◌≡◌, ℕ, Bool, List, ◌==◌}
use Rattle.std.specs.List.{list_any}
use Rattle.std.specs.Ordering.{nat_cmp}
use Rattle.std.specs.FinMap as map

-- whether a number is listed
abbrev pub is_listed : List ℕ → ℕ → Bool
is_listed numbers n = list_any (λ m. m == n) numbers

-- the keys are the listed numbers
abbrev pub AreKeys : {T : Type 0} → map.FinMap nat_cmp T → List ℕ → Type 0
AreKeys keys numbers = (n : ℕ) → map.contains_key keys n ≡ is_listed numbers n
