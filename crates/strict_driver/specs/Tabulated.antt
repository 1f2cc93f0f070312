-- Finite maps that are made of a function and keys.
use Rattle.std.specs.Prelude.{ℕ, List, [], ◌∷◌, Option, None, Some}
use Rattle.std.specs.Option.{option_map}
use Rattle.std.specs.Ordering.{nat_cmp}
use Rattle.std.specs.FinMap as map

module _ {X : Type 0} where
  abbrev pub with_found : ℕ → Option X → map.FinMap nat_cmp X → map.FinMap nat_cmp X
  with_found key None m = m
  with_found key (Some x) m = map.insert m key x

  -- the map that has for each of these keys what a function gives
  abbrev pub tabulated : (ℕ → Option X) → List ℕ → map.FinMap nat_cmp X
  tabulated f [] = map.empty
  tabulated f (key ∷ keys) = with_found key (f key) (tabulated f keys)

-- the map with other values
abbrev pub map_values : {X Y : Type 0} → (X → Y) → map.FinMap nat_cmp X → map.FinMap nat_cmp Y
map_values f m = tabulated (λ key. option_map f (map.get m key)) (map.keys m)
