-- Maps of numbers with other values.
use Rattle.std.specs.Prelude.{ℕ, map}
use Rattle.std.specs.Ordering.{nat_cmp}
use Rattle.std.specs.FinMap as table

-- the map with other values
abbrev pub map_values : {X Y : Type 0} → (X → Y) → table.FinMap nat_cmp X → table.FinMap nat_cmp Y
map_values f m = table.from_entries (map (λ (e : ℕ × _). (e.0, f e.1)) (table.entries m))
