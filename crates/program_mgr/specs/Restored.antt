-- A map of numbers whose last change is taken back.
use Rattle.std.specs.Prelude.{ℕ, Option, None, Some}
use Rattle.std.specs.Ordering.{nat_cmp}
use Rattle.std.specs.FinMap as map

-- the key has this value, or none
abbrev pub restored : {T : Type 0} → map.FinMap nat_cmp T → ℕ → Option T → map.FinMap nat_cmp T
restored m key None = map.remove m key
restored m key (Some x) = map.insert m key x
