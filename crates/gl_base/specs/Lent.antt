-- What becomes of a map of numbers once the borrow of a value ends.
use Rattle.std.specs.Prelude.{ℕ, Option}
use Rattle.std.specs.Ordering.{nat_cmp}
use Rattle.std.specs.FinMap as map
use Rattle.std.specs.Borrow.{LendsIf, Fml, RattleType, MutBor}
use Rattle.gl_base.specs.contracts.number_map.NumberMap.{the_row}

-- the map ends with the value that was written at the key, and unchanged where nothing was lent
abbrev pub lends_value : (T : RattleType) → MutBor (map.FinMap nat_cmp T.Denot) → ℕ → Option (MutBor T.Denot) → Fml
lends_value T lender key lent = LendsIf (the_row T) T lender lent (λ written. map.insert lender.now key written) lender.now
