-- What becomes of a table once the borrow of a value ends.
use Rattle.std.specs.Prelude.{ℕ, Option}
use Rattle.std.specs.Ordering.{nat_cmp}
use Rattle.std.specs.FinMap as map
use Rattle.std.specs.Borrow.{LendsIf, Fml, RattleType, MutBor}
use Rattle.svc_names.specs.contracts.table.NameTable.{the_row}

-- the table ends with the value that was written under the name, and unchanged where nothing was lent
abbrev pub lends_value : (T : RattleType) → MutBor (map.FinMap nat_cmp T.Denot) → ℕ → Option (MutBor T.Denot) → Fml
lends_value T table id lent = LendsIf (the_row T) T table lent (λ written. map.insert table.now id written) table.now
