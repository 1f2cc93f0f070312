-- What becomes of a name space once the borrow of an object ends.
use Rattle.std.specs.Prelude.{ℕ, Option}
use Rattle.std.specs.FinMap as map
use Rattle.std.specs.Borrow.{LendsIf, Fml, RattleType, MutBor}
use Rattle.strict_driver.specs.contracts.name_space.NameSpace.{the_row}
use Rattle.strict_driver.specs.Standings.{Space}

-- the space ends with the object that was written at the name, and unchanged where nothing was lent
abbrev pub lends_object : (T : RattleType) → MutBor (Space T.Denot) → ℕ → Option (MutBor T.Denot) → Fml
lends_object T space name lent = LendsIf (the_row T) T space lent (λ written. record space.now { objects = map.insert space.now.objects name written }) space.now
