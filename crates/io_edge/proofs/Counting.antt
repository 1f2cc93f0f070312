-- Counts of faults that go up.
use Rattle.std.proofs.Common.{◌≡◌, ◌≤◌, ℕ, Result, Ok, Err, arith}
use Rattle.std.proofs.lemmas.Bool.Decides.{nat_tests}
use Rattle.io_edge.specs.Causes.{Rose, HasCause, count_after}

-- a rise after a count that did not fall is a rise from before
pub Rose-later : (a b c : ℕ) → a ≤ b → Rose b c → Rose a c
Rose-later a b c later rose = grind arith

-- a count that goes up at each failed call has its cause
pub counted_cause : {T E : Type 0} (before now : ℕ) (result : Result T E)
    → now ≡ count_after result before → HasCause before now result
counted_cause before now (Ok value) counted = record { later = grind (arith, nat_tests); failed = tt; kept = counted }
counted_cause before now (Err e) counted =
    record { later = grind (arith, nat_tests); failed = grind (arith, nat_tests); kept = tt }
