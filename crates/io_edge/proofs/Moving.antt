-- Bytes that are read or written in parts.
use Rattle.std.proofs.Common.{◌≡◌, ◌≤◌, ◌++◌, ◌+◌, ◌-◌, ℕ, List, length, take, drop, arith}
use Rattle.std.proofs.lemmas.Grind.{common_steps}
use Rattle.std.proofs.lemmas.List.{take-append-drop, drop-drop}

-- a front that takes the next n bytes of the rest
pub split_front : (bytes front rest : List ℕ) (n m : ℕ)
    → bytes ≡ front ++ rest → n ≤ length rest → m ≡ length rest - n
    → bytes ≡ (front ++ take n rest) ++ take m (drop n rest)
split_front bytes front rest n m whole fits over = grind (arith, common_steps)

-- a copy of the first n bytes that are left, and what is left after it
pub copied_front : (bytes left copied room : List ℕ) (at n : ℕ)
    → left ≡ drop at bytes → n ≤ length left → copied ≡ take n left
    → drop at bytes ≡ take n (copied ++ room) ++ drop (at + n) bytes
copied_front bytes left copied room at n rest fits copy =
    let split = take-append-drop n (drop at bytes) in
    let after = drop-drop n at bytes in
    grind (arith, common_steps)
