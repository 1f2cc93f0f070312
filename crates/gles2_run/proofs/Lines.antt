-- How many lines a text has.
use Rattle.std.proofs.Common.{◌≤◌, ℕ, ◌+◌, List, [], ◌∷◌, Bool, true, false, eqb, cond, length, arith}
use Rattle.std.specs.List.{onto_first}
use Rattle.ring_script.specs.Script.{lines_of}

one_line_more : (c : ℕ) (lines : List (List ℕ)) (bound : ℕ) → length lines ≤ bound → length (onto_first c lines) ≤ bound + 1
one_line_more c [] bound le = omega arith
one_line_more c (line ∷ lines) bound le = omega arith

either : (b : Bool) (c : ℕ) (lines : List (List ℕ)) (bound : ℕ) → length lines ≤ bound → length (cond b ([] ∷ lines) (onto_first c lines)) ≤ bound + 1
either true c lines bound le = omega arith
either false c lines bound le = one_line_more c lines bound le

-- no more than it has bytes
pub lines_are_few : (text : List ℕ) → length (lines_of text) ≤ length text
lines_are_few [] = omega arith
lines_are_few (c ∷ cs) = omega (arith, either (eqb c 10) c (lines_of cs) (length cs) (lines_are_few cs))
