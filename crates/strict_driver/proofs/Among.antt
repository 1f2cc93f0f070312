-- What a search in a list that does not fall says.
use Rattle.std.proofs.Common.{◌≡◌, ◌<◌, ◌≤◌, ℕ, zero, suc, Bool, true, false, ◌||◌, ◌==◌, List, [], ◌∷◌, length, get_or, Result, Ok, Err, MatchResult, refl, sym, ◌∙◌, ap, arith, inl, inr}
use Rattle.std.proofs.lemmas.Bool.{cases_lt}
use Rattle.std.proofs.lemmas.Bool.Decides.{eqb_tells}
use Rattle.std.specs.List.{list_any}
use Rattle.std.specs.Result.{is_ok}

or_true : (b : Bool) → (b || true) ≡ true
or_true true = refl
or_true false = refl

-- what is at a place is among them
any_at : (xs : List ℕ) (x i : ℕ) → i < length xs → get_or xs i 0 ≡ x → list_any (λ n. n == x) xs ≡ true
any_at [] x i within is = absurd (omega arith)
any_at (y ∷ ys) x zero within is = elim (eqb_tells y x) [ inl p ↦ ap (λ b. b || list_any (λ n. n == x) ys) p.0 | inr p ↦ absurd (p.1 is) ]
any_at (y ∷ ys) x (suc i) within is = ap (λ b. (y == x) || b) (any_at ys x i (omega arith) is) ∙ or_true (y == x)

-- what is at no place is not among them
pub none_at : (xs : List ℕ) (x : ℕ) → ((k : ℕ) → k < length xs → get_or xs k 0 ≡ x → ⊥) → list_any (λ n. n == x) xs ≡ false
none_at [] x h = refl
none_at (y ∷ ys) x h = elim (eqb_tells y x) [
  | inl p ↦ absurd (h 0 (omega arith) p.1)
  | inr p ↦ ap (λ b. b || list_any (λ n. n == x) ys) p.0 ∙ none_at ys x (λ k within is. h (suc k) (omega arith) is)
]

-- a search finds a number where it is among them
pub found_is_among : (xs : List ℕ) (x : ℕ) (r : Result ℕ ℕ) → MatchResult r (λ i. (i < length xs) × (get_or xs i 0 ≡ x)) (λ i. (i ≤ length xs) × ((k : ℕ) → k < i → get_or xs k 0 < x) × ((k : ℕ) → i ≤ k → k < length xs → x < get_or xs k 0)) → is_ok r ≡ list_any (λ n. n == x) xs
found_is_among xs x (Ok i) found = sym (any_at xs x i found.0 found.1)
found_is_among xs x (Err i) apart = sym (none_at xs x (λ k within is. elim (cases_lt k i) [ inl below ↦ let h = apart.1 k below in absurd (omega arith) | inr above ↦ let h = apart.2 k above within in absurd (omega arith) ]))
