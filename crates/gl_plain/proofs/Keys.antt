-- The keys beside a list of numbers, when a number is added to both, and when it's taken from the keys again.
use Rattle.std.proofs.Common.{◌≡◌, ℕ, Bool, true, false, List, [], ◌∷◌, ◌++◌, refl, sym, ◌∙◌, ap, inl, inr, ◌||◌, is_some, eqb, eq-eqb, ne_eqb}
use Rattle.std.proofs.lemmas.List.Folds.{list_any-append}
use Rattle.std.specs.Ordering.{nat_cmp}
use Rattle.std.specs.FinMap as map
use Rattle.gl_base.proofs.Found.{get-insert_here, get-insert_other, get-remove_here, get-remove_other, test}
use Rattle.gl_plain.specs.Distinct.{is_listed, AreKeys}

or_true : (b : Bool) → (b || (true || false)) ≡ true
or_true true = refl
or_true false = refl

or_false : (b : Bool) → (b || (false || false)) ≡ b
or_false true = refl
or_false false = refl

-- the number that is added is listed
listed_here : (numbers : List ℕ) (n q : ℕ) → q ≡ n → is_listed (numbers ++ n ∷ []) q ≡ true
listed_here numbers n q same = list_any-append (λ m. eqb m q) numbers (n ∷ []) ∙ ap (λ b. is_listed numbers q || (b || false)) (eq-eqb n q (sym same)) ∙ or_true (is_listed numbers q)

-- any other is listed where it was
listed_other : (numbers : List ℕ) (n q : ℕ) → (eqb n q) ≡ false → is_listed (numbers ++ n ∷ []) q ≡ is_listed numbers q
listed_other numbers n q other = list_any-append (λ m. eqb m q) numbers (n ∷ []) ∙ ap (λ b. is_listed numbers q || (b || false)) other ∙ or_false (is_listed numbers q)

module _ {T : Type 0} (keys : map.FinMap nat_cmp T) (numbers : List ℕ) (n : ℕ) (x : T) (are : AreKeys keys numbers) where
  -- a number that is added to both
  pub keys_push : AreKeys (map.insert keys n x) (numbers ++ n ∷ [])
  keys_push q = elim (test q n) [
    | inl p ↦ ap is_some (ap (map.get (map.insert keys n x)) p.0 ∙ get-insert_here keys n x) ∙ sym (listed_here numbers n q p.0)
    | inr p ↦ ap is_some (get-insert_other keys n x q p.0) ∙ are q ∙ sym (listed_other numbers n q (ne_eqb n q (λ same. p.0 (sym same))))
  ]

  -- a new number that is added to the keys alone, and taken from them again
  pub keys_back : map.contains_key keys n ≡ false → AreKeys (map.remove (map.insert keys n x) n) numbers
  keys_back new q = elim (test q n) [
    | inl p ↦ ap is_some (ap (map.get (map.remove (map.insert keys n x) n)) p.0 ∙ get-remove_here (map.insert keys n x) n) ∙ sym (ap (is_listed numbers) p.0 ∙ sym (are n) ∙ new)
    | inr p ↦ ap is_some (get-remove_other (map.insert keys n x) n q p.0 ∙ get-insert_other keys n x q p.0) ∙ are q
  ]
