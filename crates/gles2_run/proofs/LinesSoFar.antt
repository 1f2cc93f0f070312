-- The lines of the first items of a list.
use Rattle.std.proofs.Common.{◌≡◌, ℕ, ◌+◌, ◌<◌, List, [], ◌∷◌, ◌++◌, length, take, drop, get_or, refl, sym, ◌∙◌, ap, arith, append_assoc, append-nil}
use Rattle.std.proofs.lemmas.List.{take_more, take-append-drop, length-take}
use Rattle.report_text.specs.Lines.{lines}

-- lines behind others go on with the next number
lines-append : {T : Type 0} (line : ℕ → T → List ℕ) (k n : ℕ) (front rest : List T) → k + length front ≡ n
    → lines line k (front ++ rest) ≡ lines line k front ++ lines line n rest
lines-append line k n [] rest e = let same : k ≡ n = omega arith in rw same refl
lines-append line k n (item ∷ front) rest e = rw (lines-append line (k + 1) n front rest (omega arith), append_assoc) refl

-- the line of the next item follows those so far
pub lines-more : {T : Type 0} (line : ℕ → T → List ℕ) (items : List T) (item : T) (i : ℕ) → i < length items → item ≡ get_or items i item
    → lines line 0 (take (i + 1) items) ≡ lines line 0 (take i items) ++ line i item
lines-more line items item i inside is =
    let next = lines-append line 0 i (take i items) (item ∷ []) (omega (arith, length-take i items)) in
    rw (take_more items i item inside, ← is, next, append-nil) refl

-- the lines so far are a front of all
pub lines-front : {T : Type 0} (line : ℕ → T → List ℕ) (items : List T) (i : ℕ) → lines line 0 items ≡ lines line 0 (take i items) ++ lines line (length (take i items)) (drop i items)
lines-front line items i =
    ap (lines line 0) (sym (take-append-drop i items)) ∙ lines-append line 0 (length (take i items)) (take i items) (drop i items) (omega arith)
