-- Rows with zeros between them.
use Prim.Native.Nat.{zero, suc}
use Rattle.std.proofs.Common.{◌≡◌, ◌<◌, ◌≤◌, ◌∙◌, ℕ, ◌+◌, ◌-◌, ◌*◌, ◌==◌, Bool, false, if◌then◌else◌, arith, ap, sym, refl, List, [], ◌++◌, length, take, drop, take-append-drop, length-drop, append_assoc, append-nil, add-one, take_all}
use Rattle.std.proofs.lemmas.List.{nil_from_length, drop-drop}
use Rattle.std.proofs.lemmas.Bool.Decides.{nat_tests}
use Rattle.std.specs.Prelude.{replicate}
use Rattle.gl_base.specs.PixelSizes.{with_padding}

-- what is left behind as many rows as stand
abbrev pub rows_left : ℕ → ℕ → ℕ → ℕ → List ℕ → List ℕ
rows_left zero n row gap bytes = with_padding n row gap bytes
rows_left (suc y) zero row gap bytes = []
rows_left (suc y) (suc n) row gap bytes = replicate gap 0 ++ with_padding (suc n) row gap bytes

-- a row, and what is left behind it
row_first : (m row gap y : ℕ) (bytes : List ℕ) → with_padding (suc m) row gap bytes ≡ take row bytes ++ rows_left (suc y) m row gap (drop row bytes)
row_first zero row gap y bytes = sym (append-nil (take row bytes))
row_first (suc m) row gap y bytes =
    let some : (suc m == 0) ≡ false = grind (arith, nat_tests) in
    ap (λ (last : Bool). if last then take row bytes else take row bytes ++ replicate gap 0 ++ with_padding (suc m) row gap (drop row bytes)) some
    ∙ append_assoc (take row bytes) (replicate gap 0) (with_padding (suc m) row gap (drop row bytes))

-- the next row behind those that stand
one_row : (m row gap y y1 : ℕ) (all bytes behind : List ℕ) → y1 ≡ suc y → behind ≡ drop row bytes → (all ++ take row bytes) ++ rows_left y1 m row gap behind ≡ all ++ with_padding (suc m) row gap bytes
one_row m row gap y y1 all bytes behind next rest =
    append_assoc all (take row bytes) (rows_left y1 m row gap behind)
    ∙ (λ i. all ++ (take row bytes ++ rows_left (next i) m row gap (rest i)))
    ∙ ap (λ (bs : List ℕ). all ++ bs) (sym (row_first m row gap y bytes))

-- the row behind those that stand, with the zeros before it, unless it is the first
pub next_row : (height row gap y : ℕ) (all filled bytes whole : List ℕ) → y < height → (y ≡ 0 → filled ≡ all) → (0 < y → filled ≡ all ++ replicate gap 0) → all ++ rows_left y (height - y) row gap (drop (y * row) bytes) ≡ whole
    → (filled ++ take row (drop (y * row) bytes)) ++ rows_left (y + 1) (height - (y + 1)) row gap (drop ((y + 1) * row) bytes) ≡ whole
next_row height row gap zero all filled bytes whole within begins goes so_far =
    let less : height - 0 ≡ suc (height - (0 + 1)) = omega arith in
    let further : 0 * row + row ≡ (0 + 1) * row = grind arith in
    one_row (height - (0 + 1)) row gap 0 (0 + 1) filled (drop (0 * row) bytes) (drop ((0 + 1) * row) bytes) (add-one 0) (sym (drop-drop row (0 * row) bytes ∙ ap (λ (at : ℕ). drop at bytes) further))
    ∙ (λ i. begins refl i ++ with_padding (sym less i) row gap (drop (0 * row) bytes)) ∙ so_far
next_row height row gap (suc y) all filled bytes whole within begins goes so_far =
    let less : height - suc y ≡ suc (height - (suc y + 1)) = omega arith in
    let further : suc y * row + row ≡ (suc y + 1) * row = grind arith in
    let some : 0 < suc y = omega arith in
    let rest : List ℕ = drop (suc y * row) bytes in
    one_row (height - (suc y + 1)) row gap (suc y) (suc y + 1) filled rest (drop ((suc y + 1) * row) bytes) (add-one (suc y)) (sym (drop-drop row (suc y * row) bytes ∙ ap (λ (at : ℕ). drop at bytes) further))
    ∙ ap (λ (bs : List ℕ). bs ++ with_padding (suc (height - (suc y + 1))) row gap rest) (goes some)
    ∙ append_assoc all (replicate gap 0) (with_padding (suc (height - (suc y + 1))) row gap rest)
    ∙ ap (λ (n : ℕ). all ++ rows_left (suc y) n row gap rest) (sym less)
    ∙ so_far

-- zeros behind what stands
pub with_zeros : (n count gap : ℕ) (all : List ℕ) → n ≡ count → count ≡ length all → take (n + gap) all ++ replicate (n + gap - count) 0 ≡ all ++ replicate gap 0
with_zeros n count gap all same is =
    let short : length all ≤ n + gap = omega (arith, is) in
    let more : n + gap - count ≡ gap = omega (arith, is) in
    λ i. take_all (n + gap) all short i ++ replicate (more i) 0

-- Rows between which nothing lies

-- so many bytes are those of as many rows
pub rows_packed : (height row : ℕ) (bytes : List ℕ) → length bytes ≡ height * row → with_padding height row 0 bytes ≡ bytes
rows_packed zero row bytes whole = sym (nil_from_length bytes (omega (arith, whole)))
rows_packed (suc zero) row bytes whole = let all : length bytes ≡ row = grind arith in take_all row bytes (omega (arith, all))
rows_packed (suc (suc n)) row bytes whole =
    let left : length (drop row bytes) ≡ suc n * row = length-drop row bytes ∙ one_less (suc n) row (length bytes) whole in
    row_first (suc n) row 0 0 bytes
    ∙ ap (λ (rest : List ℕ). take row bytes ++ rest) (rows_packed (suc n) row (drop row bytes) left)
    ∙ take-append-drop row bytes
  where
    one_less : (n row count : ℕ) → count ≡ suc n * row → count - row ≡ n * row
    one_less n row count is = grind arith

-- so they are their rows, where these need no padding
pub packed : (height row step : ℕ) (bytes : List ℕ) → step ≡ row → length bytes ≡ height * row → bytes ≡ with_padding height row (step - row) bytes
packed height row step bytes same whole = let none : step - row ≡ 0 = omega (arith, same) in sym (ap (λ (gap : ℕ). with_padding height row gap bytes) none ∙ rows_packed height row bytes whole)
