-- Rows between which nothing lies.
use Prim.Native.Nat.{zero, suc}
use Rattle.std.proofs.Common.{◌≡◌, ◌≤◌, ◌<◌, ◌∙◌, mul-le-mul_right, ℕ, ◌+◌, ◌-◌, ◌*◌, ◌/◌, ◌==◌, ◌||◌, Bool, true, false, if◌then◌else◌, mul_comm, arith, ap, sym, subst, refl, List, [], ◌∷◌, ◌++◌, length, take, drop, take-append-drop, length-drop, append_assoc, append-nil, mul-zero, zero-mul, Option, None, Some, is_some, not}
use Rattle.std.proofs.lemmas.Bool.Decides.{nat_tests}
use Rattle.std.proofs.Math.Seq.{take-nil, drop-nil}
use Rattle.std.proofs.lemmas.List.{nil_from_length, drop-drop}
use Rattle.std.proofs.Math.Nat.{div-eq_of_lt}
use Rattle.gl_base.specs.PixelSizes.{bytes_or_none, rows_of, row_step, image_size, unpadded}
use Rattle.decode_images.specs.Unpadded.{IsLongEnough}

-- so many bytes are those of as many rows, each of its length
shorter : (n row count : ℕ) → IsLongEnough (suc n) row row count → IsLongEnough n row row (count - row)
shorter zero row count h = omega (arith, h)
shorter (suc n) row count h = grind arith

-- a row without pixels takes nothing
no_step : (alignment : ℕ) → 1 ≤ alignment → row_step 0 alignment ≡ 0
no_step alignment h = ap (λ (k : ℕ). k * alignment) (div-eq_of_lt (let low : 0 + (alignment - 1) < alignment = omega arith in low)) ∙ zero-mul alignment

-- they are their rows
pub rows_packed : (n row : ℕ) (bytes : List ℕ) → IsLongEnough n row row (length bytes) → rows_of n row row bytes ≡ bytes
rows_packed zero row bytes h = sym (nil_from_length bytes h)
rows_packed (suc n) row bytes h =
    ap (λ (rest : List ℕ). take row bytes ++ rest) (rows_packed n row (drop row bytes) (subst (IsLongEnough n row row) (sym (length-drop row bytes)) (shorter n row (length bytes) h)))
    ∙ take-append-drop row bytes

-- the row behind those that were taken
pub next_row : (height row step y : ℕ) (all bytes whole : List ℕ) → y < height → all ++ rows_of (height - y) row step (drop (y * step) bytes) ≡ whole → (all ++ take row (drop (y * step) bytes)) ++ rows_of (height - (y + 1)) row step (drop ((y + 1) * step) bytes) ≡ whole
next_row height row step y all bytes whole within so_far =
    let less : height - y ≡ suc (height - (y + 1)) = omega arith in
    let further : y * step + step ≡ (y + 1) * step = grind arith in
    append_assoc all (take row (drop (y * step) bytes)) (rows_of (height - (y + 1)) row step (drop ((y + 1) * step) bytes))
    ∙ sym (ap (λ (n : ℕ). all ++ rows_of n row step (drop (y * step) bytes)) less
    ∙ ap (λ (rest : List ℕ). all ++ (take row (drop (y * step) bytes) ++ rows_of (height - (y + 1)) row step rest)) (drop-drop step (y * step) bytes ∙ ap (λ (at : ℕ). drop at bytes) further))
    ∙ so_far

-- it lies in the bytes
pub row_inside : (height row step y count : ℕ) → y < height → IsLongEnough height row step count → y * step + row ≤ count
row_inside zero row step y count within h = absurd (omega (arith, within))
row_inside (suc n) row step y count within h = let low : y ≤ n = omega (arith, within) in let below : y * step ≤ n * step = mul-le-mul_right step low in omega (arith, below, h)

-- none is left
pub all_rows : (height row step y : ℕ) (all bytes whole : List ℕ) → y ≡ height → all ++ rows_of (height - y) row step (drop (y * step) bytes) ≡ whole → all ≡ whole
all_rows height row step y all bytes whole end so_far =
    let none : height - y ≡ 0 = omega (arith, end) in
    sym (append-nil all) ∙ sym (ap (λ (n : ℕ). all ++ rows_of n row step (drop (y * step) bytes)) none) ∙ so_far

-- an image has its rows by its sides
rows_by_sides : (width height each step count : ℕ) (no_columns no_lines : Bool) → (width == 0) ≡ no_columns → (height == 0) ≡ no_lines → count ≡ (if no_columns || no_lines then 0 else step * (height - 1) + width * each) → (width ≡ 0 → step ≡ 0)
    → IsLongEnough height (width * each) step count
rows_by_sides width zero each step count true no_lines columns lines is flat = is
rows_by_sides width zero each step count false true columns lines is flat = is
rows_by_sides width zero each step count false false columns lines is flat = let no : true ≡ false = lines in absurd (cc)
rows_by_sides width (suc n) each step count true no_lines columns lines is flat =
    let none : width ≡ 0 = grind (arith, nat_tests) in
    is ∙ sym ((λ i. n * flat none i + none i * each) ∙ (λ i. mul-zero n i + zero-mul each i))
rows_by_sides width (suc n) each step count false true columns lines is flat = absurd (grind (arith, nat_tests))
rows_by_sides width (suc n) each step count false false columns lines is flat =
    let less : suc n - 1 ≡ n = omega arith in is ∙ ap (λ (k : ℕ). step * k + width * each) less ∙ ap (λ (k : ℕ). k + width * each) (mul_comm step n)

-- an image in client memory has all its rows
pub long_enough : (width height each alignment count : ℕ) → 1 ≤ alignment → count ≡ image_size width height each alignment → IsLongEnough height (width * each) (row_step (width * each) alignment) count
long_enough width height each alignment count h is =
    rows_by_sides width height each (row_step (width * each) alignment) count (width == 0) (height == 0) refl refl is
    (λ none. ap (λ (w : ℕ). row_step (w * each) alignment) none ∙ ap (λ (row : ℕ). row_step row alignment) (zero-mul each) ∙ no_step alignment h)

-- Pixels without bytes

-- there are no rows in no bytes
rows_of_none : (n row step : ℕ) → rows_of n row step [] ≡ []
rows_of_none zero row step = refl
rows_of_none (suc n) row step = (λ i. take-nil row i ++ rows_of n row step (drop-nil step i)) ∙ rows_of_none n row step

-- an image of such pixels has no bytes
pub no_bytes : (width height alignment : ℕ) → 1 ≤ alignment → image_size width height 0 alignment ≡ 0
no_bytes width height alignment h =
    (λ i. by_sides ((width == 0) || (height == 0)) (row_step (mul-zero width i) alignment) (mul-zero width i))
    ∙ ap (λ (step : ℕ). by_sides ((width == 0) || (height == 0)) step 0) (no_step alignment h) ∙ none ((width == 0) || (height == 0))
  where
    by_sides : Bool → ℕ → ℕ → ℕ
    by_sides empty step row = if empty then 0 else step * (height - 1) + row

    none : (empty : Bool) → by_sides empty 0 0 ≡ 0
    none true = refl
    none false = ap (λ (n : ℕ). n + 0) (zero-mul (height - 1))

-- so they are the rows
pub no_pixels : (width height alignment : ℕ) (each : Option ℕ) (bytes : List ℕ) → None ≡ each → 1 ≤ alignment → length bytes ≡ image_size width height (bytes_or_none each) alignment → bytes ≡ unpadded width height (bytes_or_none each) alignment bytes
no_pixels width height alignment each bytes none h is =
    let empty : bytes ≡ [] = nil_from_length bytes (is ∙ ap (λ (o : Option ℕ). image_size width height (bytes_or_none o) alignment) (sym none) ∙ no_bytes width height alignment h) in
    empty ∙ sym (ap (λ (b : List ℕ). unpadded width height (bytes_or_none each) alignment b) empty ∙ rows_of_none height (width * bytes_or_none each) (row_step (width * bytes_or_none each) alignment))

-- nothing is there
pub is_nothing : {A : Type 0} (o : Option A) (b : Bool) → is_some o ≡ not b → b ≡ true → None ≡ o
is_nothing None b is h = refl
is_nothing (Some x) true is h = cc
is_nothing (Some x) false is h = cc
