-- How many bytes an image has without padding, where the bytes in client memory are those that are needed.
use Prim.Native.Nat.{zero, suc}
use Rattle.std.proofs.Common.{◌≡◌, ◌≤◌, ◌+◌, ◌-◌, ◌*◌, ◌==◌, ◌&&◌, ◌||◌, ℕ, ℤ, Bool, true, false, nat_lt, if◌then◌else◌, List, [], length, take, drop, Option, None, Some, is_none, inl, inr, refl, sym, ap, ◌∙◌, subst, arith, length-append, length-drop, mul_assoc, mul_comm, mul-zero, zero-mul, mul-le-mul}
use Rattle.std.proofs.lemmas.Bool.{le-ltb, or_cases}
use Rattle.std.proofs.lemmas.Bool.Decides.{nat_tests}
use Rattle.std.proofs.lemmas.List.{length-take-le}
use Rattle.std.proofs.Math.Nat.{div-mul-le_self, suc-mul}
use Rattle.gl_base.specs.declared.gl_enum.GlEnum.{GlEnum}
use Rattle.gl_base.specs.declared.limits.TheConstants.{DATA_LIMIT, SIDE_LIMIT}
use Rattle.gl_base.specs.PixelSizes.{pixel_bytes, pixel_size, bytes_or_none, row_step, image_size, rows_of, unpadded}
use Rattle.gl_plain.specs.declared.commands.DataWords.{DataWords}
use Rattle.gl_plain.specs.Words.{is_negative, natural}
use Rattle.gl_plain.specs.subjects.Data.{IsData, has_no_data, has_needed_data, has_just_needed_data}
use Rattle.gl_plain.specs.declared.raster.WordRule.TheVariants.{Alignment}
use Rattle.gl_plain.specs.subjects.Raster.{is_wrong_value}
use Rattle.gl_plain.specs.subjects.Images.{image_needed}

-- Rows

-- rows without bytes
no_rows : (n step : ℕ) (bytes : List ℕ) → length (rows_of n 0 step bytes) ≡ 0
no_rows zero step bytes = refl
no_rows (suc n) step bytes = no_rows n step (drop step bytes)

-- rows that lie in the bytes
rows_length : (n row step : ℕ) (bytes : List ℕ) → n * step + row ≤ length bytes → length (rows_of (suc n) row step bytes) ≡ suc n * row
rows_length zero row step bytes there =
    let first : length (take row bytes) ≡ row = length-take-le row bytes (omega arith) in
    length-append (take row bytes) [] ∙ (let e : length (take row bytes) + 0 ≡ 1 * row = omega (arith, first) in e)
rows_length (suc n) row step bytes there =
    let more : suc n * step ≡ n * step + step = suc-mul n step in
    let first : length (take row bytes) ≡ row = length-take-le row bytes (omega (arith, more)) in
    let rest : length (rows_of (suc n) row step (drop step bytes)) ≡ suc n * row = rows_length n row step (drop step bytes) (omega (arith, more, length-drop step bytes)) in
    let all : suc (suc n) * row ≡ suc n * row + row = suc-mul (suc n) row in
    length-append (take row bytes) (rows_of (suc n) row step (drop step bytes)) ∙ (let e : length (take row bytes) + length (rows_of (suc n) row step (drop step bytes)) ≡ suc (suc n) * row = omega (arith, first, rest, all) in e)

-- a product with three factors, of which the second is the number of rows
rows_times : (width height each : ℕ) → height * (width * each) ≡ width * height * each
rows_times width height each = sym (mul_assoc height width each) ∙ ap (λ n. n * each) (mul_comm height width)

-- an image has a row for each of its rows
abbrev by_sides : (row step height : ℕ) (empty : Bool) → ℕ
by_sides row step height empty = if empty then 0 else step * (height - 1) + row

sides_length : (width height each step : ℕ) (bytes : List ℕ) (no_columns no_lines : Bool) → (width == 0) ≡ no_columns → (height == 0) ≡ no_lines → length bytes ≡ by_sides (width * each) step height (no_columns || no_lines)
    → length (rows_of height (width * each) step bytes) ≡ width * height * each
sides_length width height each step bytes true no_lines columns lines is =
    let none : width ≡ 0 = grind (arith, nat_tests) in
    subst (λ (w : ℕ). length (rows_of height (w * each) step bytes) ≡ w * height * each) (sym none) (zero_columns height each step bytes)
  where
    zero_columns : (height each step : ℕ) (bytes : List ℕ) → length (rows_of height (0 * each) step bytes) ≡ 0 * height * each
    zero_columns height each step bytes =
        ap (λ n. length (rows_of height n step bytes)) (zero-mul each) ∙ no_rows height step bytes ∙ sym (ap (λ n. n * each) (zero-mul height) ∙ zero-mul each)
sides_length width zero each step bytes false true columns lines is = sym (ap (λ n. n * each) (mul-zero width) ∙ zero-mul each)
sides_length width (suc n) each step bytes false true columns lines is = absurd (grind (arith, nat_tests))
sides_length width zero each step bytes false false columns lines is = let no : true ≡ false = lines in absurd (cc)
sides_length width (suc n) each step bytes false false columns lines is =
    let turned : step * n ≡ n * step = mul_comm step n in
    let less : suc n - 1 ≡ n = omega arith in
    let there : n * step + width * each ≤ length bytes = omega (arith, is, turned, ap (λ k. step * k) less) in
    rows_length n (width * each) step bytes there ∙ rows_times width (suc n) each

-- an image without padding, of bytes as they are needed
unpadded_length : (width height each alignment : ℕ) (bytes : List ℕ) → length bytes ≡ image_size width height each alignment → length (unpadded width height each alignment bytes) ≡ width * height * each
unpadded_length width height each alignment bytes is = sides_length width height each (row_step (width * each) alignment) bytes (width == 0) (height == 0) refl refl is

-- Limits

small_if : (b : Bool) (n : ℕ) (o : Option ℕ) → n ≤ 4 → bytes_or_none o ≤ 4 → bytes_or_none (if b then Some n else o) ≤ 4
small_if true n o here more = here
small_if false n o here more = more

-- a pixel has at most four bytes
pixel_small : (format kind : GlEnum) → pixel_size format kind ≤ 4
pixel_small format kind = search (small_if, arith)

size_below : (row step height : ℕ) (empty : Bool) → row ≤ 8192 → step ≤ 8199 → height ≤ 2048 → by_sides row step height empty ≤ DATA_LIMIT
size_below row step height true a b c = omega arith
size_below row step height false a b c =
    let lines : height - 1 ≤ 2047 = omega arith in
    let most : step * (height - 1) ≤ 8199 * 2047 = mul-le-mul b lines in omega (arith, most)

-- an image of sides within the limit is within the limit of data
size_within : (width height each alignment : ℕ) → width ≤ SIDE_LIMIT → height ≤ SIDE_LIMIT → each ≤ 4 → alignment ≤ 8 → image_size width height each alignment ≤ DATA_LIMIT
size_within width height each alignment w h e a =
    let row : width * each ≤ 2048 * 4 = mul-le-mul w e in
    let step : row_step (width * each) alignment ≤ width * each + (alignment - 1) = div-mul-le_self (width * each + (alignment - 1)) alignment in
    size_below (width * each) (row_step (width * each) alignment) height ((width == 0) || (height == 0)) row (omega (arith, row, step)) h

-- What is needed

word_small : (alignment : ℕ) → is_wrong_value Alignment alignment ≡ false → alignment ≤ 8
word_small alignment h = grind (arith, nat_tests)

-- as many bytes as are needed are those of an image, where its sides are within the limit
pair_bytes : (width height alignment : ℕ) (payload : List ℕ) (each : Option ℕ) → width ≤ SIDE_LIMIT → height ≤ SIDE_LIMIT → bytes_or_none each ≤ 4 → alignment ≤ 8
    → length payload ≡ (if is_none each || nat_lt DATA_LIMIT (image_size width height (bytes_or_none each) alignment) then 0 else image_size width height (bytes_or_none each) alignment)
    → length (unpadded width height (bytes_or_none each) alignment payload) ≡ width * height * bytes_or_none each
pair_bytes width height alignment payload None w h e a is =
    (λ i. length (rows_of height (mul-zero width i) (row_step (mul-zero width i) alignment) payload)) ∙ no_rows height (row_step 0 alignment) payload ∙ sym (mul-zero (width * height))
pair_bytes width height alignment payload (Some n) w h e a is =
    unpadded_length width height n alignment payload
    (is ∙ ap (λ (b : Bool). if b then 0 else image_size width height n alignment) (le-ltb DATA_LIMIT (image_size width height n alignment) (size_within width height n alignment w h e a)))

pub unpadded_bytes : (width height : ℤ) (format kind : GlEnum) (alignment : ℕ) (payload : List ℕ) → is_negative width ≡ false → is_negative height ≡ false → natural width ≤ SIDE_LIMIT → natural height ≤ SIDE_LIMIT → is_wrong_value Alignment alignment ≡ false
    → length payload ≡ image_needed width height format kind alignment → length (unpadded (natural width) (natural height) (pixel_size format kind) alignment payload) ≡ natural width * natural height * pixel_size format kind
unpadded_bytes width height format kind alignment payload wide high w h a is =
    pair_bytes (natural width) (natural height) alignment payload (pixel_bytes format kind) w h (pixel_small format kind) (word_small alignment a) (is ∙ (λ i. by_signs (wide i) (high i)))
  where
    by_signs : Bool → Bool → ℕ
    by_signs p q = if p || q || is_none (pixel_bytes format kind) || nat_lt DATA_LIMIT (image_size (natural width) (natural height) (pixel_size format kind) alignment) then 0
        else image_size (natural width) (natural height) (pixel_size format kind) alignment

-- of a pair they are those of the image
pub needed_of_pair : (width height : ℤ) (format kind : GlEnum) (alignment : ℕ) → is_negative width ≡ false → is_negative height ≡ false → natural width ≤ SIDE_LIMIT → natural height ≤ SIDE_LIMIT → alignment ≤ 8 → is_none (pixel_bytes format kind) ≡ false
    → image_needed width height format kind alignment ≡ image_size (natural width) (natural height) (pixel_size format kind) alignment
needed_of_pair width height format kind alignment wide high w h a pair =
    (λ i. by_signs (wide i) (high i) (pair i))
    ∙ ap (λ (b : Bool). if b then 0 else size) (le-ltb DATA_LIMIT size (size_within (natural width) (natural height) (pixel_size format kind) alignment w h (pixel_small format kind) a))
  where
    size : ℕ
    size = image_size (natural width) (natural height) (pixel_size format kind) alignment

    by_signs : Bool → Bool → Bool → ℕ
    by_signs p q r = if p || q || r || nat_lt DATA_LIMIT size then 0 else size

-- The bytes that come beside a command

module _ (words : DataWords) (payload : List ℕ) (given : IsData words payload) where
  counted : (p q : Bool) → ((words.source == 1) || (words.source == 2)) ≡ p → (p && q) ≡ true → length payload ≡ words.count
  counted false q is h = absurd (cc)
  counted true q is h = elim (or_cases (words.source == 1) (words.source == 2) is) [
    | inl p ↦ given.shared (grind (arith, nat_tests))
    | inr p ↦ given.bucket (grind (arith, nat_tests))
  ]

  -- where the words name as many as are needed, those are there
  pub all_needed : (needed : ℕ) → has_needed_data words needed ≡ true → length payload ≡ needed
  all_needed needed h =
      let all : length payload ≡ words.count = counted ((words.source == 1) || (words.source == 2)) (words.count == needed) refl h in
      let count : words.count ≡ needed = grind (arith, nat_tests) in all ∙ count

  pub just_needed : (needed : ℕ) → has_just_needed_data words needed ≡ true → length payload ≡ needed
  just_needed needed h = elim (or_cases (has_no_data words && (needed == 0)) (has_needed_data words needed) h) [
    | inl p ↦ let source : words.source ≡ 0 = grind (arith, nat_tests) in let none : needed ≡ 0 = grind (arith, nat_tests) in given.none source ∙ sym none
    | inr p ↦ all_needed needed p
  ]
