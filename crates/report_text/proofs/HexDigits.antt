-- Hexadecimal digits, written from the last on into room for eight that is full of zeros.
use Rattle.std.proofs.Common.{◌≡◌, ℕ, ◌+◌, ◌-◌, ◌*◌, ◌/◌, ◌%◌, ◌^◌, ◌<◌, ◌≤◌, Bool, true, false, cond, eqb, eq-eqb, ne_eqb, List, ◌∷◌, ◌++◌, length, take, drop, replicate, min, slice_set, sym, ◌∙◌, ap, arith}
use Prim.Native.Nat.{zero, suc}
use Rattle.std.proofs.lemmas.Grind.{common_steps}
use Rattle.std.proofs.lemmas.List.{take-append-drop, drop-append-le, drop-replicate, drop_all, take_all, length-take, length-drop, length-set, length-replicate}
use Rattle.std.specs.Fmt.{digit_glyph, digits, digits_onto}

-- 16 to this power
abbrev pub sixteens : ℕ → ℕ
sixteens zero = 1
sixteens (suc n) = 16 * sixteens n

-- what is left of a number when its last digit is taken
rest_fits : (n first : ℕ) → n < sixteens (suc first) → n / 16 < sixteens first
rest_fits n first fits = smaller (sixteens first) fits
  where
    smaller : (s : ℕ) → n < 16 * s → n / 16 < s
    smaller s less = omega arith

-- a number that is not zero needs room for a digit
needs_room : (n first : ℕ) → n < sixteens first → (n ≡ 0 → ⊥) → 1 ≤ first
needs_room n zero fits some = absurd (some (omega arith))
needs_room n (suc m) fits some = omega arith

module _ (n : ℕ) (acc : List ℕ) where
  spelled : (fuel : ℕ) (t : Bool) → eqb (n / 16) 0 ≡ t
      → digits_onto (suc fuel) 16 true n acc ≡ cond t (digit_glyph true (n % 16) ∷ acc) (digits_onto fuel 16 true (n / 16) (digit_glyph true (n % 16) ∷ acc))
  spelled fuel t e = ap (λ (b : Bool). cond b (digit_glyph true (n % 16) ∷ acc) (digits_onto fuel 16 true (n / 16) (digit_glyph true (n % 16) ∷ acc))) e

  -- the first digit
  spelled_last : (fuel : ℕ) → n / 16 ≡ 0 → digits_onto (suc fuel) 16 true n acc ≡ digit_glyph true (n % 16) ∷ acc
  spelled_last fuel e = spelled fuel true (eq-eqb (n / 16) 0 e)

  -- a digit before which others stand
  spelled_more : (fuel : ℕ) → (n / 16 ≡ 0 → ⊥) → digits_onto (suc fuel) 16 true n acc ≡ digits_onto fuel 16 true (n / 16) (digit_glyph true (n % 16) ∷ acc)
  spelled_more fuel some = spelled fuel false (ne_eqb (n / 16) 0 some)

-- The digits that are written stand behind zeros, and the others are those of what is left of the number.
pub record AreWritten (value first rest : ℕ) (ds : List ℕ) : Type 0 where
  pub same : digits 16 true value ≡ digits_onto (56 + first) 16 true rest (drop first ds)
  pub zeros : take first ds ≡ replicate first 48
  pub fits : rest < sixteens first
  pub some : 1 ≤ first
  pub inside : first ≤ 8
  pub long : length ds ≡ 8

-- at first none is written
pub none_written : (value : ℕ) (ds : List ℕ) → value < 2 ^ 32 → ds ≡ replicate 8 48 → AreWritten value (length ds) value ds
unfolding digits
none_written value ds small full =
    let long : length ds ≡ 8 = ap length full ∙ length-replicate {A = ℕ} 8 48 in
    rw long (record {
      same = ap (digits_onto 64 16 true value) (sym (drop_all 8 ds (omega arith)));
      zeros = take_all 8 ds (omega arith) ∙ full;
      fits = small;
      some = omega arith;
      inside = omega arith;
      long = long;
    })

-- what is read where a digit is written
drop-set_here : (ds : List ℕ) (i digit : ℕ) → i < length ds → drop i (slice_set ds i digit) ≡ digit ∷ drop (suc i) ds
drop-set_here ds i digit inside = grind (arith, common_steps)

-- it leaves what stands before it
take-set_here : (ds : List ℕ) (i digit : ℕ) → take i (slice_set ds i digit) ≡ take i ds
take-set_here ds i digit = grind (arith, common_steps)

-- of zeros one fewer are left
fewer_zeros : (ds : List ℕ) (m : ℕ) → take (suc m) ds ≡ replicate (suc m) 48 → take m ds ≡ replicate m 48
fewer_zeros ds m zeros =
    let front : take m (take (suc m) ds) ≡ take m (replicate (suc m) 48) = ap (take m) zeros in
    grind (arith, common_steps)

-- digits with zeros before them, up to a width
with_zeros : (ds : List ℕ) (first width : ℕ) → length ds ≡ 8 → first ≤ 8 → width ≤ 8 → take first ds ≡ replicate first 48
    → drop (min first (8 - width)) ds ≡ replicate (width - length (drop first ds)) 48 ++ drop first ds
with_zeros ds first width eight inside narrow zeros =
    let k : ℕ = min first (8 - width) in
    let whole = sym (take-append-drop first ds) in
    let front : length (take first ds) ≡ first = omega (arith, length-take first ds) in
    let split = drop-append-le k (take first ds) (drop first ds) (omega arith) in
    let count : first - k ≡ width - length (drop first ds) = omega (arith, length-drop first ds) in
    ap (drop k) whole ∙ split ∙ ap (λ (zs : List ℕ). zs ++ drop first ds) (ap (drop k) zeros ∙ drop-replicate k first 48 ∙ ap (λ (n : ℕ). replicate n 48) count)

module _ (value rest digit : ℕ) (ds : List ℕ) (is : digit ≡ digit_glyph true (rest % 16)) where
  -- the same with another spelling of the number of digits
  spell : (first : ℕ) {fuel : ℕ} → digits 16 true value ≡ digits_onto (56 + first) 16 true rest (drop first ds) → 56 + first ≡ fuel → digits 16 true value ≡ digits_onto fuel 16 true rest (drop first ds)
  spell first same e = same ∙ ap (λ (k : ℕ). digits_onto k 16 true rest (drop first ds)) e

  -- the digit stands before those written
  here : (m : ℕ) → m < length ds → drop m (slice_set ds m digit) ≡ digit_glyph true (rest % 16) ∷ drop (suc m) ds
  here m inside = drop-set_here ds m digit inside ∙ ap (λ (d : ℕ). d ∷ drop (suc m) ds) is

  -- one more is written, and others stand before it
  pub one_more : (first : ℕ) → AreWritten value first rest ds → (rest / 16 ≡ 0 → ⊥) → AreWritten value (first - 1) (rest / 16) (slice_set ds (first - 1) digit)
  one_more zero written more = absurd (omega (arith, written.some))
  one_more (suc m) written more =
      let before : suc m - 1 ≡ m = omega arith in
      let fits = rest_fits rest m written.fits in
      rw before (record {
        same = spell (suc m) {fuel = suc (56 + m)} written.same (omega arith) ∙ spelled_more rest (drop (suc m) ds) (56 + m) more ∙ ap (digits_onto (56 + m) 16 true (rest / 16)) (sym (here m (omega (arith, written.inside, written.long))));
        zeros = take-set_here ds m digit ∙ fewer_zeros ds m written.zeros;
        fits = fits;
        some = needs_room (rest / 16) m fits more;
        inside = omega (arith, written.inside);
        long = length-set ds m digit ∙ written.long;
      })

  -- the first is written
  all_written : (first : ℕ) → AreWritten value first rest ds → rest / 16 ≡ 0
      → (digits 16 true value ≡ drop (first - 1) (slice_set ds (first - 1) digit)) × (take (first - 1) (slice_set ds (first - 1) digit) ≡ replicate (first - 1) 48)
  all_written zero written none = absurd (omega (arith, written.some))
  all_written (suc m) written none =
      let before : suc m - 1 ≡ m = omega arith in
      rw before (
        spell (suc m) {fuel = suc (56 + m)} written.same (omega arith) ∙ spelled_last rest (drop (suc m) ds) (56 + m) none ∙ sym (here m (omega (arith, written.inside, written.long))),
        take-set_here ds m digit ∙ fewer_zeros ds m written.zeros,
      )

  -- all are written, and zeros stand before them up to a width
  pub all_padded : (first width : ℕ) → AreWritten value first rest ds → rest / 16 ≡ 0 → width ≤ 8
      → drop (min (first - 1) (8 - width)) (slice_set ds (first - 1) digit) ≡ replicate (width - length (digits 16 true value)) 48 ++ digits 16 true value
  all_padded first width written none narrow =
      let all = all_written first written none in
      let padded = with_zeros (slice_set ds (first - 1) digit) (first - 1) width (length-set ds (first - 1) digit ∙ written.long) (omega (arith, written.inside)) narrow all.1 in
      rw all.0 padded
