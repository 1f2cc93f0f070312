-- The greatest power of two in a number, and the patterns of floats, which are below their sign.
use Prim.Native.Nat.{zero, suc}
use Rattle.std.proofs.Common.{◌≡◌, ◌≤◌, ◌<◌, ◌∙◌, ℕ, Bool, true, false, nat_lt, ◌+◌, ◌*◌, ◌/◌, ◌%◌, ◌^◌, if◌then◌else◌, arith, ap, sym, subst, refl, mul_comm, mul-le-mul}
use native.Mathlib.Numerals.{unary_clauses}
use Rattle.std.proofs.lemmas.Bool.Decides.{nat_tests}
use Rattle.std.proofs.lemmas.Nat.{div-add-mod', mod_below}
use Rattle.std.proofs.Math.Pow.{pow_mono}
use Rattle.gl_base.specs.Floats.{exponent_from, exponent_of, nearest}

-- the exponent lies so many steps behind the one that is tried first
exponent_behind : (left k e n : ℕ) → k ≤ left → 2 ^ (e + k) ≤ n → n < 2 ^ (e + k + 1) → exponent_from left e n ≡ e + k
unfolding exponent_from
exponent_behind zero k e n h low high = omega arith
exponent_behind (suc left) zero e n h low high =
    let below : nat_lt n (2 ^ (e + 1)) ≡ true = subst (λ (m : ℕ). nat_lt n (2 ^ m) ≡ true) (let is : e + 0 + 1 ≡ e + 1 = omega arith in is) (grind (arith, nat_tests)) in
    ap (λ (b : Bool). if b then e else exponent_from left (e + 1) n) below ∙ omega arith
exponent_behind (suc left) (suc k) e n h low high =
    let first : 2 ^ (e + 1) ≤ 2 ^ (e + suc k) = pow_mono (omega arith) in
    let above : nat_lt n (2 ^ (e + 1)) ≡ false = grind (arith, nat_tests) in
    let shift : e + suc k ≡ e + 1 + k = omega arith in
    let rest = exponent_behind left k (e + 1) n (omega arith) (subst (λ (m : ℕ). 2 ^ m ≤ n) shift low) (subst (λ (m : ℕ). n < 2 ^ (m + 1)) shift high) in
    ap (λ (b : Bool). if b then e else exponent_from left (e + 1) n) above ∙ rest ∙ sym shift

pub exponent_is : (r n : ℕ) → 2 ^ r ≤ n → n < 2 * 2 ^ r → r < 32 → r ≡ exponent_of n
unfolding exponent_of
exponent_is r n low high h = sym (exponent_behind 31 r 0 n (omega arith) (subst (λ (m : ℕ). 2 ^ m ≤ n) (let is : r ≡ 0 + r = omega arith in is) low) (subst (λ (m : ℕ). n < 2 ^ (m + 1)) (let is : r ≡ 0 + r = omega arith in is) (twice r n high)) ∙ omega arith)
  where
    twice : (r n : ℕ) → n < 2 * 2 ^ r → n < 2 ^ (r + 1)
    twice r n h = let more : n < 2 ^ suc r = simp unary_clauses (subst (λ (m : ℕ). n < m) (mul_comm 2 (2 ^ r)) h) in subst (λ (m : ℕ). n < 2 ^ m) (let is : suc r ≡ r + 1 = omega arith in is) more

-- what is below 24 doublings of a number has a quotient of at most 24 bits
pub nearest_small : (a b : ℕ) → 0 < b → a < b * 2 ^ 24 → nearest a b ≤ 2 ^ 24
nearest_small a b some h = quotient_small a b some h (a / b) (a % b) (div-add-mod' a b) (mod_below a b some)
  where
    quotient_small : (a b : ℕ) → 0 < b → a < b * 2 ^ 24 → (q r : ℕ) → q * b + r ≡ a → r < b → (if nat_lt (2 * r) b then q else if nat_lt b (2 * r) then q + 1 else q + q % 2) ≤ 2 ^ 24
    quotient_small a b some h q r is small =
        let few : q < 2 ^ 24 = below q is in
        let odd : q % 2 < 2 = mod_below q 2 (omega arith) in
        grind (arith, nat_tests)
      where
        below : (q : ℕ) → q * b + r ≡ a → q < 2 ^ 24
        below q is = by_case (nat_lt q (2 ^ 24)) refl
          where
            by_case : (t : Bool) → nat_lt q (2 ^ 24) ≡ t → q < 2 ^ 24
            by_case true e = grind (arith, nat_tests)
            by_case false e =
                let far : 2 ^ 24 ≤ q = grind (arith, nat_tests) in
                let more : 2 ^ 24 * b ≤ q * b = mul-le-mul far (omega arith) in
                let same : b * 2 ^ 24 ≡ 2 ^ 24 * b = mul_comm b (2 ^ 24) in
                absurd (omega (arith, is, h, more, same))
