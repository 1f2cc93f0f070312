-- The value of digits, read from the front.
use Rattle.std.proofs.Common.{◌≡◌, ℕ, ◌+◌, ◌*◌, ◌^◌, ◌≤◌, ◌<◌, List, [], ◌∷◌, refl, sym, ◌∙◌, ap, arith, drop, length, get_or, Option, Some, None}
use Rattle.std.proofs.lemmas.Grind.{common_steps}
use Rattle.std.proofs.lemmas.List.{at_drop_more}
use Rattle.gl_plain.specs.Fields.{◌>>=◌, value_on, digit_in, digits_in, fitting}

-- where a chain gave a value, its first step did, and the next gave that value
bind_some : {A B : Type 0} (o : Option A) (f : A → Option B) (y : B) → (o >>= f) ≡ Some y → (x : A) × (o ≡ Some x) × (f x ≡ Some y)
bind_some None f y e = absurd (cc)
bind_some (Some x) f y e = (x, refl, e)

-- the value is no smaller than that of its front
value_on-grows : (base n : ℕ) (cs : List ℕ) (m : ℕ) → 1 ≤ base → value_on base n cs ≡ Some m → n ≤ m
value_on-grows base n [] m low e = let same : n ≡ m = cc in omega arith
value_on-grows base n (c ∷ cs) m low e =
    let found = bind_some (digit_in base c) (λ d. value_on base (n * base + d) cs) m e in
    let more : n * base + found.0 ≤ m = value_on-grows base (n * base + found.0) cs m low found.2 in
    grows base n found.0 m low more
  where
    grows : (base n d m : ℕ) → 1 ≤ base → n * base + d ≤ m → n ≤ m
    grows base n d m low more = grind arith

-- what begins too large stays too large
too_large : (base n : ℕ) (cs : List ℕ) → 1 ≤ base → 2 ^ 32 ≤ n → (value_on base n cs >>= fitting) ≡ None
too_large base n cs low big = go (value_on base n cs) (λ m e. value_on-grows base n cs m low e)
  where
    go : (o : Option ℕ) → ((m : ℕ) → o ≡ Some m → n ≤ m) → (o >>= fitting) ≡ None
    go None h = refl
    go (Some m) h = let le = h m refl in grind (arith, common_steps)

-- a number of which a front is too large is no number
pub too_large_after : (base n i d : ℕ) (text : List ℕ) → i < length text → digit_in base (get_or text i 0) ≡ Some d → 1 ≤ base → 2 ^ 32 ≤ n * base + d
    → value_on base n (drop i text) ≡ value_on base 0 text → None ≡ digits_in base text
unfolding digits_in
too_large_after base n i d text lt digit low big same =
    let step = sym same ∙ at_drop_more (value_on base n) text i 0 lt ∙ ap (λ (o : Option ℕ). o >>= (λ e. value_on base (n * base + e) (drop (i + 1) text))) digit in
    sym (ap (λ (o : Option ℕ). o >>= fitting) step ∙ too_large base (n * base + d) (drop (i + 1) text) low big)
