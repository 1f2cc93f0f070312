-- Indices in a part of some bytes, and the greatest of them as one more is read.
use Prim.Native.Nat.{zero, suc}
use Rattle.std.proofs.Common.{◌≡◌, ◌∙◌, ◌≤◌, ◌<◌, ℕ, ◌+◌, ◌-◌, ◌*◌, ◌/◌, ◌==◌, ◌||◌, max, Bool, true, false, List, ◌∷◌, length, take, drop, get_or, Option, None, Some, nat_lt, if◌then◌else◌, arith, refl, sym, ap, subst, add-zero}
use Rattle.std.specs.Ordering.{nat_cmp, ord_max}
use Rattle.std.proofs.lemmas.Bool.{le-ltb, ne_eqb, eqb-true}
use Rattle.std.proofs.lemmas.Bool.Decides.{nat_tests}
use Rattle.std.proofs.lemmas.List.{drop_more, get_or-take, get_or-drop, length-take-le, length-drop}
use Rattle.gl_base.specs.declared.gl_enum.GlEnum.{GlEnum}
use Rattle.gl_base.specs.declared.enums.TheConstants.{UNSIGNED_BYTE, UNSIGNED_SHORT}
use Rattle.gl_plain.specs.subjects.Draws as d

-- One index more

max_more : (new g s rest : ℕ) → new ≡ ord_max nat_cmp g s → max new rest ≡ max g (max s rest)
max_more new g s rest is = grind (arith, nat_tests)

pub short_more : (bytes : List ℕ) (g index new pair n all : ℕ) → pair < n → index ≡ d.index_at bytes UNSIGNED_SHORT (2 * pair) → new ≡ ord_max nat_cmp g index
    → max g (d.greatest (d.indices bytes UNSIGNED_SHORT (2 * pair) (n - pair))) ≡ all
    → max new (d.greatest (d.indices bytes UNSIGNED_SHORT (2 * (pair + 1)) (n - (pair + 1)))) ≡ all
short_more bytes g index new pair n all inside is taken so_far =
    let left : n - pair ≡ suc (n - (pair + 1)) = omega arith in
    let place : 2 * (pair + 1) ≡ 2 * pair + 2 = omega arith in
    ap (λ p. max new (d.greatest (d.indices bytes UNSIGNED_SHORT p (n - (pair + 1))))) place
    ∙ max_more new g index _ taken
    ∙ ap (λ i. max g (max i (d.greatest (d.indices bytes UNSIGNED_SHORT (2 * pair + 2) (n - (pair + 1)))))) is
    ∙ ap (λ m. max g (d.greatest (d.indices bytes UNSIGNED_SHORT (2 * pair) m))) (sym left)
    ∙ so_far

-- Indices in a part

bytes_are : (bytes : List ℕ) (place n : ℕ) → place + n ≤ length bytes → d.indices bytes UNSIGNED_BYTE place n ≡ take n (drop place bytes)
bytes_are bytes place zero inside = refl
bytes_are bytes place (suc n) inside =
    ap (λ rest. get_or bytes place 0 ∷ rest) (bytes_are bytes (place + 1) n (omega arith)) ∙ ap (take (suc n)) (sym (drop_more bytes place 0 (omega arith)))

module _ (bytes : List ℕ) (start size : ℕ) where
  read : (place : ℕ) → place < size → get_or (take size (drop start bytes)) place 0 ≡ get_or bytes (start + place) 0
  read place inside = get_or-take size (drop start bytes) place 0 inside ∙ get_or-drop start bytes place 0

  short_in : (place : ℕ) → place + 2 ≤ size → d.index_at (take size (drop start bytes)) UNSIGNED_SHORT place ≡ d.index_at bytes UNSIGNED_SHORT (start + place)
  short_in place inside = (λ i. read place (omega arith) i + 256 * (read (place + 1) (omega arith) ∙ ap (λ p. get_or bytes p 0) next) i) where
    next : start + (place + 1) ≡ start + place + 1
    next = omega arith

  shorts_in : (place n : ℕ) → place + n * 2 ≤ size → d.indices (take size (drop start bytes)) UNSIGNED_SHORT place n ≡ d.indices bytes UNSIGNED_SHORT (start + place) n
  shorts_in place zero inside = refl
  shorts_in place (suc n) inside =
      let after : start + (place + 2) ≡ start + place + 2 = omega arith in
      let rest = shorts_in (place + 2) n (omega arith) ∙ ap (λ p. d.indices bytes UNSIGNED_SHORT p n) after in
      (λ i. short_in place (omega arith) i ∷ rest i)

-- The greatest

module _ (bytes : List ℕ) (offset count : ℕ) (some : count ≡ 0 → ⊥) where
  found : (kind : GlEnum) → offset + count * d.index_size kind ≤ length bytes → d.max_index bytes offset count kind ≡ Some (d.greatest (d.indices bytes kind offset count))
  found kind inside = by (count == 0) (nat_lt (length bytes) (offset + count * d.index_size kind)) (ne_eqb count 0 some) (le-ltb _ _ inside) where
    by : (none out : Bool) → none ≡ false → out ≡ false
        → ◌≡◌ {A = Option ℕ} (if none || out then None else Some (d.greatest (d.indices bytes kind offset count))) (Some (d.greatest (d.indices bytes kind offset count)))
    by none out is_some is_inside = rw (is_some, is_inside) refl

  module _ (kind : GlEnum) (size g : ℕ) (size_is : size ≡ d.index_size kind) (inside : offset + count * size ≤ length bytes) where
    found_at : (k : GlEnum) → kind ≡ k → g ≡ d.greatest (d.indices bytes k offset count) → Some g ≡ d.max_index bytes offset count kind
    found_at k is greatest_is =
        ap Some (greatest_is ∙ ap (λ e. d.greatest (d.indices bytes e offset count)) (sym is))
        ∙ sym (found kind (subst (λ n. offset + count * n ≤ length bytes) size_is inside))

    pub byte_answer : (kind.0 == UNSIGNED_BYTE.0) ≡ true → g ≡ d.greatest (take (offset + count * size - offset) (drop offset bytes)) → Some g ≡ d.max_index bytes offset count kind
    byte_answer test part = found_at UNSIGNED_BYTE is (part ∙ ap (λ n. d.greatest (take n (drop offset bytes))) all ∙ ap d.greatest (sym (bytes_are bytes offset count fits))) where
      is : kind ≡ UNSIGNED_BYTE
      is = ap (λ n. record { 0 = n }) (eqb-true _ _ test)

      one : size ≡ 1
      one = size_is ∙ ap d.index_size is

      all : offset + count * size - offset ≡ count
      all = ap (λ n. offset + count * n - offset) one ∙ omega arith

      fits : offset + count ≤ length bytes
      fits = omega (arith, subst (λ n. offset + count * n ≤ length bytes) one inside)

    pub short_answer : d.is_index_kind kind ≡ true → (kind.0 == UNSIGNED_BYTE.0) ≡ false
        → (part : List ℕ) → part ≡ take (offset + count * size - offset) (drop offset bytes) → g ≡ d.greatest (d.indices part UNSIGNED_SHORT 0 (length part / 2)) → Some g ≡ d.max_index bytes offset count kind
    short_answer indexed test part part_is is_greatest =
        found_at UNSIGNED_SHORT is (is_greatest ∙ (λ i. d.greatest (d.indices (whole i) UNSIGNED_SHORT 0 (pairs i))) ∙ ap d.greatest (shorts_in bytes offset (count * 2) 0 count (omega arith))
        ∙ ap (λ p. d.greatest (d.indices bytes UNSIGNED_SHORT p count)) (add-zero offset)) where
          is : kind ≡ UNSIGNED_SHORT
          is = ap (λ n. record { 0 = n }) (eqb-true _ _ (ap (λ b. b || (kind.0 == UNSIGNED_SHORT.0)) (sym test) ∙ indexed))

          two : size ≡ 2
          two = size_is ∙ ap d.index_size is

          whole : part ≡ take (count * 2) (drop offset bytes)
          whole = part_is ∙ ap (λ n. take (offset + count * n - offset) (drop offset bytes)) two ∙ ap (λ n. take n (drop offset bytes)) (omega arith)

          fits : offset + count * 2 ≤ length bytes
          fits = subst (λ n. offset + count * n ≤ length bytes) two inside

          pairs : length part / 2 ≡ count
          pairs = omega (arith, ap length whole, length-take-le (count * 2) (drop offset bytes) (omega (arith, fits, length-drop offset bytes)))
