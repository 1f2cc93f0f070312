-- That the tables, read at a number, are the rows, looked up.
use Rattle.std.proofs.Common.{◌≡◌, ℕ, zero, suc, ◌+◌, ◌<◌, ◌≤◌, ◌==◌, ◌++◌, Bool, true, false, cond, List, [], ◌∷◌, length, refl, sym, ◌∙◌, ap, Option, None, Some, arith, Bor}
use Rattle.std.specs.Prelude.{slice_get}
use Rattle.std.specs.Option.{option_or, option_copied}
use Rattle.std.specs.Slice.{IsItemAt}
use Rattle.std.specs.Map.{lookup}
use Rattle.std.proofs.lemmas.Option.{slice_get_past, slice_get_read}
use Rattle.std.proofs.lemmas.Bool.Decides.{nat_tests}
use Rattle.cb_format.specs.declared.layouts.Layout.{Layout}
use Rattle.cb_format.specs.declared.tables.TheConstants.{BUFFER_LAYOUTS, GL_LAYOUTS}
use Rattle.cb_format.specs.Layouts.{buffer_rows, gl_rows, layout_of}

-- a row for each layout, numbered from a number on
abbrev numbered : ℕ → List Layout → List (ℕ × Layout)
numbered first [] = []
numbered first (l ∷ ls) = (first, l) ∷ numbered (first + 1) ls

rows_are_numbered : buffer_rows ++ gl_rows ≡ numbered 0 BUFFER_LAYOUTS ++ numbered 256 GL_LAYOUTS
rows_are_numbered = refl

taken : (n k : ℕ) (l : Layout) (rest : Option Layout) → n ≡ k → cond (n == k) (Some l) rest ≡ Some l
taken n k l rest e = grind (arith, nat_tests)

passed : (n k : ℕ) (l : Layout) (rest : Option Layout) → (n ≡ k → ⊥) → cond (n == k) (Some l) rest ≡ rest
passed n k l rest e = grind (arith, nat_tests)

-- the number of a place finds what is there, or nothing past the end
lookup-numbered : (n first i : ℕ) (ls : List Layout) → n ≡ first + i → lookup (λ k. n == k) (numbered first ls) ≡ slice_get ls i
lookup-numbered n first i [] e = refl
lookup-numbered n first zero (l ∷ ls) e = taken n first l _ (omega arith)
lookup-numbered n first (suc i) (l ∷ ls) e = passed n first l _ (λ f. omega arith) ∙ lookup-numbered n (first + 1) i ls (omega arith)

lookup-numbered_below : (n first : ℕ) (ls : List Layout) → n < first → lookup (λ k. n == k) (numbered first ls) ≡ None
lookup-numbered_below n first [] h = refl
lookup-numbered_below n first (l ∷ ls) h = passed n first l _ (λ f. omega arith) ∙ lookup-numbered_below n (first + 1) ls (omega arith)

lookup-append : (test : ℕ → Bool) (xs ys : List (ℕ × Layout)) → lookup test (xs ++ ys) ≡ option_or (lookup test xs) (lookup test ys)
lookup-append test [] ys = refl
lookup-append test (x ∷ xs) ys = chosen (test x.0) _ _ _ _ (lookup-append test xs ys) where
  chosen : (b : Bool) (l : Layout) (p q r : Option Layout) → p ≡ option_or q r → cond b (Some l) p ≡ option_or (cond b (Some l) q) r
  chosen true l p q r e = refl
  chosen false l p q r e = e

option_or-None : (p q : Option Layout) → q ≡ None → option_or p q ≡ p
option_or-None None q e = e
option_or-None (Some l) q e = refl

-- two lists, the second numbered from a number on that the first does not reach
module _ (xs ys : List Layout) (first : ℕ) where
  in_first : (n : ℕ) → n < first → lookup (λ k. n == k) (numbered 0 xs ++ numbered first ys) ≡ slice_get xs n
  in_first n h =
      lookup-append (λ k. n == k) (numbered 0 xs) (numbered first ys)
      ∙ option_or-None _ _ (lookup-numbered_below n first ys h)
      ∙ lookup-numbered n 0 n xs (omega arith)

  in_second : (n i : ℕ) → n ≡ first + i → length xs ≤ n → lookup (λ k. n == k) (numbered 0 xs ++ numbered first ys) ≡ slice_get ys i
  in_second n i e h =
      lookup-append (λ k. n == k) (numbered 0 xs) (numbered first ys)
      ∙ ap (λ p. option_or p (lookup (λ k. n == k) (numbered first ys))) (lookup-numbered n 0 n xs (omega arith) ∙ slice_get_past xs n h)
      ∙ lookup-numbered n first i ys e

pub layout_of_buffer : (n : ℕ) → n < 256 → layout_of n ≡ slice_get BUFFER_LAYOUTS n
unfolding layout_of
layout_of_buffer n h = ap (lookup (λ k. n == k)) rows_are_numbered ∙ in_first BUFFER_LAYOUTS GL_LAYOUTS 256 n h

pub layout_of_gl : (n i : ℕ) → n ≡ 256 + i → layout_of n ≡ slice_get GL_LAYOUTS i
unfolding layout_of
layout_of_gl n i e = ap (lookup (λ k. n == k)) rows_are_numbered ∙ in_second BUFFER_LAYOUTS GL_LAYOUTS 256 n i e (omega arith)

-- what a read of a table by its index gives
pub copied_item : (xs : List Layout) (i : ℕ) (lent : Option (Bor Layout)) (found : Option Layout) → IsItemAt xs i lent → found ≡ option_copied lent → found ≡ slice_get xs i
copied_item xs i None found h e = e ∙ sym (slice_get_past xs i (omega (arith, h.3)))
copied_item xs i (Some l) found h e = e ∙ sym (slice_get_read xs (length xs) i l.now refl (omega (arith, h.3)) (grind (arith, h.1)))
