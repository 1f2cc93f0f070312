-- The words that are given, one at a time.
use Prim.Native.Nat.{zero, suc}
use Rattle.std.proofs.Common.{◌≡◌, ◌<◌, ◌≤◌, ℕ, ◌+◌, ◌-◌, List, [], ◌∷◌, ◌++◌, length, take, map, set, Bool, true, refl, sym, ◌∙◌, ap, arith, add-zero, zero-add, ◌||◌}
use Rattle.std.proofs.lemmas.List.{take_more_set, map_push}
use Rattle.std.proofs.lemmas.Bool.{le-ltb, lt-ltb}
use Rattle.gl_base.specs.declared.limits.TheConstants.{LAST_UNIT}
use Rattle.gl_plain.specs.Bytes.{words_from, word_at}
use Rattle.gl_plain.specs.subjects.Uniforms.{has_no_unit}

words_step : (bytes : List ℕ) (p n m : ℕ) → n ≡ suc m → words_from bytes p n ≡ word_at bytes p ∷ words_from bytes (p + 1) m
words_step bytes p n m e = rw e refl

pub words_push : (bytes : List ℕ) (p n : ℕ) → words_from bytes p (n + 1) ≡ words_from bytes p n ++ word_at bytes (p + n) ∷ []
words_push bytes p zero = ap (λ k. word_at bytes k ∷ []) (sym (add-zero p))
words_push bytes p (suc n) =
    words_step bytes p (suc n + 1) (n + 1) (omega arith) ∙ ap (λ (ws : List ℕ). word_at bytes p ∷ ws) (words_push bytes (p + 1) n)
    ∙ ap (λ k. word_at bytes p ∷ words_from bytes (p + 1) n ++ word_at bytes k ∷ []) (further p n) where
      further : (p n : ℕ) → p + 1 + n ≡ p + suc n
      further p n = omega arith

-- a word that is a unit, or one that is none
pub is_unit : (bytes : List ℕ) (i count : ℕ) (whole : Bool) → i < count → word_at bytes i ≤ LAST_UNIT → has_no_unit (words_from bytes i (count - i)) ≡ whole → has_no_unit (words_from bytes (i + 1) (count - (i + 1))) ≡ whole
is_unit bytes i count whole lt le is =
    ap (λ b. b || has_no_unit (words_from bytes (i + 1) (count - (i + 1)))) (sym (le-ltb LAST_UNIT (word_at bytes i) le)) ∙ sym (ap has_no_unit (words_step bytes i (count - i) (count - (i + 1)) (omega arith))) ∙ is

pub is_no_unit : (bytes : List ℕ) (i count : ℕ) (whole : Bool) → i < count → LAST_UNIT < word_at bytes i → has_no_unit (words_from bytes i (count - i)) ≡ whole → true ≡ whole
is_no_unit bytes i count whole lt gt is =
    ap (λ b. b || has_no_unit (words_from bytes (i + 1) (count - (i + 1)))) (sym (lt-ltb LAST_UNIT (word_at bytes i) gt)) ∙ sym (ap has_no_unit (words_step bytes i (count - i) (count - (i + 1)) (omega arith))) ∙ is

pub stored_more : (f : ℕ → ℕ) (values bytes : List ℕ) (i : ℕ) (x : ℕ) → i < length values → x ≡ f (word_at bytes i) → take i values ≡ map f (words_from bytes 0 i)
    → take (i + 1) (set values i x) ≡ map f (words_from bytes 0 (i + 1))
stored_more f values bytes i x lt is so_far =
    take_more_set values i x lt ∙ ap (λ (ys : List ℕ). ys ++ x ∷ []) so_far ∙ ap (λ y. map f (words_from bytes 0 i) ++ y ∷ []) (is ∙ ap (λ k. f (word_at bytes k)) (sym (zero-add i)))
    ∙ sym (map_push f (words_from bytes 0 i) (word_at bytes (0 + i))) ∙ sym (ap (map f) (words_push bytes 0 i))
