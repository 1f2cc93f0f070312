-- The words of a command, one at a time.
use Prim.Native.Nat.{zero, suc}
use Rattle.std.proofs.Common.{◌≡◌, ℕ, ◌+◌, ◌-◌, ◌<◌, List, [], ◌∷◌, ◌++◌, length, refl, sym, ◌∙◌, ap, arith, append_assoc}
use Rattle.gl_plain.specs.Bytes.{words_from, word_at}

words_step : (bytes : List ℕ) (p n m : ℕ) → n ≡ suc m → words_from bytes p n ≡ word_at bytes p ∷ words_from bytes (p + 1) m
words_step bytes p n m e = rw e refl

-- the words so far, with one more, and those that are left are all
pub words_more : (bytes front more whole : List ℕ) (i count : ℕ) → i < count → more ≡ front ++ word_at bytes i ∷ []
    → front ++ words_from bytes i (count - i) ≡ whole → more ++ words_from bytes (i + 1) (count - (i + 1)) ≡ whole
words_more bytes front more whole i count lt pushed e =
    let step = words_step bytes i (count - i) (count - (i + 1)) (omega arith) in
    rw pushed (append_assoc front (word_at bytes i ∷ []) (words_from bytes (i + 1) (count - (i + 1)))
    ∙ ap (λ (w : List ℕ). front ++ w) (sym step) ∙ e)

pub length-words_from : (bytes : List ℕ) (p n : ℕ) → length (words_from bytes p n) ≡ n
length-words_from bytes p zero = refl
length-words_from bytes p (suc n) = ap suc (length-words_from bytes (p + 1) n)
