-- The names of a table are words.
use Rattle.std.proofs.Common.{◌≡◌, ◌<◌, ◌^◌, ◌∙◌, ℕ, Bool, true, false, cond, Option, None, Some, refl, sym, ap, subst}
use Rattle.std.specs.Ordering.{nat_cmp, eq_by_cmp}
use Rattle.std.specs.Cmp.{nat_cmp_total}
use Rattle.std.specs.Bool.{OnTrue, OnFalse}
use Rattle.std.specs.FinMap as map
use Rattle.gl_base.specs.Names.{AreWords}
use Rattle.gl_base.proofs.Maps.{same_key}

module _ {X : Type 0} where
  pub words-empty : (m : map.FinMap nat_cmp X) → m ≡ map.empty → AreWords m
  words-empty m is id x there = absurd (none (sym (ap (λ (n : map.FinMap nat_cmp X). map.get n id) is ∙ map.get-empty nat_cmp id) ∙ there))
    where
      none : None ≡ Some x → ⊥
      none e = cc

  word_by : (b : Bool) (old : Option X) (v x : X) (q : ℕ) → (b ≡ true → q < 2 ^ 32) → (old ≡ Some x → q < 2 ^ 32) → cond b (Some v) old ≡ Some x → q < 2 ^ 32
  word_by true old v x q here there e = here refl
  word_by false old v x q here there e = there e

  -- another name that is a word
  pub words-insert : (m n : map.FinMap nat_cmp X) (k : ℕ) (v : X) → n ≡ map.insert m k v → k < 2 ^ 32 → AreWords m → AreWords n
  words-insert m n k v is word words id x there =
      word_by (eq_by_cmp nat_cmp id k) (map.get m id) v x id (λ e. subst (λ (j : ℕ). j < 2 ^ 32) (sym (same_key id k e)) word) (words id x)
      (sym (map.get-insert nat_cmp_total m k v id) ∙ sym (ap (λ (o : map.FinMap nat_cmp X). map.get o id) is) ∙ there)

  kept_by : (b : Bool) (old : Option X) (x : X) → cond b None old ≡ Some x → old ≡ Some x
  kept_by true old x e = absurd (cc)
  kept_by false old x e = e

  -- a name less
  pub words-remove : (m n : map.FinMap nat_cmp X) (k : ℕ) → n ≡ map.remove m k → AreWords m → AreWords n
  words-remove m n k is words id x there =
      words id x (kept_by (eq_by_cmp nat_cmp id k) (map.get m id) x (sym (map.get-remove nat_cmp_total m k id) ∙ sym (ap (λ (o : map.FinMap nat_cmp X). map.get o id) is) ∙ there))

  -- a name whose value was written over, where it is there
  pub words-replaced : (m n : map.FinMap nat_cmp X) (k : ℕ) (v : X) (found : Bool) → OnTrue found (n ≡ map.insert m k v) → OnFalse found (n ≡ m) → k < 2 ^ 32 → AreWords m → AreWords n
  words-replaced m n k v true done same word words = words-insert m n k v done word words
  words-replaced m n k v false done same word words = subst AreWords (sym same) words
