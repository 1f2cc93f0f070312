-- How many keys of a map pass a test, before and after a change.
use Rattle.std.proofs.Common.{zero, suc, ◌≤◌, ◌≡◌, ℕ, ◌+◌, ◌-◌, Bool, true, false, cond, refl, sym, ◌∙◌, ap, Option, None, Some, is_some, arith, Equal}
use Rattle.std.specs.Ordering.{nat_cmp, eq_by_cmp}
use Rattle.std.specs.Cmp.{nat_cmp_total}
use Rattle.std.specs.Bool.{OnTrue, OnFalse}
use Rattle.std.specs.FinMap.{FinMap, nat_cmp-IsAntisymmetric, get, insert, remove, retain_keys, len, contains_key, get-insert, get-remove, get-retain_keys, len-insert, len-remove, same_map, empty, get-empty, len-empty, empty_of_len}
use Rattle.gl_base.proofs.Maps.{same_key}

alike_where_tied : (p : ℕ → Bool) (q x : ℕ) → nat_cmp q x ≡ Equal → p x ≡ p q
alike_where_tied p q x e = ap p (sym (nat_cmp-IsAntisymmetric q x e))

module _ {X : Type 0} where
  get-retain : (m : FinMap nat_cmp X) (p : ℕ → Bool) (q : ℕ) → get (retain_keys m p) q ≡ cond (p q) (get m q) None
  get-retain m p q = get-retain_keys m p q (alike_where_tied p q)

  kept_and_put : (kept same at : Bool) (a x : Option X) → (same ≡ true → kept ≡ at) → cond kept (cond same a x) None ≡ cond at (cond same a (cond kept x None)) (cond kept x None)
  kept_and_put true true true a x h = refl
  kept_and_put true true false a x h = cc (h refl)
  kept_and_put true false true a x h = refl
  kept_and_put true false false a x h = refl
  kept_and_put false true true a x h = cc (h refl)
  kept_and_put false true false a x h = refl
  kept_and_put false false true a x h = refl
  kept_and_put false false false a x h = refl

  get_cond : (b : Bool) (m n : FinMap nat_cmp X) (q : ℕ) → get (cond b m n) q ≡ cond b (get m q) (get n q)
  get_cond true m n q = refl
  get_cond false m n q = refl

  -- what passes after a key is given a value
  pub retain-insert : (m : FinMap nat_cmp X) (k : ℕ) (v : X) (p : ℕ → Bool) → retain_keys (insert m k v) p ≡ cond (p k) (insert (retain_keys m p) k v) (retain_keys m p)
  retain-insert m k v p = same_map nat_cmp_total nat_cmp-IsAntisymmetric _ _ (λ q.
      get-retain (insert m k v) p q ∙ ap (λ o. cond (p q) o None) (get-insert nat_cmp_total m k v q)
      ∙ kept_and_put (p q) (eq_by_cmp nat_cmp q k) (p k) (Some v) (get m q) (λ e. ap p (same_key q k e))
      ∙ sym (get_cond (p k) (insert (retain_keys m p) k v) (retain_keys m p) q ∙ ap (λ o. cond (p k) o (get (retain_keys m p) q)) (get-insert nat_cmp_total (retain_keys m p) k v q)
      ∙ ap (λ o. cond (p k) (cond (eq_by_cmp nat_cmp q k) (Some v) o) o) (get-retain m p q)))

  kept_and_dropped : (kept same : Bool) (x : Option X) → cond kept (cond same None x) None ≡ cond same None (cond kept x None)
  kept_and_dropped true same x = refl
  kept_and_dropped false true x = refl
  kept_and_dropped false false x = refl

  -- what passes after a key is removed
  pub retain-remove : (m : FinMap nat_cmp X) (k : ℕ) (p : ℕ → Bool) → retain_keys (remove m k) p ≡ remove (retain_keys m p) k
  retain-remove m k p = same_map nat_cmp_total nat_cmp-IsAntisymmetric _ _ (λ q.
      get-retain (remove m k) p q ∙ ap (λ o. cond (p q) o None) (get-remove nat_cmp_total m k q)
      ∙ kept_and_dropped (p q) (eq_by_cmp nat_cmp q k) (get m q)
      ∙ sym (get-remove nat_cmp_total (retain_keys m p) k q ∙ ap (cond (eq_by_cmp nat_cmp q k) None) (get-retain m p q)))

  None_where_kept : (kept : Bool) (o : Option X) → o ≡ None → cond kept o None ≡ None
  None_where_kept true o e = e
  None_where_kept false o e = refl

  None_of_absent : (o : Option X) → is_some o ≡ false → o ≡ None
  None_of_absent None e = refl
  None_of_absent (Some x) e = cc

  -- a new key counts where it passes
  pub len_retain-insert : (m : FinMap nat_cmp X) (k : ℕ) (v : X) (p : ℕ → Bool) → get m k ≡ None → len (retain_keys (insert m k v) p) ≡ len (retain_keys m p) + cond (p k) 1 0
  len_retain-insert m k v p none =
      let kept : FinMap nat_cmp X = retain_keys m p in
      let absent : get kept k ≡ None = get-retain m p k ∙ None_where_kept (p k) (get m k) none in
      let one_more : len (insert kept k v) ≡ len kept + 1 = len-insert nat_cmp_total kept k v ∙ ap (λ o. cond (is_some o) (len kept) (len kept + 1)) absent in
      ap len (retain-insert m k v p) ∙ elim (p k) as (λ b. len (cond b (insert kept k v) kept) ≡ len kept + cond b 1 0) [ true ↦ one_more | false ↦ omega arith ]

  -- a key that goes did count where it passes
  pub len_retain-remove : (m : FinMap nat_cmp X) (k : ℕ) (v : X) (p : ℕ → Bool) → get m k ≡ Some v → len (retain_keys (remove m k) p) ≡ len (retain_keys m p) - cond (p k) 1 0
  len_retain-remove m k v p some =
      let kept : FinMap nat_cmp X = retain_keys m p in
      let here : get kept k ≡ cond (p k) (Some v) None = get-retain m p k ∙ ap (λ o. cond (p k) o None) some in
      ap len (retain-remove m k p) ∙ len-remove nat_cmp_total kept k ∙ ap (λ o. cond (is_some o) (len kept - 1) (len kept)) here
      ∙ elim (p k) as (λ b. cond (is_some (cond b (Some v) None)) (len kept - 1) (len kept) ≡ len kept - cond b 1 0) [ true ↦ refl | false ↦ omega arith ]

  replaced_kept : (kept : FinMap nat_cmp X) (k : ℕ) (v : X) (at : Bool) (o : Option X) → get kept k ≡ cond at o None → is_some o ≡ true → len (cond at (insert kept k v) kept) ≡ len kept
  replaced_kept kept k v true o here there = len-insert nat_cmp_total kept k v ∙ ap (λ b. cond b (len kept) (len kept + 1)) (ap is_some here ∙ there)
  replaced_kept kept k v false o here there = refl

  -- a value over another counts nothing
  pub len_retain-replace : (m : FinMap nat_cmp X) (k : ℕ) (v : X) (p : ℕ → Bool) → contains_key m k ≡ true → len (retain_keys (insert m k v) p) ≡ len (retain_keys m p)
  len_retain-replace m k v p there = ap len (retain-insert m k v p) ∙ replaced_kept (retain_keys m p) k v (p k) (get m k) (get-retain m p k) there

-- no key of the empty map passes
pub len_retain-empty : (X : Type 0) (p : ℕ → Bool) → len (retain_keys (empty {X = X} {R = nat_cmp}) p) ≡ 0
len_retain-empty X p = ap len (same_map nat_cmp_total nat_cmp-IsAntisymmetric (retain_keys empty p) empty (λ q.
    get-retain empty p q ∙ ap (λ o. cond (p q) o None) (get-empty nat_cmp q) ∙ None_where_kept (p q) None refl ∙ sym (get-empty nat_cmp q)))
    ∙ len-empty nat_cmp X

module _ {X : Type 0} where
  some_entry : (m : FinMap nat_cmp X) (k : ℕ) (v : X) → get m k ≡ Some v → 1 ≤ len m
  some_entry m k v e = elim (len m) as (λ n. len m ≡ n → 1 ≤ n) [
    | zero ↦ λ none. let nothing : get m k ≡ None = ap (λ t. get t k) (empty_of_len m none) ∙ get-empty nat_cmp k in cc
    | suc n ↦ λ is. omega arith
  ] refl

  -- a key that is there and passes is among those that pass
  pub one_counted : (m : FinMap nat_cmp X) (k : ℕ) (v : X) (p : ℕ → Bool) → get m k ≡ Some v → p k ≡ true → 1 ≤ len (retain_keys m p)
  one_counted m k v p e at = some_entry (retain_keys m p) k v (get-retain m p k ∙ ap (λ b. cond b (get m k) None) at ∙ e)

-- a count kept beside a map that has become another: a new key came, which passes or does not
pub counted-new : {X : Type 0} (m n : FinMap nat_cmp X) (k : ℕ) (v : X) (p : ℕ → Bool) (passes : Bool) (count : ℕ) → n ≡ insert m k v → contains_key m k ≡ false → p k ≡ passes
    → count ≡ len (retain_keys m p) → count + cond passes 1 0 ≡ len (retain_keys n p)
counted-new m n k v p passes count is absent at was =
    ap (λ a. a + cond passes 1 0) was ∙ ap (λ b. len (retain_keys m p) + cond b 1 0) (sym at) ∙ sym (len_retain-insert m k v p (None_of_absent (get m k) absent)) ∙ ap (λ t. len (retain_keys t p)) (sym is)

-- a key that was there went, which passes or does not
pub counted-gone : {X : Type 0} (m n : FinMap nat_cmp X) (k : ℕ) (v : X) (p : ℕ → Bool) (passes : Bool) (count : ℕ) → n ≡ remove m k → get m k ≡ Some v → p k ≡ passes
    → count ≡ len (retain_keys m p) → count - cond passes 1 0 ≡ len (retain_keys n p)
counted-gone m n k v p passes count is there at was =
    ap (λ a. a - cond passes 1 0) was ∙ ap (λ b. len (retain_keys m p) - cond b 1 0) (sym at) ∙ sym (len_retain-remove m k v p there) ∙ ap (λ t. len (retain_keys t p)) (sym is)

-- a key was given another value, where it was there
pub counted-replaced : {X : Type 0} (m n : FinMap nat_cmp X) (k : ℕ) (v : X) (p : ℕ → Bool) (found : Bool) (count : ℕ) → found ≡ contains_key m k → OnTrue found (n ≡ insert m k v) → OnFalse found (n ≡ m)
    → count ≡ len (retain_keys m p) → count ≡ len (retain_keys n p)
counted-replaced m n k v p true count there is same was = was ∙ sym (len_retain-replace m k v p (sym there)) ∙ ap (λ t. len (retain_keys t p)) (sym is)
counted-replaced m n k v p false count there is same was = was ∙ ap (λ t. len (retain_keys t p)) (sym same)
