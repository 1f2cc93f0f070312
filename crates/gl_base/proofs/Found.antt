-- What a map of numbers has at a key after a change, and what a set of numbers has.
use Rattle.std.proofs.Common.{◌≡◌, ◌≢◌, ◌⊎◌, inl, inr, ℕ, Bool, true, false, cond, refl, sym, ◌∙◌, ap, None, Some, ◌||◌}
use Rattle.std.specs.Ordering.{nat_cmp, eq_by_cmp}
use Rattle.std.specs.Cmp.{nat_cmp_total, eq_by_cmp_equiv}
use Rattle.std.specs.FinMap.{FinMap, get, insert, remove, get-insert, get-remove, same_map, nat_cmp-IsAntisymmetric}
use Rattle.std.specs.FinSet as set
use Rattle.gl_base.proofs.Maps.{same_key}

ties_with_itself : (k : ℕ) → eq_by_cmp nat_cmp k k ≡ true
ties_with_itself k = (eq_by_cmp_equiv nat_cmp_total).refl k

-- two keys are equal or not, and their comparison says which
pub test : (q k : ℕ) → ((q ≡ k) × (eq_by_cmp nat_cmp q k ≡ true)) ⊎ ((q ≢ k) × (eq_by_cmp nat_cmp q k ≡ false))
test q k = elim (eq_by_cmp nat_cmp q k) as (λ b. eq_by_cmp nat_cmp q k ≡ b → ((q ≡ k) × (b ≡ true)) ⊎ ((q ≢ k) × (b ≡ false))) [
  | true ↦ λ e. inl (same_key q k e, refl)
  | false ↦ λ e. inr ((λ is. let t : eq_by_cmp nat_cmp q k ≡ true = ap (λ j. eq_by_cmp nat_cmp j k) is ∙ ties_with_itself k in cc), refl)
] refl

some_injective : {X : Type 0} (x y : X) → Some x ≡ Some y → x ≡ y
some_injective x y e = cc

module _ {X : Type 0} (m : FinMap nat_cmp X) (k : ℕ) where
  -- the key that was given a value has that value
  pub get-insert_here : (v : X) → get (insert m k v) k ≡ Some v
  get-insert_here v = get-insert nat_cmp_total m k v k ∙ ap (λ b. cond b (Some v) (get m k)) (ties_with_itself k)

  -- any other key has what it had
  pub get-insert_other : (v : X) (q : ℕ) → q ≢ k → get (insert m k v) q ≡ get m q
  get-insert_other v q apart = elim (test q k) [ inl p ↦ absurd (apart p.0) | inr p ↦ get-insert nat_cmp_total m k v q ∙ ap (λ b. cond b (Some v) (get m q)) p.1 ]

  -- what is found after an insert is the new value at its key, or was there before
  pub found-insert : (v : X) (q : ℕ) (x : X) → get (insert m k v) q ≡ Some x → ((q ≡ k) × (v ≡ x)) ⊎ ((q ≢ k) × (get m q ≡ Some x))
  found-insert v q x e = elim (test q k) [
    | inl p ↦ inl (p.0, some_injective v x (sym (get-insert_here v) ∙ ap (get (insert m k v)) (sym p.0) ∙ e))
    | inr p ↦ inr (p.0, sym (get-insert_other v q p.0) ∙ e)
  ]

  -- a key that is given the value that it has
  pub insert-same : (v : X) → get m k ≡ Some v → insert m k v ≡ m
  insert-same v has = same_map nat_cmp_total nat_cmp-IsAntisymmetric (insert m k v) m (λ q. elim (test q k) [
    | inl p ↦ ap (get (insert m k v)) p.0 ∙ get-insert_here v ∙ sym has ∙ sym (ap (get m) p.0)
    | inr p ↦ get-insert_other v q p.0
  ])

  -- the key that was removed has no value
  pub get-remove_here : get (remove m k) k ≡ None
  get-remove_here = get-remove nat_cmp_total m k k ∙ ap (λ b. cond b None (get m k)) (ties_with_itself k)

  -- any other key has what it had
  pub get-remove_other : (q : ℕ) → q ≢ k → get (remove m k) q ≡ get m q
  get-remove_other q apart = elim (test q k) [ inl p ↦ absurd (apart p.0) | inr p ↦ get-remove nat_cmp_total m k q ∙ ap (λ b. cond b None (get m q)) p.1 ]

  -- what is found after a removal is at another key, and was there before
  pub found-remove : (q : ℕ) (x : X) → get (remove m k) q ≡ Some x → (q ≢ k) × (get m q ≡ Some x)
  found-remove q x e = elim (test q k) [
    | inl p ↦ let none : get (remove m k) q ≡ None = ap (get (remove m k)) p.0 ∙ get-remove_here in cc
    | inr p ↦ (p.0, sym (get-remove_other q p.0) ∙ e)
  ]

-- a set has what was put into it
pub contains-insert_here : (s : set.FinSet nat_cmp) (k : ℕ) → set.contains (set.insert s k) k ≡ true
contains-insert_here s k = set.contains-insert nat_cmp_total s k k ∙ ap (λ b. b || set.contains s k) (ties_with_itself k)

or_true : (b : Bool) → (b || true) ≡ true
or_true true = refl
or_true false = refl

-- a set keeps what it had when something is put into it
pub contains-insert_kept : (s : set.FinSet nat_cmp) (k q : ℕ) → set.contains s q ≡ true → set.contains (set.insert s k) q ≡ true
contains-insert_kept s k q e = set.contains-insert nat_cmp_total s k q ∙ ap (λ b. eq_by_cmp nat_cmp q k || b) e ∙ or_true (eq_by_cmp nat_cmp q k)
