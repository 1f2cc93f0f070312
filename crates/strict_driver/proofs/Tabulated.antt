-- What a map has that was made of a function and keys, and how it changes with them.
use Rattle.std.proofs.Common.{◌≡◌, ◌≢◌, ◌||◌, ℕ, Bool, true, false, cond, List, [], ◌∷◌, refl, sym, ◌∙◌, ap, Option, None, Some, is_some, inl, inr}
use Rattle.std.specs.Ordering.{nat_cmp, eq_by_cmp}
use Rattle.std.specs.Cmp.{nat_cmp_total}
use Rattle.std.specs.List.{list_any}
use Rattle.std.specs.FinMap as map
use Rattle.gl_base.proofs.Found.{test, get-insert_here, get-insert_other, get-remove_here, get-remove_other}
use Rattle.std.specs.Option.{option_map}
use Rattle.strict_driver.specs.Tabulated.{with_found, tabulated, map_values}

both_none : {X : Type 0} (b : Bool) (o : Option X) → o ≡ None → cond b o None ≡ None
both_none true o e = e
both_none false o e = refl

module _ {X : Type 0} where
  get_found : (key q : ℕ) (o : Option X) (m : map.FinMap nat_cmp X) (any : Bool) (v : Option X) → map.get m q ≡ cond any v None → (q ≡ key → v ≡ o) → map.get (with_found key o m) q ≡ cond (eq_by_cmp nat_cmp q key || any) v None
  get_found key q None m any v e at = elim (test q key) [
    | inl p ↦ e ∙ both_none any v (at p.0) ∙ sym (both_none (eq_by_cmp nat_cmp q key || any) v (at p.0))
    | inr p ↦ e ∙ ap (λ b. cond (b || any) v None) (sym p.1)
  ]
  get_found key q (Some x) m any v e at = map.get-insert nat_cmp_total m key x q ∙ elim (test q key) [
    | inl p ↦ ap (λ b. cond b (Some x) (map.get m q)) p.1 ∙ sym (at p.0) ∙ ap (λ b. cond (b || any) v None) (sym p.1)
    | inr p ↦ ap (λ b. cond b (Some x) (map.get m q)) p.1 ∙ e ∙ ap (λ b. cond (b || any) v None) (sym p.1)
  ]

  get_keys : (f : ℕ → Option X) (keys : List ℕ) (q : ℕ) → map.get (tabulated f keys) q ≡ cond (list_any (eq_by_cmp nat_cmp q) keys) (f q) None
  get_keys f [] q = map.get-empty nat_cmp q
  get_keys f (key ∷ keys) q = get_found key q (f key) (tabulated f keys) (list_any (eq_by_cmp nat_cmp q) keys) (f q) (get_keys f keys q) (λ is. ap f is)

module _ {X Y : Type 0} where
  -- where no key is, the function gives nothing
  abbrev pub HasKeys : map.FinMap nat_cmp Y → (ℕ → Option X) → Type 0
  HasKeys m f = (q : ℕ) → map.get m q ≡ None → f q ≡ None

  only_there : (o : Option Y) (v : Option X) → (o ≡ None → v ≡ None) → cond (is_some o) v None ≡ v
  only_there None v h = sym (h refl)
  only_there (Some y) v h = refl

  pub get_tabulated : (m : map.FinMap nat_cmp Y) (f : ℕ → Option X) → HasKeys m f → (q : ℕ) → map.get (tabulated f (map.keys m)) q ≡ f q
  get_tabulated m f keys q = get_keys f (map.keys m) q ∙ ap (λ b. cond b (f q) None) (sym (map.contains_key-keys m q)) ∙ only_there (map.get m q) (f q) (keys q)

  -- the same map, where the functions give the same
  pub tabulated-same : (m m2 : map.FinMap nat_cmp Y) (f f2 : ℕ → Option X) → HasKeys m f → HasKeys m2 f2 → ((q : ℕ) → f2 q ≡ f q) → tabulated f2 (map.keys m2) ≡ tabulated f (map.keys m)
  tabulated-same m m2 f f2 keys keys2 same = map.same_map nat_cmp_total map.nat_cmp-IsAntisymmetric _ _ (λ q. get_tabulated m2 f2 keys2 q ∙ same q ∙ sym (get_tabulated m f keys q))

  -- one more value, where the functions differ at its key alone
  pub tabulated-insert : (m m2 : map.FinMap nat_cmp Y) (f f2 : ℕ → Option X) → HasKeys m f → HasKeys m2 f2 → (k : ℕ) (v : X) → f2 k ≡ Some v → ((q : ℕ) → q ≢ k → f2 q ≡ f q) → tabulated f2 (map.keys m2) ≡ map.insert (tabulated f (map.keys m)) k v
  tabulated-insert m m2 f f2 keys keys2 k v here other = map.same_map nat_cmp_total map.nat_cmp-IsAntisymmetric _ _ (λ q. get_tabulated m2 f2 keys2 q ∙ elim (test q k) [
    | inl p ↦ ap f2 p.0 ∙ here ∙ sym (ap (map.get (map.insert (tabulated f (map.keys m)) k v)) p.0 ∙ get-insert_here (tabulated f (map.keys m)) k v)
    | inr p ↦ other q p.0 ∙ sym (get_tabulated m f keys q) ∙ sym (get-insert_other (tabulated f (map.keys m)) k v q p.0)
  ])

  -- one value less
  pub tabulated-remove : (m m2 : map.FinMap nat_cmp Y) (f f2 : ℕ → Option X) → HasKeys m f → HasKeys m2 f2 → (k : ℕ) → f2 k ≡ None → ((q : ℕ) → q ≢ k → f2 q ≡ f q) → tabulated f2 (map.keys m2) ≡ map.remove (tabulated f (map.keys m)) k
  tabulated-remove m m2 f f2 keys keys2 k here other = map.same_map nat_cmp_total map.nat_cmp-IsAntisymmetric _ _ (λ q. get_tabulated m2 f2 keys2 q ∙ elim (test q k) [
    | inl p ↦ ap f2 p.0 ∙ here ∙ sym (ap (map.get (map.remove (tabulated f (map.keys m)) k)) p.0 ∙ get-remove_here (tabulated f (map.keys m)) k)
    | inr p ↦ other q p.0 ∙ sym (get_tabulated m f keys q) ∙ sym (get-remove_other (tabulated f (map.keys m)) k q p.0)
  ])

-- a map with other values
module _ {X Y : Type 0} (f : X → Y) where
  mapped_keys : (m : map.FinMap nat_cmp X) (q : ℕ) → map.get m q ≡ None → option_map f (map.get m q) ≡ None
  mapped_keys m q none = ap (option_map f) none

  pub get-map_values : (m : map.FinMap nat_cmp X) (q : ℕ) → map.get (map_values f m) q ≡ option_map f (map.get m q)
  get-map_values m q = get_tabulated m (λ key. option_map f (map.get m key)) (mapped_keys m) q

  pub map_values-insert : (m : map.FinMap nat_cmp X) (k : ℕ) (v : X) → map_values f (map.insert m k v) ≡ map.insert (map_values f m) k (f v)
  map_values-insert m k v = tabulated-insert m (map.insert m k v) (λ q. option_map f (map.get m q)) (λ q. option_map f (map.get (map.insert m k v) q)) (mapped_keys m) (mapped_keys (map.insert m k v)) k (f v)
      (ap (option_map f) (get-insert_here m k v)) (λ q apart. ap (option_map f) (get-insert_other m k v q apart))

  pub map_values-remove : (m : map.FinMap nat_cmp X) (k : ℕ) → map_values f (map.remove m k) ≡ map.remove (map_values f m) k
  map_values-remove m k = tabulated-remove m (map.remove m k) (λ q. option_map f (map.get m q)) (λ q. option_map f (map.get (map.remove m k) q)) (mapped_keys m) (mapped_keys (map.remove m k)) k
      (ap (option_map f) (get-remove_here m k)) (λ q apart. ap (option_map f) (get-remove_other m k q apart))

  pub map_values-empty : map_values f map.empty ≡ map.empty
  map_values-empty = map.same_map nat_cmp_total map.nat_cmp-IsAntisymmetric _ _ (λ q. get-map_values map.empty q ∙ ap (option_map f) (map.get-empty nat_cmp q) ∙ sym (map.get-empty nat_cmp q))

-- what a map with other values has, empty and after a change
pub ruleset mapped = (get-map_values, map_values-insert, map_values-remove, map_values-empty)
