-- Finite maps whose keys are numbers: from std's lists of entries to `FinMap`, and back.
use Rattle.std.proofs.Common.{◌≡◌, ℕ, ◌+◌, true, cond, List, [], ◌∷◌, length, refl, sym, subst, T, ◌∙◌, ap, ◌&&◌, Option, None, Some, is_some, Bool, false, arith, Ordering, Less, Equal, Greater}
use Rattle.std.specs.FinMap.Entries.{below_all}
use Rattle.std.specs.Ordering.{nat_cmp, eq_by_cmp, is_eq, is_lt}
use Rattle.std.specs.Cmp.{nat_cmp_total, eq_by_cmp_equiv}
use Rattle.std.specs.List.{AllByRecursion}
use Rattle.std.specs.List.Sorted.{IsStrictlySortedBy}
use Rattle.std.specs.Map.{lookup, keys_of}
use Rattle.std.specs.BTreeMap.{is_at}
use Rattle.std.specs.FinMap.{FinMap, nat_cmp-IsAntisymmetric, entries, entries-from_sorted, from_sorted, get-from_sorted, is_sorted, get, insert, remove, len, from_entries, find, get-from_entries, get-insert, get-remove, len-insert, len-empty, same_map}

Equal_of_is_eq : (o : Ordering) → is_eq o ≡ true → o ≡ Equal
Equal_of_is_eq Less e = cc
Equal_of_is_eq Equal e = refl
Equal_of_is_eq Greater e = cc

-- only equal keys tie
pub same_key : (q k : ℕ) → eq_by_cmp nat_cmp q k ≡ true → q ≡ k
same_key q k e = nat_cmp-IsAntisymmetric q k (Equal_of_is_eq (nat_cmp q k) e)

module _ {X : Type 0} where
  find_is_lookup : (es : List (ℕ × X)) (q : ℕ) → find nat_cmp q es ≡ lookup (is_at (nat_cmp q)) es
  find_is_lookup [] q = refl
  find_is_lookup (e ∷ es) q = ap (cond (is_at (nat_cmp q) e.0) (Some e.1)) (find_is_lookup es q)

  get_is_lookup : (es : List (ℕ × X)) (q : ℕ) → get (from_entries {R = nat_cmp} es) q ≡ lookup (is_at (nat_cmp q)) es
  get_is_lookup es q = get-from_entries nat_cmp_total es q ∙ find_is_lookup es q

  -- what std finds among the entries is what the map has
  pub lookup_is_get : (es : List (ℕ × X)) (m : FinMap nat_cmp X) (k : ℕ) (found : Option X) → from_entries es ≡ m → found ≡ lookup (is_at (nat_cmp k)) es → found ≡ get m k
  lookup_is_get es m k found view is = is ∙ sym (get_is_lookup es k) ∙ ap (λ n. get n k) view

  -- entries that differ at one key alone, where the new ones have v
  pub from_entries-insert : (es fs : List (ℕ × X)) (m : FinMap nat_cmp X) (k : ℕ) (v : X) → from_entries es ≡ m
      → ((q : ℕ) → lookup (is_at (nat_cmp q)) fs ≡ cond (is_at (nat_cmp k) q) (Some v) (lookup (is_at (nat_cmp q)) es)) → from_entries fs ≡ insert m k v
  from_entries-insert es fs m k v view others = same_map nat_cmp_total nat_cmp-IsAntisymmetric _ _ (λ q.
      get_is_lookup fs q ∙ others q ∙ ap (λ b. cond b (Some v) (lookup (is_at (nat_cmp q)) es)) ((eq_by_cmp_equiv nat_cmp_total).symm k q)
      ∙ sym (get-insert nat_cmp_total (from_entries es) k v q ∙ ap (cond (is_at (nat_cmp q) k) (Some v)) (get_is_lookup es q)))
      ∙ ap (λ n. insert n k v) view

  -- the same, where the new ones have nothing there
  pub from_entries-remove : (es fs : List (ℕ × X)) (m : FinMap nat_cmp X) (k : ℕ) → from_entries es ≡ m
      → ((q : ℕ) → lookup (is_at (nat_cmp q)) fs ≡ cond (is_at (nat_cmp k) q) None (lookup (is_at (nat_cmp q)) es)) → from_entries fs ≡ remove m k
  from_entries-remove es fs m k view others = same_map nat_cmp_total nat_cmp-IsAntisymmetric _ _ (λ q.
      get_is_lookup fs q ∙ others q ∙ ap (λ b. cond b None (lookup (is_at (nat_cmp q)) es)) ((eq_by_cmp_equiv nat_cmp_total).symm k q)
      ∙ sym (get-remove nat_cmp_total (from_entries es) k q ∙ ap (cond (is_at (nat_cmp q) k) None) (get_is_lookup es q)))
      ∙ ap (λ n. remove n k) view

  lookup_below : (k : ℕ) (es : List (ℕ × X)) → AllByRecursion (λ q. nat_cmp k q ≡ Less) (keys_of es) → lookup (is_at (nat_cmp k)) es ≡ None
  lookup_below k [] below = refl
  lookup_below k (e ∷ es) below = ap (λ o. cond (is_eq o) (Some e.1) (lookup (is_at (nat_cmp k)) es)) below.0 ∙ lookup_below k es below.1

  -- entries in order have different keys, so each counts
  pub len-from_entries : (es : List (ℕ × X)) → IsStrictlySortedBy nat_cmp (keys_of es) → len (from_entries {R = nat_cmp} es) ≡ length es
  unfolding IsStrictlySortedBy
  len-from_entries [] ordered = len-empty nat_cmp X
  len-from_entries (e ∷ es) ordered =
      let new : get (from_entries {R = nat_cmp} es) e.0 ≡ None = get_is_lookup es e.0 ∙ lookup_below e.0 es ordered.0 in
      len-insert nat_cmp_total (from_entries es) e.0 e.1 ∙ ap (λ o. cond (is_some o) (len (from_entries {R = nat_cmp} es)) (len (from_entries {R = nat_cmp} es) + 1)) new
      ∙ omega (arith, len-from_entries es ordered.1)

  none_there : (b : Bool) (o : Option X) → (b ≡ true → o ≡ None) → cond b None o ≡ o
  none_there true o h = sym (h refl)
  none_there false o h = refl

  -- to remove a key that is not there changes nothing
  pub remove-absent : (m : FinMap nat_cmp X) (k : ℕ) → get m k ≡ None → remove m k ≡ m
  remove-absent m k none = same_map nat_cmp_total nat_cmp-IsAntisymmetric _ _ (λ q.
      get-remove nat_cmp_total m k q ∙ none_there (eq_by_cmp nat_cmp q k) (get m q) (λ e. ap (get m) (same_key q k e) ∙ none))

  below_is : (k : ℕ) (es : List (ℕ × X)) → AllByRecursion (λ q. nat_cmp k q ≡ Less) (keys_of es) → below_all nat_cmp k es ≡ true
  below_is k [] below = refl
  below_is k (e ∷ es) below = (λ i. is_lt (below.0 i) && below_is k es below.1 i)

  sorted_is : (es : List (ℕ × X)) → IsStrictlySortedBy nat_cmp (keys_of es) → is_sorted nat_cmp es ≡ true
  unfolding IsStrictlySortedBy
  sorted_is [] ordered = refl
  sorted_is (e ∷ es) ordered = (λ i. below_is e.0 es ordered.0 i && sorted_is es ordered.1 i)

  -- entries in order are those of their map
  pub entries-from_entries : (es : List (ℕ × X)) (m : FinMap nat_cmp X) → from_entries es ≡ m → IsStrictlySortedBy nat_cmp (keys_of es) → es ≡ entries m
  entries-from_entries es m view ordered =
      let sorted : T (is_sorted nat_cmp es) = subst T (sym (sorted_is es ordered)) tt in
      let same : from_entries {R = nat_cmp} es ≡ from_sorted es = same_map nat_cmp_total nat_cmp-IsAntisymmetric _ _ (λ q. get-from_entries nat_cmp_total es q ∙ sym (get-from_sorted nat_cmp es q sorted)) in
      sym (entries-from_sorted nat_cmp es sorted) ∙ sym (ap entries same) ∙ ap entries view
