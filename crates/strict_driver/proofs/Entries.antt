-- From the entries of an ordered map to the finite map that they are.
use Rattle.std.proofs.Common.{◌≡◌, ℕ, cond, List, [], ◌∷◌, refl, sym, ◌∙◌, ap, Option, Some, nat_eq, inl, inr}
use Rattle.std.proofs.lemmas.Bool.Decides.{eqb_tells}
use Rattle.std.specs.Ordering.{nat_cmp}
use Rattle.std.specs.Map.{lookup}
use Rattle.std.specs.BTreeMap.{is_at}
use Rattle.std.specs.FinMap.{FinMap, get, insert, from_entries}
use Rattle.gl_base.proofs.Maps.{lookup_is_get, from_entries-insert}
use Rattle.gl_base.proofs.Found.{test}

-- the two tests of a key are the same
same_test : (q k : ℕ) → is_at (nat_cmp q) k ≡ nat_eq q k
same_test q k = elim (eqb_tells q k) [
  | inl p ↦ elim (test q k) [ inl t ↦ t.1 ∙ sym p.0 | inr t ↦ absurd (t.0 p.1) ]
  | inr p ↦ elim (test q k) [ inl t ↦ absurd (p.1 t.0) | inr t ↦ t.1 ∙ sym p.0 ]
]

module _ {X : Type 0} where
  lookup_same : (es : List (ℕ × X)) (q : ℕ) → lookup (is_at (nat_cmp q)) es ≡ lookup (nat_eq q) es
  lookup_same [] q = refl
  lookup_same (e ∷ es) q = ap (λ b. cond b (Some e.1) (lookup (is_at (nat_cmp q)) es)) (same_test q e.0) ∙ ap (cond (nat_eq q e.0) (Some e.1)) (lookup_same es q)

  pub get_entry : (es : List (ℕ × X)) (m : FinMap nat_cmp X) (k : ℕ) (found : Option X) → from_entries es ≡ m → found ≡ lookup (nat_eq k) es → found ≡ get m k
  get_entry es m k found view is = lookup_is_get es m k found view (is ∙ sym (lookup_same es k))

  pub entry_inserted : (es fs : List (ℕ × X)) (m : FinMap nat_cmp X) (k : ℕ) (v : X) → from_entries es ≡ m → ((q : ℕ) → lookup (nat_eq q) fs ≡ cond (nat_eq k q) (Some v) (lookup (nat_eq q) es)) → from_entries fs ≡ insert m k v
  entry_inserted es fs m k v view h = from_entries-insert es fs m k v view (λ q.
      lookup_same fs q ∙ h q ∙ ap (λ b. cond b (Some v) (lookup (nat_eq q) es)) (sym (same_test k q)) ∙ ap (cond (is_at (nat_cmp k) q) (Some v)) (sym (lookup_same es q)))
