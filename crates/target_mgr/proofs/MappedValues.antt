-- What a map with other values has, empty and after a change.
use Rattle.std.proofs.Common.{◌≡◌, ℕ, cond, List, [], ◌∷◌, true, false, Bool, refl, sym, ◌∙◌, ap, Option, Some, inl, inr}
use Rattle.std.specs.Prelude.{map}
use Rattle.std.specs.Ordering.{nat_cmp, eq_by_cmp}
use Rattle.std.specs.Cmp.{nat_cmp_total}
use Rattle.std.specs.FinMap as table
use Rattle.std.specs.Option.{option_map}
use Rattle.gl_base.proofs.Found.{test, get-insert_here, get-insert_other, get-remove_here, get-remove_other}
use Rattle.target_mgr.specs.MappedValues.{map_values}

module _ {X Y : Type 0} (f : X → Y) where
  over_cond : (b : Bool) (x : X) (o : Option X) → cond b (Some (f x)) (option_map f o) ≡ option_map f (cond b (Some x) o)
  over_cond true x o = refl
  over_cond false x o = refl

  find_mapped : (es : List (ℕ × X)) (q : ℕ) → table.find nat_cmp q (map (λ (e : ℕ × X). (e.0, f e.1)) es) ≡ option_map f (table.find nat_cmp q es)
  find_mapped [] q = refl
  find_mapped (e ∷ es) q = ap (cond (eq_by_cmp nat_cmp q e.0) (Some (f e.1))) (find_mapped es q) ∙ over_cond (eq_by_cmp nat_cmp q e.0) e.1 (table.find nat_cmp q es)

  pub get-map_values : (m : table.FinMap nat_cmp X) (q : ℕ) → table.get (map_values f m) q ≡ option_map f (table.get m q)
  get-map_values m q =
      table.get-from_entries nat_cmp_total (map (λ (e : ℕ × X). (e.0, f e.1)) (table.entries m)) q ∙ find_mapped (table.entries m) q ∙ ap (option_map f) (sym (table.get-entries m q))

  pub map_values-insert : (m : table.FinMap nat_cmp X) (k : ℕ) (v : X) → map_values f (table.insert m k v) ≡ table.insert (map_values f m) k (f v)
  map_values-insert m k v = table.same_map nat_cmp_total table.nat_cmp-IsAntisymmetric _ _ (λ q. get-map_values (table.insert m k v) q ∙ elim (test q k) [
    | inl p ↦ ap (λ j. option_map f (table.get (table.insert m k v) j)) p.0 ∙ ap (option_map f) (get-insert_here m k v) ∙ sym (ap (table.get (table.insert (map_values f m) k (f v))) p.0 ∙ get-insert_here (map_values f m) k (f v))
    | inr p ↦ ap (option_map f) (get-insert_other m k v q p.0) ∙ sym (get-map_values m q) ∙ sym (get-insert_other (map_values f m) k (f v) q p.0)
  ])

  pub map_values-remove : (m : table.FinMap nat_cmp X) (k : ℕ) → map_values f (table.remove m k) ≡ table.remove (map_values f m) k
  map_values-remove m k = table.same_map nat_cmp_total table.nat_cmp-IsAntisymmetric _ _ (λ q. get-map_values (table.remove m k) q ∙ elim (test q k) [
    | inl p ↦ ap (λ j. option_map f (table.get (table.remove m k) j)) p.0 ∙ ap (option_map f) (get-remove_here m k) ∙ sym (ap (table.get (table.remove (map_values f m) k)) p.0 ∙ get-remove_here (map_values f m) k)
    | inr p ↦ ap (option_map f) (get-remove_other m k q p.0) ∙ sym (get-map_values m q) ∙ sym (get-remove_other (map_values f m) k q p.0)
  ])

  pub map_values-empty : map_values f table.empty ≡ table.empty
  map_values-empty = table.same_map nat_cmp_total table.nat_cmp-IsAntisymmetric _ _ (λ q. get-map_values table.empty q ∙ ap (option_map f) (table.get-empty nat_cmp q) ∙ sym (table.get-empty nat_cmp q))

pub ruleset mapped = (get-map_values, map_values-insert, map_values-remove, map_values-empty)
