-- The names of shaders and programs, beside the names of their objects, as objects come and go.
use Rattle.std.proofs.Common.{◌≡◌, ◌≢◌, ℕ, true, false, Option, None, Some, inl, inr, refl, sym, ap, ◌∙◌, subst}
use Rattle.std.specs.Ordering.{nat_cmp}
use Rattle.std.specs.Cmp.{nat_cmp_total}
use Rattle.std.specs.FinMap.{FinMap, get, insert, remove, same_map, nat_cmp-IsAntisymmetric}
use Rattle.std.specs.FinSet as set
use Rattle.gl_base.proofs.Found.{test, get-insert_here, get-insert_other, found-insert, get-remove_other, found-remove}
use Rattle.gl_plain.specs.declared.objects.Name.{Name}
use Rattle.gl_plain.specs.subjects.Names.{Names, new_name, named, IsFresh, NamesAgree}
use Rattle.gl_plain.specs.subjects.Programs.{object_name, names_without, AreInverse}
use Rattle.gl_plain.proofs.NamesAgree.{agree-named, agree-made, agree-removed}

-- of two values for a key the later one counts
insert-again : {X : Type 0} (m : FinMap nat_cmp X) (k : ℕ) (v u : X) → insert (insert m k v) k u ≡ insert m k u
insert-again m k v u = same_map nat_cmp_total nat_cmp-IsAntisymmetric (insert (insert m k v) k u) (insert m k u) (λ q. elim (test q k) [
  | inl p ↦ ap (get (insert (insert m k v) k u)) p.0 ∙ get-insert_here (insert m k v) k u ∙ sym (get-insert_here m k u) ∙ sym (ap (get (insert m k u)) p.0)
  | inr p ↦ get-insert_other (insert m k v) k u q p.0 ∙ get-insert_other m k v q p.0 ∙ sym (get-insert_other m k u q p.0)
])

-- nothing is at a key if whatever is there contradicts it
none_there : {X : Type 0} (o : Option X) → ((x : X) → o ≡ Some x → ⊥) → o ≡ None
none_there None f = refl
none_there (Some x) f = absurd (f x refl)

same_number : (q n : ℕ) → Some (object_name q) ≡ Some (object_name n) → q ≡ n
same_number q n e = let same : object_name q ≡ object_name n = cc in ap (λ (x : Name). x.number) same

-- a name whose object is there at once
pub agree-object : (w d : Names) (given : set.FinSet nat_cmp) → NamesAgree w d given → (id n : ℕ) → get w id ≡ None → id ≢ 0 → IsFresh given n → NamesAgree (insert w id (object_name n)) (insert d n (object_name n)) (set.insert given n)
agree-object w d given a id n free positive fresh =
    let both : NamesAgree (insert (named w id n) id (object_name n)) (insert (named d n n) n (object_name n)) (set.insert given n) =
    agree-made (named w id n) (named d n n) (set.insert given n) (agree-named w d given a id n free positive fresh) id (new_name n) (get-insert_here w id (new_name n)) in
    subst (λ (m : Names). NamesAgree m (insert d n (object_name n)) (set.insert given n)) (insert-again w id (new_name n) (object_name n))
    (subst (λ (m : Names). NamesAgree (insert (named w id n) id (object_name n)) m (set.insert given n)) (insert-again d n (new_name n) (object_name n)) both)

module _ (names : Names) (ids : FinMap nat_cmp ℕ) (a : AreInverse names ids) where
  -- a new name and its new object
  pub inverse-object : (id n : ℕ) → get names id ≡ None → get ids n ≡ None → AreInverse (insert names id (object_name n)) (insert ids n id)
  inverse-object id n free unowned = record {
    named = λ i x e. elim (found-insert names id (object_name n) i x e) [
      | inl p ↦ subst (λ (y : Name). get (insert ids n id) y.number ≡ Some i) p.1 (get-insert_here ids n id ∙ ap Some (sym p.0))
      | inr p ↦ get-insert_other ids n id x.number (λ is. let some : get ids n ≡ Some i = ap (get ids) (sym is) ∙ a.named i x p.1 in cc) ∙ a.named i x p.1
    ];
    owned = λ q i e. elim (found-insert ids n id q i e) [
      | inl p ↦ ap (get (insert names id (object_name n))) (sym p.1) ∙ get-insert_here names id (object_name n) ∙ ap (λ (k : ℕ). Some (object_name k)) (sym p.0)
      | inr p ↦ get-insert_other names id (object_name n) i (λ is. let some : get names id ≡ Some (object_name q) = ap (get names) (sym is) ∙ a.owned q i p.1 in cc) ∙ a.owned q i p.1
    ];
  }

  -- the object of a name that is there
  inverse-gone : (n id : ℕ) → get ids n ≡ Some id → AreInverse (remove names id) (remove ids n)
  inverse-gone n id there = record {
    named = λ i x e. let p = found-remove names id i x e in
        get-remove_other ids n x.number (λ is. let some : get ids n ≡ Some i = ap (get ids) (sym is) ∙ a.named i x p.1 in let same : id ≡ i = cc in p.0 (sym same)) ∙ a.named i x p.1;
    owned = λ q i e. let p = found-remove ids n q i e in
        get-remove_other names id i (λ is. let some : get names id ≡ Some (object_name q) = ap (get names) (sym is) ∙ a.owned q i p.1 in let here : get names id ≡ Some (object_name n) = a.owned n id there in p.0 (same_number q n (sym some ∙ here))) ∙ a.owned q i p.1;
  }

  inverse-none : (n : ℕ) → get ids n ≡ None → AreInverse names (remove ids n)
  inverse-none n none = record {
    named = λ i x e. get-remove_other ids n x.number (λ is. let some : get ids n ≡ Some i = ap (get ids) (sym is) ∙ a.named i x e in cc) ∙ a.named i x e;
    owned = λ q i e. a.owned q i (found-remove ids n q i e).1;
  }

  inverse-by : (n : ℕ) (found : Option ℕ) → get ids n ≡ found → AreInverse (names_without names found) (remove ids n)
  inverse-by n None e = inverse-none n e
  inverse-by n (Some id) e = inverse-gone n id e

  -- an object goes, with its name
  pub inverse-without : (n : ℕ) → AreInverse (names_without names (get ids n)) (remove ids n)
  inverse-without n = inverse-by n (get ids n) refl

module _ (w d : Names) (given : set.FinSet nat_cmp) (a : NamesAgree w d given) (ids own : FinMap nat_cmp ℕ) (i : AreInverse w ids) (j : AreInverse d own) where
  -- a new number is of no object of the service
  pub unowned : (n : ℕ) → IsFresh given n → get ids n ≡ None
  unowned n fresh = none_there (get ids n) (λ id e.
      let kept : set.contains given n ≡ true = a.given_once n (object_name n) (a.live id (object_name n) (i.owned n id e)) in
      let not_kept : set.contains given n ≡ false = fresh.unused in absurd (cc))

  -- nor of the driver
  pub unowned_there : (n : ℕ) → IsFresh given n → get own n ≡ None
  unowned_there n fresh = none_there (get own n) (λ id e.
      let there : get d id ≡ Some (object_name n) = j.owned n id e in
      let same : n ≡ id = a.own id (object_name n) there in
      let kept : set.contains given n ≡ true = ap (set.contains given) same ∙ a.given_once id (object_name n) there in
      let not_kept : set.contains given n ≡ false = fresh.unused in absurd (cc))

  pub unlive : (n : ℕ) → IsFresh given n → get d n ≡ None
  unlive n fresh = none_there (get d n) (λ x e.
      let kept : set.contains given n ≡ true = a.given_once n x e in
      let not_kept : set.contains given n ≡ false = fresh.unused in absurd (cc))

  -- what is no object of the service is none of the driver
  none_owned : (n : ℕ) → get ids n ≡ None → get own n ≡ None
  none_owned n none = none_there (get own n) (λ id e.
      let there : get d id ≡ Some (object_name n) = j.owned n id e in
      let used : (k : ℕ) × (get w k ≡ Some (object_name n)) = a.used id (object_name n) there in
      let some : get ids n ≡ Some used.0 = i.named used.0 (object_name n) used.1 in absurd (cc))

  without_by : (n : ℕ) (found : Option ℕ) → get ids n ≡ found → NamesAgree (names_without w found) (names_without d (get own n)) given
  without_by n None e = subst (λ (o : Option ℕ). NamesAgree w (names_without d o) given) (sym (none_owned n e)) a
  without_by n (Some id) e =
      let there : get w id ≡ Some (object_name n) = i.owned n id e in
      let is : get own n ≡ Some n = j.named n (object_name n) (a.live id (object_name n) there) in
      subst (λ (o : Option ℕ). NamesAgree (remove w id) (names_without d o) given) (sym is) (agree-removed w d given a id (object_name n) there)

  -- the name of an object goes
  pub agree-without : (n : ℕ) → NamesAgree (names_without w (get ids n)) (names_without d (get own n)) given
  agree-without n = without_by n (get ids n) refl
