-- Names stay one to one.
use Rattle.std.proofs.Common.{◌≡◌, ◌≢◌, inl, inr, ℕ, true, false, refl, sym, ◌∙◌, ap, subst, None, Some}
use Rattle.std.specs.Ordering.{nat_cmp}
use Rattle.std.specs.FinMap.{get, remove}
use Rattle.std.specs.FinSet as set
use Rattle.gl_plain.specs.declared.objects.Name.{Name}
use Rattle.gl_plain.specs.subjects.Names.{Names, new_name, named, made_object, IsFresh, NamesAgree}
use Rattle.gl_base.proofs.Found.{get-insert_here, get-insert_other, found-insert, get-remove_other, found-remove, contains-insert_here, contains-insert_kept}

same_value : (x y : Name) → Some x ≡ Some y → y ≡ x
same_value x y e = cc

module _ (w d : Names) (given : set.FinSet nat_cmp) (a : NamesAgree w d given) where
  not_fresh : (n q : ℕ) (x : Name) → IsFresh given n → get d q ≡ Some x → q ≢ n
  not_fresh n q x fresh e is = let t : set.contains given n ≡ true = ap (set.contains given) (sym is) ∙ a.given_once q x e in let f : set.contains given n ≡ false = fresh.unused in cc

  pub agree-named : (id n : ℕ) → get w id ≡ None → id ≢ 0 → IsFresh given n → NamesAgree (named w id n) (named d n n) (set.insert given n)
  agree-named id n free positive fresh = record {
    live = λ i x e. elim (found-insert w id (new_name n) i x e) [
      | inl p ↦ subst (λ y. get (named d n n) y.number ≡ Some y) p.1 (get-insert_here d n (new_name n))
      | inr p ↦ get-insert_other d n (new_name n) x.number (not_fresh n x.number x fresh (a.live i x p.1)) ∙ a.live i x p.1
    ];
    used = λ q x e. elim (found-insert d n (new_name n) q x e) [
      | inl p ↦ (id, get-insert_here w id (new_name n) ∙ ap Some p.1)
      | inr p ↦ let there = a.used q x p.1 in (there.0, get-insert_other w id (new_name n) there.0 (λ is. let none : get w there.0 ≡ None = ap (get w) is ∙ free in let some : get w there.0 ≡ Some x = there.1 in cc) ∙ there.1)
    ];
    one = λ i j x y e f same. elim (found-insert w id (new_name n) i x e) [
      | inl p ↦ elim (found-insert w id (new_name n) j y f) [
        | inl q ↦ p.0 ∙ sym q.0
        | inr q ↦ absurd (not_fresh n y.number y fresh (a.live j y q.1) (sym same ∙ sym (ap (λ z. z.number) p.1)))
      ]
      | inr p ↦ elim (found-insert w id (new_name n) j y f) [
        | inl q ↦ absurd (not_fresh n x.number x fresh (a.live i x p.1) (same ∙ sym (ap (λ z. z.number) q.1)))
        | inr q ↦ a.one i j x y p.1 q.1 same
      ]
    ];
    own = λ q x e. elim (found-insert d n (new_name n) q x e) [ inl p ↦ sym (ap (λ z. z.number) p.1) ∙ sym p.0 | inr p ↦ a.own q x p.1 ];
    given_once = λ q x e. elim (found-insert d n (new_name n) q x e) [
      | inl p ↦ ap (set.contains (set.insert given n)) p.0 ∙ contains-insert_here given n
      | inr p ↦ contains-insert_kept given n q (a.given_once q x p.1)
    ];
    no_zero = get-insert_other d n (new_name n) 0 (λ is. fresh.positive (sym is)) ∙ a.no_zero;
    no_zero_id = get-insert_other w id (new_name n) 0 (λ is. positive (sym is)) ∙ a.no_zero_id;
  }

  pub agree-removed : (id : ℕ) (x : Name) → get w id ≡ Some x → NamesAgree (remove w id) (remove d x.number) given
  agree-removed id x there = record {
    live = λ i y e. let p = found-remove w id i y e in
        get-remove_other d x.number y.number (λ is. p.0 (a.one i id y x p.1 there is)) ∙ a.live i y p.1;
    used = λ q y e. let p = found-remove d x.number q y e in let was = a.used q y p.1 in
        (was.0, get-remove_other w id was.0 (λ is. p.0 (sym (a.own q y p.1) ∙ ap (λ z. z.number) (same_value x y (sym there ∙ ap (get w) (sym is) ∙ was.1)) ∙ refl)) ∙ was.1);
    one = λ i j y z e f same. a.one i j y z (found-remove w id i y e).1 (found-remove w id j z f).1 same;
    own = λ q y e. a.own q y (found-remove d x.number q y e).1;
    given_once = λ q y e. a.given_once q y (found-remove d x.number q y e).1;
    no_zero = get-remove_other d x.number 0 (λ is. let some : get d 0 ≡ Some x = ap (get d) is ∙ a.live id x there in let none : get d 0 ≡ None = a.no_zero in cc) ∙ a.no_zero;
    no_zero_id = get-remove_other w id 0 (λ is. let some : get w 0 ≡ Some x = ap (get w) is ∙ there in let none : get w 0 ≡ None = a.no_zero_id in cc) ∙ a.no_zero_id;
  }

  abbrev as_object : Name → Name
  as_object x = record { number = x.number; is_object = true }

  not_zero : (id : ℕ) (x : Name) → get w id ≡ Some x → x.number ≢ 0
  not_zero id x there is = let some : get d 0 ≡ Some x = ap (get d) (sym is) ∙ a.live id x there in let none : get d 0 ≡ None = a.no_zero in cc

  pub not_zero_id : (id : ℕ) (x : Name) → get w id ≡ Some x → id ≢ 0
  not_zero_id id x there is = let some : get w 0 ≡ Some x = ap (get w) (sym is) ∙ there in let none : get w 0 ≡ None = a.no_zero_id in cc

  pub agree-made : (id : ℕ) (x : Name) → get w id ≡ Some x → NamesAgree (made_object w id x) (made_object d x.number x) given
  agree-made id x there = record {
    live = λ i z e. elim (found-insert w id (as_object x) i z e) [
      | inl p ↦ subst (λ y. get (made_object d x.number x) y.number ≡ Some y) p.1 (get-insert_here d x.number (as_object x))
      | inr p ↦ get-insert_other d x.number (as_object x) z.number (λ is. p.0 (a.one i id z x p.1 there is)) ∙ a.live i z p.1
    ];
    used = λ q z e. elim (found-insert d x.number (as_object x) q z e) [
      | inl p ↦ (id, get-insert_here w id (as_object x) ∙ ap Some p.1)
      | inr p ↦ let was = a.used q z p.1 in
          (was.0, get-insert_other w id (as_object x) was.0 (λ is. p.0 (sym (a.own q z p.1) ∙ ap (λ y. y.number) (same_value x z (sym there ∙ ap (get w) (sym is) ∙ was.1)))) ∙ was.1)
    ];
    one = λ i j y z e f same. elim (found-insert w id (as_object x) i y e) [
      | inl p ↦ elim (found-insert w id (as_object x) j z f) [
        | inl q ↦ p.0 ∙ sym q.0
        | inr q ↦ absurd (q.0 (a.one j id z x q.1 there (sym same ∙ sym (ap (λ n. n.number) p.1))))
      ]
      | inr p ↦ elim (found-insert w id (as_object x) j z f) [
        | inl q ↦ absurd (p.0 (a.one i id y x p.1 there (same ∙ sym (ap (λ n. n.number) q.1))))
        | inr q ↦ a.one i j y z p.1 q.1 same
      ]
    ];
    own = λ q z e. elim (found-insert d x.number (as_object x) q z e) [ inl p ↦ sym (ap (λ n. n.number) p.1) ∙ sym p.0 | inr p ↦ a.own q z p.1 ];
    given_once = λ q z e. elim (found-insert d x.number (as_object x) q z e) [
      | inl p ↦ ap (set.contains given) p.0 ∙ a.given_once x.number x (a.live id x there)
      | inr p ↦ a.given_once q z p.1
    ];
    no_zero = get-insert_other d x.number (as_object x) 0 (λ is. not_zero id x there (sym is)) ∙ a.no_zero;
    no_zero_id = get-insert_other w id (as_object x) 0 (λ is. not_zero_id id x there (sym is)) ∙ a.no_zero_id;
  }
