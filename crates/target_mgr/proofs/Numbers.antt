-- That no name and no object comes to have the number 0.
use Rattle.std.proofs.Common.{◌≡◌, ◌≢◌, ℕ, true, false, ap, sym, subst, ◌∙◌, inl, inr, Option, None, Some, IsSome, is_some, Result, Ok, Err, OnOk, OnErr}
use Rattle.std.specs.FinMap as map
use Rattle.std.specs.Ordering.{nat_cmp}
use Rattle.gl_base.proofs.Found.{test, found-insert, found-remove, get-insert_other, get-remove_here, get-remove_other}
use Rattle.gl_plain.specs.declared.objects.Name.{Name}
use Rattle.gl_plain.specs.subjects.Names.{Names}
use Rattle.target_mgr.specs.Numbered.{AreNumbered}

-- nothing is not there
pub not_there : {X : Type 0} (o : Option X) → o ≡ None → IsSome o → ⊥
not_there o none there =
    let is : is_some o ≡ true = there in
    let not : is_some o ≡ false = ap is_some none in
    absurd (cc)

module _ {X : Type 0} (names : Names) (objects : map.FinMap nat_cmp X) (are : AreNumbered {X = X} names objects) where
  named_now : (now : Names) (id : ℕ) (name : Name) → name.number ≢ 0 → now ≡ map.insert names id name → (key : ℕ) (x : Name) → map.get now key ≡ Some x → x.number ≢ 0
  named_now now id name positive is key x there = elim (found-insert names id name key x (ap (λ m. map.get m key) (sym is) ∙ there)) [
    | inl p ↦ λ e. positive (ap (λ (n : Name). n.number) p.1 ∙ e)
    | inr p ↦ are.named key x p.1
  ]

  zero_apart : (number : ℕ) (x : X) → number ≢ 0 → map.get (map.insert objects number x) 0 ≡ None
  zero_apart number x positive = get-insert_other objects number x 0 (λ e. positive (sym e)) ∙ are.zero

  zero_gone : (number : ℕ) → map.get (map.remove objects number) 0 ≡ None
  zero_gone number = elim (test 0 number) [
    | inl p ↦ ap (map.get (map.remove objects number)) p.0 ∙ get-remove_here objects number
    | inr p ↦ get-remove_other objects number 0 p.0 ∙ are.zero
  ]

  -- what is there has another number
  pub is_positive : (number : ℕ) → IsSome (map.get objects number) → number ≢ 0
  is_positive number there e = not_there (map.get objects number) (ap (map.get objects) e ∙ are.zero) there

  -- whether a name was added or not
  pub numbered-added : {E : Type 0} (r : Result (Unit {0}) E) (now : Names) (id : ℕ) (name : Name) → name.number ≢ 0 → OnOk r (now ≡ map.insert names id name) → OnErr r (now ≡ names) → AreNumbered {X = X} now objects
  numbered-added (Ok done) now id name positive added kept = record { named = named_now now id name positive added; zero = are.zero }
  numbered-added (Err e) now id name positive added kept = subst (λ n. AreNumbered {X = X} n objects) (sym kept) are

  pub numbered-made : (now : Names) (m : map.FinMap nat_cmp X) (id : ℕ) (name : Name) (x : X) → name.number ≢ 0 → now ≡ map.insert names id name → m ≡ map.insert objects name.number x → AreNumbered {X = X} now m
  numbered-made now m id name x positive made put = record { named = named_now now id name positive made; zero = ap (λ o. map.get o 0) put ∙ zero_apart name.number x positive }

  pub numbered-removed : (now : Names) (m : map.FinMap nat_cmp X) (id number : ℕ) → now ≡ map.remove names id → m ≡ map.remove objects number → AreNumbered {X = X} now m
  numbered-removed now m id number gone removed = record {
    named = λ key x there. are.named key x (found-remove names id key x (ap (λ n. map.get n key) (sym gone) ∙ there)).1;
    zero = ap (λ o. map.get o 0) removed ∙ zero_gone number;
  }

  pub numbered-replaced : (m : map.FinMap nat_cmp X) (number : ℕ) (x : X) → IsSome (map.get objects number) → m ≡ map.insert objects number x → AreNumbered {X = X} names m
  numbered-replaced m number x there put = record { named = are.named; zero = ap (λ o. map.get o 0) put ∙ zero_apart number x (is_positive number there) }

pub numbered-empty : {X : Type 0} (names : Names) (objects : map.FinMap nat_cmp X) → names ≡ map.empty → objects ≡ map.empty → AreNumbered {X = X} names objects
numbered-empty names objects is are = record {
  named = λ key x there. absurd (let none : map.get names key ≡ None = ap (λ m. map.get m key) is ∙ map.get-empty nat_cmp key in cc);
  zero = ap (λ m. map.get m 0) are ∙ map.get-empty nat_cmp 0;
}
