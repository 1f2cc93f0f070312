-- What is bound is there, or nothing is bound.
use Rattle.std.proofs.Common.{◌≡◌, ◌≢◌, ℕ, Bool, true, false, not, ◌==◌, if◌then◌else◌, refl, sym, ◌∙◌, ap, subst, inl, inr, Option, None, Some, IsSome, is_some}
use Rattle.std.proofs.lemmas.Bool.Decides.{eqb_tells}
use Rattle.std.specs.Ordering.{nat_cmp}
use Rattle.std.specs.FinMap as map
use Rattle.gl_base.proofs.Found.{get-insert_here, get-remove_other}
use Rattle.gl_plain.specs.declared.targets.Renderbuffer.{Renderbuffer}
use Rattle.gl_plain.specs.subjects.Names.{unbound}
use Rattle.strict_driver.specs.KeptTargets.{IsBoundThere}

-- a test that fails, turned round
pub not_false : (b : Bool) → not b ≡ false → b ≡ true
not_false true h = refl
not_false false h = absurd (cc)

module _ (objects : map.FinMap nat_cmp Renderbuffer) where
  -- an object that was made or changed is there
  pub bound_put : (name : ℕ) (x : Renderbuffer) → IsBoundThere (map.insert objects name x) name
  bound_put name x = inr (ap is_some (get-insert_here objects name x))

  left_by_test : (name bound : ℕ) (b : Bool) → (b ≡ true → ⊥) → bound ≢ name → IsBoundThere objects bound → b ≡ false → IsBoundThere (map.remove objects name) (if b then 0 else bound)
  left_by_test name bound true never apart was is = absurd (never refl)
  left_by_test name bound false never apart was is = elim was [
    | inl zero ↦ inl zero
    | inr there ↦ inr (ap is_some (get-remove_other objects name bound apart) ∙ there)
  ]

  -- an object that is gone is not bound, and any other one is as before
  pub bound_left : (name bound : ℕ) → IsBoundThere objects bound → IsBoundThere (map.remove objects name) (unbound name bound)
  bound_left name bound was = elim (eqb_tells bound name) [
    | inl p ↦ inl (ap (λ b. if b then 0 else bound) p.0)
    | inr p ↦ left_by_test name bound (bound == name) (λ yes. let e = p.0 in cc) p.1 was p.0
  ]
