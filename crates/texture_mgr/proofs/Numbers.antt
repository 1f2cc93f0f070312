-- That no name comes to have the number 0.
use Rattle.std.proofs.Common.{◌≡◌, ◌≢◌, ℕ, ap, sym, subst, ◌∙◌, inl, inr, None, Result, Ok, Err, OnOk, OnErr}
use Rattle.std.specs.FinMap as map
use Rattle.std.specs.Ordering.{nat_cmp}
use Rattle.gl_base.proofs.Found.{found-insert, found-remove}
use Rattle.gl_plain.specs.declared.objects.Name.{Name}
use Rattle.gl_plain.specs.subjects.Names.{Names}
use Rattle.texture_mgr.specs.Numbered.{AreNumbered}

pub numbered-insert : (names now : Names) (id : ℕ) (name : Name) → AreNumbered names → name.number ≢ 0 → now ≡ map.insert names id name → AreNumbered now
numbered-insert names now id name are positive is key x there = elim (found-insert names id name key x (ap (λ m. map.get m key) (sym is) ∙ there)) [
  | inl p ↦ λ e. positive (ap (λ (n : Name). n.number) p.1 ∙ e)
  | inr p ↦ are key x p.1
]

pub numbered-remove : (names now : Names) (id : ℕ) → AreNumbered names → now ≡ map.remove names id → AreNumbered now
numbered-remove names now id are is key x there = are key x (found-remove names id key x (ap (λ m. map.get m key) (sym is) ∙ there)).1

pub numbered-empty : (names : Names) → names ≡ map.empty → AreNumbered names
numbered-empty names is key x there = absurd (let none : map.get names key ≡ None = ap (λ m. map.get m key) is ∙ map.get-empty nat_cmp key in cc)

-- whether a name was added or not
pub numbered-added : {E : Type 0} (r : Result (Unit {0}) E) (names now : Names) (id : ℕ) (name : Name) → AreNumbered names → name.number ≢ 0 → OnOk r (now ≡ map.insert names id name) → OnErr r (now ≡ names) → AreNumbered now
numbered-added (Ok done) names now id name are positive added kept = numbered-insert names now id name are positive added
numbered-added (Err e) names now id name are positive added kept = subst AreNumbered (sym kept) are
