-- The names 1 to n.
use Rattle.std.proofs.Common.{◌≡◌, ◌<◌, ℕ, zero, suc, ◌+◌, false, ◌||◌, refl, ◌∙◌, ap, arith, add-one, inl, inr}
use Rattle.std.specs.Ordering.{nat_cmp, eq_by_cmp}
use Rattle.std.specs.Cmp.{nat_cmp_total}
use Rattle.std.specs.FinSet as set
use Rattle.gl_base.proofs.Found.{test}
use Rattle.gl_plain.specs.subjects.Names.{IsFresh}
use Rattle.strict_driver.specs.Given.{up_to}

above : (n q : ℕ) → n < q → set.contains (up_to n) q ≡ false
above zero q h = set.contains-empty nat_cmp q
above (suc n) q h =
    let apart : eq_by_cmp nat_cmp q (suc n) ≡ false = elim (test q (suc n)) [ inl p ↦ absurd (let is : q ≡ suc n = p.0 in omega arith) | inr p ↦ p.1 ] in
    let below : n < q = omega arith in
    set.contains-insert nat_cmp_total (up_to n) (suc n) q ∙ ap (λ b. b || set.contains (up_to n) q) apart ∙ above n q below

-- the next name was never given
pub next_is_fresh : (n next : ℕ) → next ≡ n + 1 → IsFresh (up_to n) next
next_is_fresh n next is = record { positive = λ zero. absurd (omega arith); unused = above n next (omega arith) }

pub up_to_next : (n : ℕ) → up_to (n + 1) ≡ set.insert (up_to n) (n + 1)
up_to_next n = rw add-one refl
