-- Overwrites that are filed by the number of their copy.
use Rattle.std.proofs.Common.{◌≡◌, ◌≢◌, ℕ, Bool, true, false, List, [], ◌∷◌, ◌++◌, refl, sym, ◌∙◌, ap, append_assoc, append-nil, Option, inl, inr, ◌==◌, if◌then◌else◌}
use Rattle.std.proofs.lemmas.Bool.{eq-eqb, ne_eqb}
use Rattle.std.specs.Option.{unwrap_or}
use Rattle.std.specs.List.{AllByRecursion}
use Rattle.std.specs.Ordering.{nat_cmp}
use Rattle.std.specs.FinMap as map
use Rattle.gl_base.proofs.Found.{get-insert_here, get-insert_other, get-remove_other, test}
use Rattle.gl_plain.specs.declared.memory.Patch.{Patch}
use Rattle.gl_plain.specs.declared.memory.Timed.{Timed}
use Rattle.cb_shm.specs.Hostile.{patch_in, at_number}
use Rattle.cb_shm.specs.Waiting.{Waiting, bucket, filed, filed_all}
use Rattle.cb_shm.specs.Whole.{IsPatchInside, IsTimedInside}

one_filed : (waiting : Waiting) (t : Timed) (n : ℕ) → bucket (filed waiting t) n ≡ bucket waiting n ++ at_number n (t ∷ [])
one_filed waiting t n =
    let here = bucket waiting t.copy ++ patch_in t ∷ [] in
    elim (test n t.copy) [
      | inl is ↦ ap (bucket (filed waiting t)) is.0
          ∙ ap (λ (o : Option (List Patch)). unwrap_or o []) (get-insert_here waiting t.copy here)
          ∙ ap (λ (k : ℕ). bucket waiting k ++ patch_in t ∷ []) (sym is.0)
          ∙ ap (λ (b : Bool). bucket waiting n ++ (if b then patch_in t ∷ [] else [])) (sym (eq-eqb t.copy n (sym is.0)))
      | inr is ↦ ap (λ (o : Option (List Patch)). unwrap_or o []) (get-insert_other waiting t.copy here n is.0)
          ∙ sym (append-nil (bucket waiting n))
          ∙ ap (λ (b : Bool). bucket waiting n ++ (if b then patch_in t ∷ [] else [])) (sym (ne_eqb t.copy n (λ e. is.0 (sym e))))
    ]

at_number-first : (b : Bool) (p : Patch) (ps : List Patch) → (if b then p ∷ [] else []) ++ ps ≡ (if b then p ∷ ps else ps)
at_number-first true p ps = refl
at_number-first false p ps = refl

-- those of a number, behind what waited before
all_filed : (ts : List Timed) (waiting : Waiting) (n : ℕ) → bucket (filed_all ts waiting) n ≡ bucket waiting n ++ at_number n ts
all_filed [] waiting n = sym (append-nil (bucket waiting n))
all_filed (t ∷ ts) waiting n =
    all_filed ts (filed waiting t) n
    ∙ ap (λ (ps : List Patch). ps ++ at_number n ts) (one_filed waiting t n)
    ∙ append_assoc (bucket waiting n) (at_number n (t ∷ [])) (at_number n ts)
    ∙ ap (λ (ps : List Patch). bucket waiting n ++ ps) (at_number-first (t.copy == n) (patch_in t) (at_number n ts))

-- at first those of each number wait for it
pub bucket-filed_all : (ts : List Timed) (n : ℕ) → bucket (filed_all ts map.empty) n ≡ at_number n ts
bucket-filed_all ts n =
    let none : Waiting = map.empty in
    all_filed ts none n ∙ ap (λ (o : Option (List Patch)). unwrap_or o [] ++ at_number n ts) (map.get-empty nat_cmp n)

-- what waits for another number stays
pub bucket-remove : (waiting : Waiting) (k n : ℕ) → n ≢ k → bucket (map.remove waiting k) n ≡ bucket waiting n
bucket-remove waiting k n apart = ap (λ (o : Option (List Patch)). unwrap_or o []) (get-remove_other waiting k n apart)

one_inside : (sizes : ℕ → Option ℕ) (b : Bool) (p : Patch) (ps : List Patch) → IsPatchInside sizes p → AllByRecursion (IsPatchInside sizes) ps → AllByRecursion (IsPatchInside sizes) (if b then p ∷ ps else ps)
one_inside sizes true p ps one all = (one, all)
one_inside sizes false p ps one all = all

pub at_number-inside : (sizes : ℕ → Option ℕ) (n : ℕ) (ts : List Timed) → AllByRecursion (IsTimedInside sizes) ts → AllByRecursion (IsPatchInside sizes) (at_number n ts)
at_number-inside sizes n [] all = tt
at_number-inside sizes n (t ∷ ts) all = one_inside sizes (t.copy == n) (patch_in t) (at_number n ts) all.0 (at_number-inside sizes n ts all.1)
