-- What is in use after a change of a program, and maps whose last change is taken back.
use Rattle.std.proofs.Common.{◌≡◌, ◌≢◌, ℕ, Bool, true, false, if◌then◌else◌, Option, None, Some, refl, sym, ◌∙◌, ap, inl, inr}
use Rattle.std.specs.Ordering.{nat_cmp}
use Rattle.std.specs.Cmp.{nat_cmp_total}
use Rattle.std.specs.FinMap as map
use Rattle.std.specs.FinMap.{same_map, nat_cmp-IsAntisymmetric}
use Rattle.std.proofs.lemmas.Bool.Decides.{eqb_tells}
use Rattle.gl_base.proofs.Found.{test, get-insert_here, get-insert_other, get-remove_here, get-remove_other}
use Rattle.gl_plain.specs.declared.programs.Program.{Program}
use Rattle.gl_plain.specs.declared.programs.Executable.{Executable}
use Rattle.gl_plain.specs.subjects.Programs.{executable_in, changed_at, changed_by, object_name, new_program, create_program_effect}
use Rattle.program_mgr.specs.declared.programs.Programs.{Programs}
use Rattle.program_mgr.specs.Restored.{restored}
use Rattle.program_mgr.specs.Tables.{tables, in_use, or_else, kept_after}

-- Changes that are taken back

module _ {T : Type 0} (m : map.FinMap nat_cmp T) (k : ℕ) (v : T) where
  restored_by : (before : Option T) → map.get m k ≡ before → restored (map.insert m k v) k before ≡ m
  restored_by None has = same_map nat_cmp_total nat_cmp-IsAntisymmetric _ _ (λ q. elim (test q k) [
    | inl p ↦ ap (map.get (map.remove (map.insert m k v) k)) p.0 ∙ get-remove_here (map.insert m k v) k ∙ sym has ∙ sym (ap (map.get m) p.0)
    | inr p ↦ get-remove_other (map.insert m k v) k q p.0 ∙ get-insert_other m k v q p.0
  ])
  restored_by (Some x) has = same_map nat_cmp_total nat_cmp-IsAntisymmetric _ _ (λ q. elim (test q k) [
    | inl p ↦ ap (map.get (map.insert (map.insert m k v) k x)) p.0 ∙ get-insert_here (map.insert m k v) k x ∙ sym has ∙ sym (ap (map.get m) p.0)
    | inr p ↦ get-insert_other (map.insert m k v) k x q p.0 ∙ get-insert_other m k v q p.0
  ])

  pub undone : restored (map.insert m k v) k (map.get m k) ≡ m
  undone = restored_by (map.get m k) refl

  pub removed_again : map.get m k ≡ None → map.remove (map.insert m k v) k ≡ m
  removed_again has = restored_by None has

-- What is in use

module _ (m : map.FinMap nat_cmp Program) (number current : ℕ) where
  pub executable_here : (q : Program) → current ≡ number → executable_in (map.get (map.insert m number q) current) ≡ q.executable
  executable_here q is = ap executable_in (ap (map.get (map.insert m number q)) is ∙ get-insert_here m number q)

  executable_other : (q : Program) → current ≢ number → executable_in (map.get (map.insert m number q) current) ≡ executable_in (map.get m current)
  executable_other q apart = ap executable_in (get-insert_other m number q current apart)

  same_executable : (p q : Program) → map.get m number ≡ Some p → q.executable ≡ p.executable → executable_in (map.get (map.insert m number q) current) ≡ executable_in (map.get m current)
  same_executable p q has same = elim (test current number) [
    | inl e ↦ executable_here q e.0 ∙ same ∙ sym (ap executable_in (ap (map.get m) e.0 ∙ has))
    | inr e ↦ executable_other q e.0
  ]

  pub same_use : (u : Bool) (p q : Program) (kept : Option Executable) → map.get m number ≡ Some p → q.executable ≡ p.executable → in_use u (map.insert m number q) current kept ≡ in_use u m current kept
  same_use false p q kept has same = refl
  same_use true p q kept has same = ap (λ e. or_else e kept) (same_executable p q has same)

  kept_here : (before kept : Option Executable) → current ≡ number → kept_after current number before kept ≡ or_else before kept
  kept_here before kept is = elim (eqb_tells current number) [ inl p ↦ ap (λ b. if b then or_else before kept else kept) p.0 | inr p ↦ absurd (p.1 is) ]

  kept_other : (before kept : Option Executable) → current ≢ number → kept_after current number before kept ≡ kept
  kept_other before kept apart = elim (eqb_tells current number) [ inl p ↦ absurd (apart p.1) | inr p ↦ ap (λ b. if b then or_else before kept else kept) p.0 ]

  -- a program that has no executable any more
  pub failed_use : (u : Bool) (before : Option Program) (q : Program) (kept : Option Executable) → map.get m number ≡ before → q.executable ≡ None
      → in_use u (map.insert m number q) current (kept_after current number (executable_in before) kept) ≡ in_use u m current kept
  failed_use false before q kept has none = refl
  failed_use true before q kept has none = elim (test current number) [
    | inl e ↦ ap (λ x. or_else x (kept_after current number (executable_in before) kept)) (executable_here q e.0 ∙ none) ∙ kept_here (executable_in before) kept e.0
        ∙ sym (ap (λ x. or_else x kept) (ap executable_in (ap (map.get m) e.0 ∙ has)))
    | inr e ↦ ap (λ x. or_else x (kept_after current number (executable_in before) kept)) (executable_other q e.0) ∙ ap (or_else (executable_in (map.get m current))) (kept_other (executable_in before) kept e.0)
  ]

  pub nothing_kept : (kept : Option Executable) → kept_after current number None kept ≡ kept
  nothing_kept kept = elim (test current number) [ inl e ↦ kept_here None kept e.0 | inr e ↦ kept_other None kept e.0 ]

  -- a program that has an executable now
  pub linked_use : (q : Program) (e : Executable) (kept : Option Executable) → q.executable ≡ Some e → current ≡ number → in_use true (map.insert m number q) current kept ≡ Some e
  linked_use q e kept has is = ap (λ x. or_else x kept) (executable_here q is ∙ has)

  pub other_use : (u : Bool) (q : Program) (kept : Option Executable) → current ≢ number → in_use u (map.insert m number q) current kept ≡ in_use u m current kept
  other_use false q kept apart = refl
  other_use true q kept apart = ap (λ x. or_else x kept) (executable_other q apart)

  pub use_without : (u : Bool) (kept : Option Executable) → current ≢ number → in_use u (map.remove m number) current kept ≡ in_use u m current kept
  use_without false kept apart = refl
  use_without true kept apart = ap (λ x. or_else (executable_in x) kept) (get-remove_other m number current apart)

pub nothing_else : (e : Option Executable) → or_else e None ≡ e
nothing_else None = refl
nothing_else (Some e) = refl

-- a program is changed, and its executable is not
pub changed_program : (s : Programs) (number : ℕ) (f : Program → Program) (p q : Program) → map.get s.programs number ≡ Some p → q ≡ f p → (f p).executable ≡ p.executable
    → tables (record s { programs = map.insert s.programs number q }) ≡ record (tables s) { programs = changed_at s.programs number f }
changed_program s number f p q has is same = (λ i. record (tables s) { programs = programs i; installed = installed i }) where
  programs : map.insert s.programs number q ≡ changed_at s.programs number f
  programs = ap (map.insert s.programs number) is ∙ sym (ap (changed_by s.programs number f) has)

  installed : in_use s.is_used (map.insert s.programs number q) s.current s.kept ≡ in_use s.is_used s.programs s.current s.kept
  installed = same_use s.programs number s.current s.is_used p q s.kept has (ap (λ (x : Program). x.executable) is ∙ same)

-- a program is there under a name
pub made_program : (s : Programs) (id number : ℕ) (before : Option Program) → map.get s.programs number ≡ before
    → tables (record s { names = map.insert s.names id (object_name number); ids = map.insert s.ids number id; programs = map.insert s.programs number new_program; kept = kept_after s.current number (executable_in before) s.kept })
    ≡ create_program_effect (tables s) id number
made_program s id number before has = (λ i. record (create_program_effect (tables s) id number) { installed = failed_use s.programs number s.current s.is_used before new_program s.kept has refl i })
