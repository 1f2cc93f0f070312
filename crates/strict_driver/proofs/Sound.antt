-- Answers that are sound are each of its form.
use Rattle.std.proofs.Common.{◌≡◌, ◌∷◌, ℕ, zero, suc, Bool, true, List, [], ◌&&◌, Option, None, Some, IfSome, slice_get, refl}
use Rattle.std.proofs.lemmas.Bool.{and_parts}
use Rattle.std.specs.List.{list_all}
use Rattle.gl_plain.specs.declared.driver_calls.Answer.{Answer}
use Rattle.gl_plain.specs.declared.driver_calls.Answers.{Answers}
use Rattle.gl_plain.specs.CommonLines.{are_sound_answers}
use Rattle.gl_plain.specs.Oracle.{compile_in, link_in, validate_in}
use Rattle.gl_plain.specs.subjects.Links.{is_log, is_sound_link}

-- what holds of all holds of the one at a place, if there is one
each_passes : {X : Type 0} (p : X → Bool) (xs : List X) (k : ℕ) → list_all p xs ≡ true → IfSome (slice_get xs k) (λ x. p x ≡ true)
each_passes p [] k h = tt
each_passes p (x ∷ xs) zero h = (and_parts (p x) (list_all p xs) h).0
each_passes p (x ∷ xs) (suc k) h = each_passes p xs k (and_parts (p x) (list_all p xs) h).1

-- and so of what stands in place of none
or_default : {X : Type 0} (p : Option X → Bool) (o : Option X) → p None ≡ true → IfSome o (λ x. p (Some x) ≡ true) → p o ≡ true
or_default p None none h = none
or_default p (Some x) none h = h

abbrev compile_passes : Option Answer → Bool
compile_passes o = is_log (compile_in o).log

abbrev link_passes : Option Answer → Bool
link_passes o = is_sound_link (link_in o)

abbrev validate_passes : Option Answer → Bool
validate_passes o = is_log (validate_in o).log

module _ (loaded : Answers) (sound : are_sound_answers loaded ≡ true) where
  abbrev all : (Bool → Bool → Bool → Type 0) → Type 0
  all f = f (list_all (λ a. compile_passes (Some a)) loaded.compile) (list_all (λ a. link_passes (Some a)) loaded.link) (list_all (λ a. validate_passes (Some a)) loaded.validate)

  first_two : all (λ x y z. (x && y) ≡ true)
  first_two = (and_parts (list_all (λ a. compile_passes (Some a)) loaded.compile && list_all (λ a. link_passes (Some a)) loaded.link) (list_all (λ a. validate_passes (Some a)) loaded.validate) sound).0

  parts : all (λ x y z. (x ≡ true) × (y ≡ true) × (z ≡ true))
  parts =
      let two = and_parts (list_all (λ a. compile_passes (Some a)) loaded.compile) (list_all (λ a. link_passes (Some a)) loaded.link) first_two in
      (two.0, two.1, (and_parts (list_all (λ a. compile_passes (Some a)) loaded.compile && list_all (λ a. link_passes (Some a)) loaded.link) (list_all (λ a. validate_passes (Some a)) loaded.validate) sound).1)

  pub compile_sound : (k : ℕ) → compile_passes (slice_get loaded.compile k) ≡ true
  compile_sound k = or_default compile_passes (slice_get loaded.compile k) refl (each_passes (λ a. compile_passes (Some a)) loaded.compile k parts.0)

  pub link_sound : (k : ℕ) → link_passes (slice_get loaded.link k) ≡ true
  link_sound k = or_default link_passes (slice_get loaded.link k) refl (each_passes (λ a. link_passes (Some a)) loaded.link k parts.1)

  pub validate_sound : (k : ℕ) → validate_passes (slice_get loaded.validate k) ≡ true
  validate_sound k = or_default validate_passes (slice_get loaded.validate k) refl (each_passes (λ a. validate_passes (Some a)) loaded.validate k parts.2)
