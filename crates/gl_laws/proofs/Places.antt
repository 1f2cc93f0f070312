-- When two places or two numbers are one, and what a written rectangle or a mark that changes leaves of the others.
use Rattle.std.proofs.Common.{◌≡◌, ℕ, ◌==◌, Bool, true, false, if◌then◌else◌, refl, sym, ap, subst, arith}
use Rattle.std.proofs.lemmas.Bool.{eqb-true, eq-eqb}
use Rattle.std.proofs.lemmas.Bool.Decides.{nat_tests}
use Rattle.gl_base.specs.declared.rect.Rect.{Rect}
use Rattle.gl_plain.specs.declared.textures.ImagePlace.{ImagePlace}
use Rattle.gl_plain.specs.subjects.Images.{Covers, Marks, is_place, with_cover, with_mark}

pub place_is : (place other : ImagePlace) → is_place place other ≡ true → other ≡ place
place_is place other h =
    let texture : other.texture ≡ place.texture = grind (arith, nat_tests) in
    let face : other.face.0 ≡ place.face.0 = grind (arith, nat_tests) in
    let level : other.level ≡ place.level = grind (arith, nat_tests) in
    λ i. record { texture = texture i; face = record { 0 = face i }; level = level i }

pub same_place : (place : ImagePlace) → is_place place place ≡ true
same_place place = grind (arith, nat_tests)

-- what holds of an image, and of each other one, holds of all
pub at_place : (P : ImagePlace → Type 0) (place other : ImagePlace) → P place → (is_place place other ≡ false → P other) → P other
at_place P place other here elsewhere = (elim (is_place place other) as (λ (b : Bool). is_place place other ≡ b → P other) [
  | true ↦ λ e. subst P (sym (place_is place other e)) here
  | false ↦ elsewhere
]) refl

pub cover_here : (f : Covers) (place : ImagePlace) (r : Rect) → with_cover f place r place ≡ r
cover_here f place r = ap (λ (b : Bool). if b then r else f place) (same_place place)

pub cover_elsewhere : (f : Covers) (place : ImagePlace) (r : Rect) (other : ImagePlace) → is_place place other ≡ false → with_cover f place r other ≡ f other
cover_elsewhere f place r other e = ap (λ (b : Bool). if b then r else f other) e

-- Renderbuffers, by number

pub same_number : (n : ℕ) → (n == n) ≡ true
same_number n = eq-eqb n n refl

-- what holds of a number, and of each other one, holds of all
pub at_number : (P : ℕ → Type 0) (number other : ℕ) → P number → ((number == other) ≡ false → P other) → P other
at_number P number other here elsewhere = (elim (number == other) as (λ (b : Bool). (number == other) ≡ b → P other) [
  | true ↦ λ e. subst P (eqb-true number other e) here
  | false ↦ elsewhere
]) refl

pub mark_here : (m : Marks) (number : ℕ) (is_written : Bool) → with_mark m number is_written number ≡ is_written
mark_here m number is_written = ap (λ (b : Bool). if b then is_written else m number) (same_number number)

pub mark_elsewhere : (m : Marks) (number : ℕ) (is_written : Bool) (other : ℕ) → (number == other) ≡ false → with_mark m number is_written other ≡ m other
mark_elsewhere m number is_written other e = ap (λ (b : Bool). if b then is_written else m other) e
