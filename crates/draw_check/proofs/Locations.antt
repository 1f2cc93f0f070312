-- The arrays of used locations, as the bits of a mask are taken one by one.
use Rattle.std.proofs.Common.{◌≡◌, ◌∙◌, ◌<◌, ℕ, length, drop, get_or, sym, true, ◌+◌, ◌/◌, ◌==◌, Bool, false, ◌&&◌, ◌||◌, is_none, nat_lt, List, [], ◌∷◌, refl, ap, add-one}
use Rattle.std.specs.Int.{bit_at}
use Rattle.std.proofs.lemmas.Nat.Bits.{bit_at-zero, bit_at-suc}
use Rattle.std.proofs.lemmas.List.{drop_more}
use Rattle.gl_plain.specs.declared.draws.ArrayView.{ArrayView}
use Rattle.gl_plain.specs.subjects.Draws as d

-- no location is used
pub none_fails : (last location : ℕ) (arrays : List ArrayView) → d.any_array_fails 0 last location arrays ≡ false
none_fails last location [] = refl
none_fails last location (a ∷ arrays) = (λ i. first i || none_fails last (location + 1) arrays i) where
  out : Bool
  out = is_none a.spec.object || nat_lt a.bytes (d.place_of a.spec last + d.element_size a.spec)

  unset : (on more : Bool) → ((on && false) && more) ≡ false
  unset true more = refl
  unset false more = refl

  first : d.array_fails 0 last location a ≡ false
  first = ap (λ n. (a.on && (n == 1)) && out) (bit_at-zero location) ∙ unset a.on out

-- one location less
shifted : (used last location : ℕ) (arrays : List ArrayView) → d.any_array_fails used last (location + 1) arrays ≡ d.any_array_fails (used / 2) last location arrays
shifted used last location [] = refl
shifted used last location (a ∷ arrays) = (λ i. first i || shifted used last (location + 1) arrays i) where
  first : d.array_fails used last (location + 1) a ≡ d.array_fails (used / 2) last location a
  first = ap (λ n. (a.on && (n == 1)) && (is_none a.spec.object || nat_lt a.bytes (d.place_of a.spec last + d.element_size a.spec))) (ap (bit_at used) (add-one location) ∙ bit_at-suc used location)

-- the array of the lowest location does not fail
pub passed : (used last i : ℕ) (all : Bool) (arrays : List ArrayView) (none : ArrayView) → i < length arrays → d.array_fails used last 0 (get_or arrays i none) ≡ false
    → d.any_array_fails used last 0 (drop i arrays) ≡ all → d.any_array_fails (used / 2) last 0 (drop (i + 1) arrays) ≡ all
passed used last i all arrays none inside passes is =
    sym (shifted used last 0 (drop (i + 1) arrays)) ∙ ap (λ b. b || d.any_array_fails used last 1 (drop (i + 1) arrays)) (sym passes)
    ∙ ap (d.any_array_fails used last 0) (sym (drop_more arrays i none inside)) ∙ is
