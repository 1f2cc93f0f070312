-- What a uniform that is neither malformed nor refused is given: a kind, and as many bytes as it needs.
use Rattle.std.proofs.Common.{◌≡◌, ℕ, ℤ, Bool, true, false, not, ◌==◌, ◌&&◌, ◌||◌, if◌then◌else◌, List, length, Option, None, Some, refl, sym, subst, arith}
use Rattle.std.proofs.lemmas.Bool.Decides.{nat_tests}
use Rattle.gl_plain.specs.declared.commands.DataWords.{DataWords}
use Rattle.gl_plain.specs.declared.errors.GlError.{GlError}
use Rattle.gl_plain.specs.declared.errors.GlError.TheVariants.{InvalidValue}
use Rattle.gl_plain.specs.declared.programs.Executable.{Executable}
use Rattle.gl_plain.specs.Words.{is_negative}
use Rattle.gl_plain.specs.subjects.Data.{has_just_needed_data, IsData}
use Rattle.gl_plain.specs.subjects.Uniforms.{is_given_kind, is_matrix, uniform_needed, uniform_is_bad, located_refusal, uniform_refusal}

counts : (source count a b needed size : ℕ) → ((((source == 0) && (count == 0) && (a == 0) && (b == 0)) && (needed == 0)) || (((source == 1) || (source == 2)) && (count == needed))) ≡ true
    → (source ≡ 1 → size ≡ count) → (source ≡ 2 → size ≡ count) → (source ≡ 0 → size ≡ 0) → size ≡ needed
counts source count a b needed size h one two none = grind (arith, nat_tests)

both_kept : (b c : Bool) → not (b && c) ≡ false → (b ≡ true) × (c ≡ true)
both_kept true true h = (refl, refl)
both_kept true false h = absurd (cc)
both_kept false c h = absurd (cc)

module _ (kind : ℕ) (count : ℤ) (words : DataWords) (payload : List ℕ) (fair : uniform_is_bad kind count words ≡ false) where
  pub uniform_kind : is_given_kind kind ≡ true
  uniform_kind = (both_kept (is_given_kind kind) (has_just_needed_data words (uniform_needed kind count)) fair).0

  pub uniform_size : IsData words payload → length payload ≡ uniform_needed kind count
  uniform_size given = counts words.source words.count words.a words.b (uniform_needed kind count) (length payload) (both_kept (is_given_kind kind) (has_just_needed_data words (uniform_needed kind count)) fair).1 given.shared given.bucket given.none

untransposed : (negative transpose matrix : Bool) (rest : Option GlError) → (if negative then Some InvalidValue else if transpose && matrix then Some InvalidValue else rest) ≡ None
    → (if negative then Some InvalidValue else if false && matrix then Some InvalidValue else rest) ≡ None
untransposed true transpose matrix rest h = absurd (cc)
untransposed false true true rest h = absurd (cc)
untransposed false true false rest h = h
untransposed false false matrix rest h = h

-- what is taken is so where no matrix is transposed
pub uniform_untransposed : (installed : Option Executable) (location : ℤ) (kind : ℕ) (count : ℤ) (transpose : Bool) (payload : List ℕ) → uniform_refusal installed location kind count transpose payload ≡ None
    → uniform_refusal installed location kind count false payload ≡ None
uniform_untransposed installed location kind count transpose payload h = untransposed (is_negative count) transpose (is_matrix kind) (located_refusal installed location kind count payload) h

-- what is so of two numbers is so of the same two
pub of_same : (P : ℤ → ℤ → Type 0) (location l count n : ℤ) → l ≡ location → n ≡ count → P location count → P l n
of_same P location l count n is few h = subst (λ (x : ℤ). P x n) (sym is) (subst (λ (y : ℤ). P location y) (sym few) h)
