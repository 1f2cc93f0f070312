-- The words of a command on the fixed state, as they are kept: they are not refused again, and keeping them again changes nothing.
use Prim.Native.Nat.{suc}
use Rattle.std.proofs.Common.{◌≡◌, inl, inr, ℕ, Bool, true, false, ◌||◌, ◌==◌, ◌≤◌, min, if◌then◌else◌, List, [], ◌∷◌, length, None, Some, refl, sym, ap, ◌∙◌, subst, arith}
use Rattle.std.proofs.lemmas.Bool.Decides.{nat_tests, eqb_tells, leb_tells}
use Rattle.std.proofs.Math.Nat.{min-le_right, min-eq_left, min-eq_right}
use Rattle.gl_base.specs.declared.limits.TheConstants.{SIDE_LIMIT, LAST_STENCIL}
use Rattle.gl_base.specs.Floats.{clamped_pattern}
use Rattle.gl_plain.specs.declared.numbers.TheConstants.{ENABLE, DISABLE, BLEND_COLOR, BLEND_EQUATION_SEPARATE, BLEND_FUNC_SEPARATE, CLEAR_COLOR, CLEAR_DEPTHF, CLEAR_STENCIL, COLOR_MASK, CULL_FACE, DEPTH_FUNC, DEPTH_MASK, DEPTH_RANGEF, FRONT_FACE, HINT, LINE_WIDTH, POLYGON_OFFSET, SAMPLE_COVERAGE, SCISSOR, STENCIL_FUNC_SEPARATE, STENCIL_MASK_SEPARATE, STENCIL_OP_SEPARATE, VIEWPORT}
use Rattle.gl_plain.specs.declared.errors.GlError.TheVariants.{InvalidEnum, InvalidValue}
use Rattle.gl_plain.specs.declared.raster.WordRule.{WordRule}
use Rattle.gl_plain.specs.declared.raster.WordRule.TheVariants.{Flag, Fraction, ViewportSide, Reference}
use Rattle.gl_plain.specs.declared.raster.RasterWords.{RasterWords}
use Rattle.gl_plain.specs.subjects.Raster.{rules_of, is_wrong_enum, is_wrong_value, is_below_zero, any_word, raster_refusal, kept_within, kept_word, kept_by, kept_words, raster_effect, is_driver_raster, IsSetRasterAllowed}
use Rattle.gl_laws.proofs.Refusals.{or_false, none_refused}

-- A word

flag_again : (b : Bool) → kept_word Flag (if b then 0 else 1) ≡ (if b then 0 else 1)
flag_again true = refl
flag_again false = refl

clamped_again : (word : ℕ) → clamped_pattern (clamped_pattern word) ≡ clamped_pattern word
clamped_again word = grind (arith, nat_tests)

-- the lesser of two numbers is one of them
lesser_is : (P : ℕ → Type 0) (a b : ℕ) → P a → P b → P (min a b)
lesser_is P a b p q = elim (leb_tells a b) [ inl below ↦ subst P (sym (min-eq_left below.1)) p | inr above ↦ let less : b ≤ a = omega (arith, above.1) in subst P (sym (min-eq_right less)) q ]

-- a number that is kept up to one that is not below 0 is not below 0
not_below : (most word : ℕ) → is_below_zero most ≡ false → is_below_zero (kept_within most word) ≡ false
not_below most word fine = elim (is_below_zero word) as (λ b. is_below_zero word ≡ b → is_below_zero (if b then 0 else min word most) ≡ false) [
  | true ↦ λ is. refl
  | false ↦ λ is. lesser_is (λ n. is_below_zero n ≡ false) word most is fine
] refl

within : (most word : ℕ) → kept_within most word ≤ most
within most word = elim (is_below_zero word) as (λ b. (if b then 0 else min word most) ≤ most) [ true ↦ omega arith | false ↦ min-le_right word most ]

within_again : (most word : ℕ) → is_below_zero most ≡ false → kept_within most (kept_within most word) ≡ kept_within most word
within_again most word fine =
    let kept : is_below_zero (kept_within most word) ≡ false = not_below most word fine in
    ap (λ (b : Bool). if b then 0 else min (kept_within most word) most) kept ∙ min-eq_left (within most word)

-- a word as it is kept is kept as it is
word_again : (rule : WordRule) (word : ℕ) → kept_word rule (kept_word rule word) ≡ kept_word rule word
word_again Flag word = flag_again (word == 0)
word_again Fraction word = clamped_again word
word_again ViewportSide word = within_again SIDE_LIMIT word refl
word_again Reference word = within_again LAST_STENCIL word refl
word_again rule word = refl

enum_again : (rule : WordRule) (word : ℕ) → is_wrong_enum rule word ≡ false → is_wrong_enum rule (kept_word rule word) ≡ false
enum_again Fraction word h = h
enum_again rule word h = h

value_again : (rule : WordRule) (word : ℕ) → is_wrong_value rule word ≡ false → is_wrong_value rule (kept_word rule word) ≡ false
value_again ViewportSide word h = not_below SIDE_LIMIT word refl
value_again rule word h = h

-- Words

all_again : (rules : List WordRule) (words : List ℕ) → kept_by rules (kept_by rules words) ≡ kept_by rules words
all_again [] words = refl
all_again (rule ∷ rules) [] = λ i. word_again rule 0 i ∷ all_again rules [] i
all_again (rule ∷ rules) (word ∷ words) = λ i. word_again rule word i ∷ all_again rules words i

as_many : (rules : List WordRule) (words : List ℕ) → length (kept_by rules words) ≡ length rules
as_many [] words = refl
as_many (rule ∷ rules) [] = ap suc (as_many rules [])
as_many (rule ∷ rules) (word ∷ words) = ap suc (as_many rules words)

neither : (p q : Bool) → p ≡ false → q ≡ false → (p || q) ≡ false
neither p q h k = λ i. h i || k i

-- a rule that no word breaks is broken by none as it is kept
none_breaks : (breaks : WordRule → ℕ → Bool) → ((rule : WordRule) (word : ℕ) → breaks rule word ≡ false → breaks rule (kept_word rule word) ≡ false) → (rules : List WordRule) (words : List ℕ) → any_word breaks rules words ≡ false
    → any_word breaks rules (kept_by rules words) ≡ false
none_breaks breaks fine [] words h = refl
none_breaks breaks fine (rule ∷ rules) [] h = let p = or_false (breaks rule 0) (any_word breaks rules []) h in neither _ _ (fine rule 0 p.0) (none_breaks breaks fine rules [] p.1)
none_breaks breaks fine (rule ∷ rules) (word ∷ words) h = let p = or_false (breaks rule word) (any_word breaks rules words) h in neither _ _ (fine rule word p.0) (none_breaks breaks fine rules words p.1)

-- neither of two refusals
not_refused : (b c : Bool) → b ≡ false → c ≡ false → (if b then Some InvalidEnum else if c then Some InvalidValue else None) ≡ None
not_refused b c h k = λ i. if h i then Some InvalidEnum else if k i then Some InvalidValue else None

-- a command that is not refused may be given to a driver
pub set_raster_allowed : (number : ℕ) (words : List ℕ) → is_driver_raster number ≡ true → raster_refusal number words ≡ None → IsSetRasterAllowed number (kept_words number words)
set_raster_allowed number words known allowed =
    let fine = none_refused (any_word is_wrong_enum (rules_of number) words) (any_word is_wrong_value (rules_of number) words) InvalidEnum InvalidValue allowed in
    record {
      known = known;
      whole = as_many (rules_of number) words;
      accepted = not_refused _ _ (none_breaks is_wrong_enum enum_again (rules_of number) words fine.0) (none_breaks is_wrong_value value_again (rules_of number) words fine.1);
      kept = all_again (rules_of number) words;
    }

-- A command that makes no call

module _ (r : RasterWords) (number : ℕ) (none : is_driver_raster number ≡ false) where
  -- the number is none that a driver is given
  apart : (k : ℕ) → is_driver_raster k ≡ true → (number == k) ≡ false
  apart k known = elim (eqb_tells number k) [ inl p ↦ let f : is_driver_raster number ≡ true = subst (λ (n : ℕ). is_driver_raster n ≡ true) (sym p.1) known in absurd (cc) | inr p ↦ p.0 ]

  skip : (k : ℕ) → is_driver_raster k ≡ true → (x y : RasterWords) → y ≡ r → (if number == k then x else y) ≡ r
  skip k known x y same = ap (λ (b : Bool). if b then x else y) (apart k known) ∙ same

  -- it leaves the fixed state as it is
  pub raster_stays : (words : List ℕ) → raster_effect r number words ≡ r
  raster_stays words =
      skip ENABLE refl _ _ (skip DISABLE refl _ _ (skip BLEND_COLOR refl _ _ (skip BLEND_EQUATION_SEPARATE refl _ _ (skip BLEND_FUNC_SEPARATE refl _ _
      (skip CLEAR_COLOR refl _ _ (skip CLEAR_DEPTHF refl _ _ (skip CLEAR_STENCIL refl _ _ (skip COLOR_MASK refl _ _ (skip CULL_FACE refl _ _
      (skip DEPTH_FUNC refl _ _ (skip DEPTH_MASK refl _ _ (skip DEPTH_RANGEF refl _ _ (skip FRONT_FACE refl _ _ (skip HINT refl _ _
      (skip LINE_WIDTH refl _ _ (skip POLYGON_OFFSET refl _ _ (skip SAMPLE_COVERAGE refl _ _ (skip SCISSOR refl _ _ (skip STENCIL_FUNC_SEPARATE refl _ _
      (skip STENCIL_MASK_SEPARATE refl _ _ (skip STENCIL_OP_SEPARATE refl _ _ (skip VIEWPORT refl _ _ refl))))))))))))))))))))))
