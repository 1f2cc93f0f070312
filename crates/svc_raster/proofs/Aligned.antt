-- A command that is not refused keeps an alignment.
use Rattle.std.proofs.Common.{◌≡◌, ◌≤◌, ◌∙◌, ℕ, ◌==◌, Bool, true, false, not, if◌then◌else◌, arith, ap, sym, subst, refl, inl, inr, List, [], ◌∷◌, length, None, Some, slice_index}
use Rattle.std.proofs.lemmas.Bool.Decides.{eqb_tells}
use Rattle.gl_base.specs.declared.raster_enums.TheConstants as enums
use Rattle.gl_plain.specs.declared.errors.GlError.TheVariants.{InvalidEnum, InvalidValue}
use Rattle.gl_plain.specs.declared.numbers.TheConstants.{PIXEL_STOREI}
use Rattle.gl_plain.specs.declared.raster.Alignments.{Alignments}
use Rattle.gl_plain.specs.declared.raster.WordRule.{WordRule}
use Rattle.gl_plain.specs.declared.raster.WordRule.TheVariants.{AlignmentName, Alignment}
use Rattle.gl_plain.specs.subjects.Raster.{any_word, is_wrong_enum, is_wrong_value, kept_by, kept_words, rules_of, raster_refusal, alignment_effect}
use Rattle.svc_raster.specs.Aligned.{IsAligned, AreKept}
use Rattle.svc_raster.proofs.Kept.{length_kept}

abbrev rules : List WordRule
rules = AlignmentName ∷ Alignment ∷ []

-- the second word is one of the four alignments
aligned_word : (words : List ℕ) → any_word is_wrong_value rules words ≡ false → (1 ≤ slice_index (kept_by rules words) 1) × (slice_index (kept_by rules words) 1 ≤ 8)
aligned_word [] h = absurd (cc)
aligned_word (x ∷ []) h = absurd (cc)
aligned_word (x ∷ y ∷ words) h = (grind arith, grind arith)

no_wrong_value : (wrong_enum wrong_value : Bool) → (if wrong_enum then Some InvalidEnum else if wrong_value then Some InvalidValue else None) ≡ None → wrong_value ≡ false
no_wrong_value true wrong_value h = absurd (cc)
no_wrong_value false true h = absurd (cc)
no_wrong_value false false h = refl

-- the alignment that the first word names
stored : (is_unpack : Bool) (word : ℕ) (a : Alignments) → IsAligned a → (1 ≤ word) × (word ≤ 8) → IsAligned (if is_unpack then record a { unpack = word } else record a { pack = word })
stored true word a aligned w = (w.0, w.1, aligned.2, aligned.3)
stored false word a aligned w = (aligned.0, aligned.1, w.0, w.1)

of_pixel_store : (words : List ℕ) (a : Alignments) → IsAligned a → raster_refusal PIXEL_STOREI words ≡ None → IsAligned (alignment_effect a PIXEL_STOREI (kept_words PIXEL_STOREI words))
of_pixel_store words a aligned taken =
    let w = aligned_word words (no_wrong_value (any_word is_wrong_enum rules words) (any_word is_wrong_value rules words) taken) in
    stored (slice_index (kept_words PIXEL_STOREI words) 0 == enums.UNPACK_ALIGNMENT.0) (slice_index (kept_words PIXEL_STOREI words) 1) a aligned w

-- the alignments after it are aligned again
pub stays_aligned : (number : ℕ) (words : List ℕ) (a : Alignments) → IsAligned a → raster_refusal number words ≡ None → IsAligned (alignment_effect a number (kept_words number words))
stays_aligned number words a aligned taken = elim (eqb_tells number PIXEL_STOREI) [
  | inl p ↦ subst (λ n. raster_refusal n words ≡ None → IsAligned (alignment_effect a n (kept_words n words))) (sym p.1) (of_pixel_store words a aligned) taken
  | inr p ↦ subst (λ b. IsAligned (if not b then a else if slice_index (kept_words number words) 0 == 0x0CF5 then record a { unpack = slice_index (kept_words number words) 1 } else record a { pack = slice_index (kept_words number words) 1 })) (sym p.0) aligned
]

-- there are as many words as the command has rules
pub length_of : (number : ℕ) (kept : List ℕ) → AreKept number kept → length kept ≡ length (rules_of number)
length_of number kept k = ap length k.kept_are ∙ length_kept (rules_of number) k.words

pub aligned_again : (number : ℕ) (kept : List ℕ) → AreKept number kept → (a : Alignments) → IsAligned a → IsAligned (alignment_effect a number kept)
aligned_again number kept k a aligned = subst (λ ws. IsAligned (alignment_effect a number ws)) (sym k.kept_are) (stays_aligned number k.words a aligned k.taken)
