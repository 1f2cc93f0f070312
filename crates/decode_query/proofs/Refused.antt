-- The refusal of ReadPixels, by its tests.
use lib.Signed.{lt_z}
use Rattle.std.proofs.Common.{◌≡◌, ℕ, ℤ, pos, negsuc, Bool, true, false, not, ◌||◌, if◌then◌else◌, Option, None, Some, is_none, refl, sym}
use Rattle.gl_plain.specs.declared.errors.GlError.{GlError}
use Rattle.gl_plain.specs.declared.errors.GlError.TheVariants.{InvalidEnum, InvalidValue, InvalidOperation, OutOfMemory, InvalidFramebufferOperation}
use Rattle.gl_plain.specs.declared.image_words.ReadWords.{ReadWords}
use Rattle.gl_plain.specs.Words.{is_negative}
use Rattle.gl_plain.specs.subjects.Targets.{Drawable, is_incomplete, colour_view}
use Rattle.gl_plain.specs.subjects.Copies.{is_any_pixel, is_over_data_limit, is_read_format, read_pixels_refusal}

-- a side that is not below 0
pub not_negative : (z : ℤ) → lt_z z (pos 0) ≡ false → is_negative z ≡ false
not_negative (pos n) h = refl
not_negative (negsuc n) h = let no_side : true ≡ false = h in absurd (cc)

abbrev pub by_tests : Bool → Bool → Bool → Bool → Bool → Bool → Bool → Option GlError
by_tests any column row over incomplete readable none =
    if not any then Some InvalidEnum
    else if column || row then Some InvalidValue
    else if over then Some OutOfMemory
    else if incomplete then Some InvalidFramebufferOperation
    else if not readable || none then Some InvalidOperation else None

module _ (b : Drawable) (pack : ℕ) (r : ReadWords) (any : is_any_pixel r.format r.kind ≡ true) (column : is_negative r.width ≡ false) (row : is_negative r.height ≡ false) (over : false ≡ is_over_data_limit pack r) where
  -- the framebuffer is not complete
  pub refuses_incomplete : true ≡ is_incomplete b → Some InvalidFramebufferOperation ≡ read_pixels_refusal b pack r
  refuses_incomplete incomplete = λ i. by_tests (sym any i) (sym column i) (sym row i) (over i) (incomplete i) (is_read_format r.format r.kind) (is_none (colour_view b))

  module _ (complete : false ≡ is_incomplete b) where
    -- the format is another than can be read
    pub refuses_format : false ≡ is_read_format r.format r.kind → Some InvalidOperation ≡ read_pixels_refusal b pack r
    refuses_format other = λ i. by_tests (sym any i) (sym column i) (sym row i) (over i) (complete i) (other i) (is_none (colour_view b))

    module _ (readable : true ≡ is_read_format r.format r.kind) where
      -- there are no colours
      pub refuses_colourless : true ≡ is_none (colour_view b) → Some InvalidOperation ≡ read_pixels_refusal b pack r
      refuses_colourless none = λ i. by_tests (sym any i) (sym column i) (sym row i) (over i) (complete i) (readable i) (none i)

      -- it is not refused
      pub refuses_nothing : false ≡ is_none (colour_view b) → None ≡ read_pixels_refusal b pack r
      refuses_nothing some = λ i. by_tests (sym any i) (sym column i) (sym row i) (over i) (complete i) (readable i) (some i)
