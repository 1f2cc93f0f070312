-- Where a command makes its driver call, and where none: PixelStorei, a Clear of no image and a draw of nothing make none.
use Rattle.std.proofs.Common.{◌≡◌, ◌≢◌, ◌∙◌, ℕ, ◌==◌, Bool, true, false, not, if◌then◌else◌, List, [], ◌∷◌, Ok, refl, sym, ap, arith}
use Rattle.std.proofs.lemmas.Bool.Decides.{nat_tests}
use Rattle.gl_plain.specs.declared.draws.DrawPlan.{DrawPlan}
use Rattle.gl_plain.specs.declared.driver_calls.DriverCall.{DriverCall}
use Rattle.gl_plain.specs.declared.driver_calls.DriverCall.TheVariants.{Draw}
use Rattle.gl_plain.specs.declared.driver_calls.DrawDriver.TheVariants.{SetRaster, Clear}
use Rattle.gl_plain.specs.subjects.Raster.{is_driver_raster, kept_words}
use Rattle.gl_plain.specs.draw.Calls.{raster_calls, clear_calls, drawing_calls}

pub apart : (n : ℕ) → n ≢ 0 → (n == 0) ≡ false
apart n h = grind (arith, nat_tests)

module _ (mask : ℕ) where
  pub clear_makes : mask ≢ 0 → Draw (Clear mask) ∷ [] ≡ clear_calls mask
  clear_makes h = sym (ap (λ (b : Bool). if b then [] else Draw (Clear mask) ∷ []) (apart mask h))

  pub clear_makes_none : mask ≡ 0 → [] ≡ clear_calls mask
  clear_makes_none h = ap clear_calls (sym h)

module _ (call : ℕ → DriverCall) (plan : DrawPlan) where
  pub drawing_makes : (black : ℕ) → black ≡ plan.black → plan.draw ≡ true → call black ∷ [] ≡ drawing_calls call (Ok plan)
  drawing_makes black is draws = ap (λ (n : ℕ). call n ∷ []) is ∙ sym (ap (λ (b : Bool). if b then call plan.black ∷ [] else []) draws)

  pub drawing_makes_none : plan.draw ≡ false → [] ≡ drawing_calls call (Ok plan)
  drawing_makes_none none = sym (ap (λ (b : Bool). if b then call plan.black ∷ [] else []) none)

module _ (number : ℕ) (words : List ℕ) where
  pub raster_makes : (kept : List ℕ) → kept ≡ kept_words number words → is_driver_raster number ≡ true → Draw (SetRaster number kept) ∷ [] ≡ raster_calls number words
  raster_makes kept is known = ap (λ (w : List ℕ). Draw (SetRaster number w) ∷ []) is ∙ sym (ap (λ (b : Bool). if b then Draw (SetRaster number (kept_words number words)) ∷ [] else []) known)

  pub raster_makes_none : is_driver_raster number ≡ false → [] ≡ raster_calls number words
  raster_makes_none none = sym (ap (λ (b : Bool). if b then Draw (SetRaster number (kept_words number words)) ∷ [] else []) none)

pub turned_false : (b : Bool) → not b ≡ true → b ≡ false
turned_false true h = absurd (cc)
turned_false false h = refl

pub turned_true : (b : Bool) → not b ≡ false → b ≡ true
turned_true true h = refl
turned_true false h = absurd (cc)
