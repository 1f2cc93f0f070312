-- A part of an image that is written, with what is written of its image before.
use Rattle.std.proofs.Common.{◌≡◌, Bool, true, false, List, [], ◌∷◌, Option, None, Some, Result, Ok, Err, is_none, is_some, if◌then◌else◌, refl, sym, ap, ◌∙◌, subst}
use Rattle.std.proofs.lemmas.Result.{err_from_is_err_and}
use Rattle.std.specs.Result.{IsErrAnd}
use Rattle.gl_base.specs.declared.rect.Rect.{Rect}
use Rattle.gl_base.specs.Rects.{union_of}
use Rattle.gl_plain.specs.declared.driver_calls.DriverCall.{DriverCall}
use Rattle.gl_plain.specs.declared.textures.ImagePlace.{ImagePlace}
use Rattle.gl_plain.specs.declared.targets.AnyImage.{AnyImage}
use Rattle.gl_plain.specs.declared.targets.AnyImage.TheVariants as image
use Rattle.gl_plain.specs.image.Covers.{part_first}
use Rattle.gl_plain.specs.subjects.Images.{Covers, no_marks}
use Rattle.gl_plain.specs.subjects.Textures.{TextureTables}
use Rattle.gl_plain.specs.Covers.{zeroings}
use Rattle.gl_plain.specs.State.{DriverState}
use Rattle.gl_driver.specs.History.{History}
use Rattle.gl_driver.specs.Performed.{Made, StoppedIn, MayMake, MakesAll}
use Rattle.gl_driver.specs.declared.stop.DriverStop.{DriverStop}
use Rattle.gl_driver.proofs.Laws.{Served-nothing}

-- where they are a rectangle together, no image has to be whole first
none_first : (place : ImagePlace) (o : Option Rect) → true ≡ is_some o → (if is_none o then image.Level place ∷ [] else []) ≡ []
none_first place (Some r) e = refl
none_first place None e = cc

-- else its own
one_first : (place : ImagePlace) (o : Option Rect) → false ≡ is_some o → (if is_none o then image.Level place ∷ [] else []) ≡ image.Level place ∷ []
one_first place (Some r) e = cc
one_first place None e = refl

module _ (t : TextureTables) (f : Covers) (place : ImagePlace) (rect : Rect) where
  abbrev first_calls : List DriverCall
  first_calls = zeroings t.objects f no_marks (part_first f place rect)

  -- nothing is zeroed
  pub nothing_made : true ≡ is_some (union_of (f place) rect) → {D : Type 0} {history : D → History} {grown : D → D → Type 0} → ((a : D) → grown a a) → (d : D) → MakesAll history grown d d first_calls (Ok tt)
  nothing_made joins {D} {history} {grown} itself d =
      subst (λ (images : List AnyImage). Made history grown d d (zeroings t.objects f no_marks images)) (sym (none_first place (union_of (f place) rect) joins)) record { entries = []; served = Served-nothing itself d; all = refl; going = refl }

  module _ {t1 : TextureTables} {f1 : Covers} (same : t1 ≡ t) (kept : f1 ≡ f) (parted : false ≡ is_some (union_of (f place) rect)) where
    -- the driver calls are those of the image
    image_calls : zeroings t1.objects f1 no_marks (image.Level place ∷ []) ≡ first_calls
    image_calls = (λ i. zeroings (same i).objects (kept i) no_marks (image.Level place ∷ [])) ∙ ap (zeroings t.objects f no_marks) (sym (one_first place (union_of (f place) rect) parted))

    pub may_part : {d : DriverState} → MayMake d first_calls → MayMake d (zeroings t1.objects f1 no_marks (image.Level place ∷ []))
    may_part {d} may = subst (MayMake d) (sym image_calls) may

    module _ {D : Type 0} {history : D → History} {grown : D → D → Type 0} {d d2 : D} where
      pub made_part : Made history grown d d2 (zeroings t1.objects f1 no_marks (image.Level place ∷ [])) → Made history grown d d2 first_calls
      made_part made = subst (Made history grown d d2) image_calls made

      -- the driver stopped there, and `?` passes its stop on
      pub stops_part : {stop : DriverStop} (result : Result (Unit {0}) DriverStop) → IsErrAnd result (λ e. e ≡ stop) → StoppedIn history grown d d2 (zeroings t1.objects f1 no_marks (image.Level place ∷ [])) stop → MakesAll history grown d d2 first_calls result
      stops_part {stop} result passed stopped =
          let p = err_from_is_err_and result passed in
          let at_first : MakesAll history grown d d2 first_calls (Err stop) = subst (λ (calls : List DriverCall). StoppedIn history grown d d2 calls stop) image_calls stopped in
          rw (p.1, p.2) at_first
