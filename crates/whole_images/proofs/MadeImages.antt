-- Images of textures and renderbuffers that are made whole, one list behind the other.
use Rattle.std.proofs.Common.{◌≡◌, List, [], ◌∷◌, ◌++◌, Result, Ok, Err, refl, sym, ap, ◌∙◌, subst}
use Rattle.std.specs.Prelude.{map}
use Rattle.std.proofs.lemmas.Result.{err_from_is_err_and}
use Rattle.std.specs.Result.{IsErrAnd}
use Rattle.gl_plain.specs.declared.driver_calls.DriverCall.{DriverCall}
use Rattle.gl_plain.specs.declared.targets.AnyImage.{AnyImage}
use Rattle.gl_plain.specs.declared.targets.AnyImage.TheVariants as image
use Rattle.gl_plain.specs.declared.targets.Target.{Target}
use Rattle.gl_plain.specs.declared.textures.ImagePlace.{ImagePlace}
use Rattle.gl_plain.specs.subjects.Targets.{colour_images}
use Rattle.gl_plain.specs.subjects.Images.{no_marks}
use Rattle.gl_plain.specs.subjects.Textures.{TextureTables}
use Rattle.gl_plain.specs.Covers.{zeroings, all_filled, all_marked}
use Rattle.gl_driver.specs.History.{History}
use Rattle.gl_driver.specs.Performed.{Made, StoppedIn, MayMake}
use Rattle.gl_driver.specs.declared.stop.DriverStop.{DriverStop}
use Rattle.gl_driver.proofs.Laws.{Served-nothing}
use Rattle.gl_driver.proofs.Making.{made_all}
use Rattle.gl_driver.proofs.Whole.{WholeSoFar, begins_whole, may_make_whole, makes_whole, stops_in_whole}
use Rattle.texture_mgr.specs.declared.textures.Textures.{Textures}
use Rattle.texture_mgr.specs.Tables.{tables, covers}
use Rattle.target_mgr.specs.declared.targets.Targets.{Targets}
use Rattle.target_mgr.specs.Tables.{marks}
use Rattle.whole_images.specs.Whole.{zeroings_of, image_zeroings, MakesWhole, MakesImagesWhole}
use Rattle.whole_images.proofs.MadeWhole.{levels_marked, levels_zeroed}

module _ {D : Type 0} {history : D → History} {grown : D → D → Type 0} where
  -- there is no image
  pub makes_no_image : ((a : D) → grown a a) → (d : D) (x : Textures) (g : Targets) {images : List AnyImage} → images ≡ [] → MakesImagesWhole history grown d d x x g g images (Ok tt)
  makes_no_image itself d x g {images} none = subst (λ (is : List AnyImage). MakesImagesWhole history grown d d x x g g is (Ok tt)) (sym none) record {
    calls = record { entries = []; served = Served-nothing itself d; all = refl; going = refl };
    tables_are = refl;
    covers_are = refl;
    renderbuffers_are = refl;
    framebuffers_are = refl;
    marks_are = refl;
  }

  -- images of textures are made whole as any are
  pub of_levels : {d d2 : D} {x x2 : Textures} (g : Targets) (places : List ImagePlace) (result : Result (Unit {0}) DriverStop) → MakesWhole history grown d d2 x x2 places result → MakesImagesWhole history grown d d2 x x2 g g (map image.Level places) result
  of_levels {d} {d2} {x} {x2} g places (Ok u) made = record {
    calls = subst (Made history grown d d2) (levels_zeroed (tables x).objects (covers x) no_marks (marks g) places) made.calls;
    tables_are = made.tables_are;
    covers_are = made.covers_are;
    renderbuffers_are = refl;
    framebuffers_are = refl;
    marks_are = sym (levels_marked (marks g) places);
  }
  of_levels {d} {d2} {x} {x2} g places (Err stop) made = record {
    calls = subst (λ (calls : List DriverCall). StoppedIn history grown d d2 calls stop) (levels_zeroed (tables x).objects (covers x) no_marks (marks g) places) made.calls;
    tables_are = tt;
    covers_are = tt;
    renderbuffers_are = tt;
    framebuffers_are = tt;
    marks_are = tt;
  }

  -- a stop is passed on
  pub passes : {d d2 : D} {x x2 : Textures} {g g2 : Targets} {images : List AnyImage} {stop : DriverStop} (result : Result (Unit {0}) DriverStop) → IsErrAnd result (λ e. e ≡ stop) → MakesImagesWhole history grown d d2 x x2 g g2 images (Err stop) → MakesImagesWhole history grown d d2 x x2 g g2 images result
  passes result passed stopped = let p = err_from_is_err_and result passed in rw (p.1, p.2) stopped

  -- what colours are read from is made whole, by whatever name it goes
  pub whole_at : {d d2 : D} {x x2 : Textures} {g g2 : Targets} {from to : Target} {result : Result (Unit {0}) DriverStop} → from ≡ to → MakesImagesWhole history grown d d2 x x2 g g2 (colour_images from) result → MakesImagesWhole history grown d d2 x x2 g g2 (colour_images to) result
  whole_at {d} {d2} {x} {x2} {g} {g2} {result = result} same made = subst (λ (t : Target). MakesImagesWhole history grown d d2 x x2 g g2 (colour_images t) result) same made

-- of two lists
module _ {D : Type 0} (history : D → History) (grown : D → D → Type 0) (itself : (a : D) → grown a a) (further : (a b c : D) → grown a b → grown b c → grown a c) where
  append_none : (xs : List AnyImage) → xs ≡ xs ++ []
  append_none [] = refl
  append_none (i ∷ is) = ap (λ (js : List AnyImage). i ∷ js) (append_none is)

  module _ (first left : List AnyImage) (d : D) (x : Textures) (g : Targets) where
    -- none was made whole yet
    at_first : WholeSoFar history grown d d (tables x).objects (covers x) (covers x) (marks g) (marks g) (first ++ left) (first ++ left)
    at_first = begins_whole itself d

    -- those of the first list may be made whole
    pub may_first : MayMake (history d).state (image_zeroings x g (first ++ left)) → MayMake (history d).state (image_zeroings x g first)
    may_first may = may_make_whole first left at_first may

    -- the driver stopped in them
    pub stops_first : {d2 : D} {x2 : Textures} {g2 : Targets} {stop : DriverStop} → MakesImagesWhole history grown d d2 x x2 g g2 first (Err stop) → MakesImagesWhole history grown d d2 x x2 g g2 (first ++ left) (Err stop)
    stops_first stopped = record {
      calls = stops_in_whole first left at_first further stopped.calls;
      tables_are = tt;
      covers_are = tt;
      renderbuffers_are = tt;
      framebuffers_are = tt;
      marks_are = tt;
    }

    module _ {d1 : D} {x1 : Textures} {g1 : Targets} (made : MakesImagesWhole history grown d d1 x x1 g g1 first (Ok tt)) where
      -- they were made whole
      behind_first : WholeSoFar history grown d d1 (tables x).objects (covers x) (covers x1) (marks g) (marks g1) (first ++ left) left
      behind_first = makes_whole first left at_first further made.calls made.covers_are made.marks_are

      same_left : zeroings (tables x).objects (covers x1) (marks g1) left ≡ image_zeroings x1 g1 left
      same_left = ap (λ (t : TextureTables). zeroings t.objects (covers x1) (marks g1) left) (sym made.tables_are)

      at_left : WholeSoFar history grown d d1 (tables x).objects (covers x) (covers x1) (marks g) (marks g1) (first ++ left) (left ++ [])
      at_left = subst (λ (is : List AnyImage). WholeSoFar history grown d d1 (tables x).objects (covers x) (covers x1) (marks g) (marks g1) (first ++ left) is) (append_none left) behind_first

      -- so those of the second may
      pub may_left : MayMake (history d).state (image_zeroings x g (first ++ left)) → MayMake (history d1).state (image_zeroings x1 g1 left)
      may_left may = subst (MayMake (history d1).state) same_left (may_make_whole left [] at_left may)

      -- and what comes of them is what comes of all
      pub joins : {d2 : D} {x2 : Textures} {g2 : Targets} (result : Result (Unit {0}) DriverStop) → MakesImagesWhole history grown d1 d2 x1 x2 g1 g2 left result → MakesImagesWhole history grown d d2 x x2 g g2 (first ++ left) result
      joins {d2} {x2} {g2} (Ok u) last =
          let so_far : WholeSoFar history grown d d2 (tables x).objects (covers x) (covers x2) (marks g) (marks g2) (first ++ left) [] =
          makes_whole left [] at_left further (subst (Made history grown d1 d2) (sym same_left) last.calls)
          (last.covers_are ∙ ap (λ (t : TextureTables). all_filled t.objects (covers x1) left) made.tables_are) last.marks_are in
          record {
            calls = made_all so_far.calls;
            tables_are = last.tables_are ∙ made.tables_are;
            covers_are = so_far.covers;
            renderbuffers_are = last.renderbuffers_are ∙ made.renderbuffers_are;
            framebuffers_are = last.framebuffers_are ∙ made.framebuffers_are;
            marks_are = so_far.marks;
          }
      joins {d2} {x2} {g2} (Err stop) last = record {
        calls = stops_in_whole left [] at_left further (subst (λ (calls : List DriverCall). StoppedIn history grown d1 d2 calls stop) (sym same_left) last.calls);
        tables_are = tt;
        covers_are = tt;
        renderbuffers_are = tt;
        framebuffers_are = tt;
        marks_are = tt;
      }

      -- the same where more is written of the images since
      pub made_both : {d2 : D} → Made history grown d1 d2 (image_zeroings x1 g1 left)
          → Made history grown d d2 (image_zeroings x g (first ++ left)) × (all_filled (tables x).objects (covers x1) left ≡ all_filled (tables x).objects (covers x) (first ++ left)) × (all_marked (marks g1) left ≡ all_marked (marks g) (first ++ left))
      made_both {d2} last =
          let so_far : WholeSoFar history grown d d2 (tables x).objects (covers x) (all_filled (tables x).objects (covers x1) left) (marks g) (all_marked (marks g1) left) (first ++ left) [] =
          makes_whole left [] at_left further (subst (Made history grown d1 d2) (sym same_left) last) refl refl in
          (made_all so_far.calls, so_far.covers, so_far.marks)
