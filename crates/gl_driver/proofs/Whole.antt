-- Images that are made whole one behind the other.
use Rattle.std.proofs.Common.{◌≡◌, true, List, [], ◌∷◌, ◌++◌, refl, sym, ◌∙◌, ap, subst, append_assoc}
use Rattle.gl_plain.specs.declared.driver_calls.DriverCall.{DriverCall}
use Rattle.gl_plain.specs.declared.targets.AnyImage.{AnyImage}
use Rattle.gl_plain.specs.declared.targets.AnyImage.TheVariants as any
use Rattle.gl_plain.specs.subjects.Images.{Covers, Marks, with_mark}
use Rattle.gl_plain.specs.subjects.Textures.{TextureObjects}
use Rattle.gl_plain.specs.Covers.{zero_calls, zero_storage, unwritten, filled, zeroings, all_filled, all_marked}
use Rattle.gl_driver.specs.History.{History}
use Rattle.gl_driver.specs.Performed.{Underway, Made, StoppedIn, MayMake}
use Rattle.gl_driver.specs.declared.stop.DriverStop.{DriverStop}
use Rattle.gl_driver.proofs.Making.{begins, makes, stops_in, may_make}

module _ (t : TextureObjects) where
  -- the images of two lists are zeroed as those of the first, and then those of the second with what is written then
  pub zeroings-append : (f : Covers) (m : Marks) (xs more : List AnyImage) → zeroings t f m (xs ++ more) ≡ zeroings t f m xs ++ zeroings t (all_filled t f xs) (all_marked m xs) more
  zeroings-append f m [] more = refl
  zeroings-append f m (any.Level place ∷ xs) more =
      ap (λ (calls : List DriverCall). zero_calls place (unwritten t f place) ++ calls) (zeroings-append (filled t f place) m xs more)
      ∙ sym (append_assoc (zero_calls place (unwritten t f place)) (zeroings t (filled t f place) m xs) (zeroings t (all_filled t (filled t f place) xs) (all_marked m xs) more))
  zeroings-append f m (any.Renderbuffer number ∷ xs) more =
      ap (λ (calls : List DriverCall). zero_storage number (m number) ++ calls) (zeroings-append f (with_mark m number true) xs more)
      ∙ sym (append_assoc (zero_storage number (m number)) (zeroings t f (with_mark m number true) xs) (zeroings t (all_filled t f xs) (all_marked (with_mark m number true) xs) more))

  pub all_filled-append : (f : Covers) (xs more : List AnyImage) → all_filled t f (xs ++ more) ≡ all_filled t (all_filled t f xs) more
  all_filled-append f [] more = refl
  all_filled-append f (any.Level place ∷ xs) more = all_filled-append (filled t f place) xs more
  all_filled-append f (any.Renderbuffer number ∷ xs) more = all_filled-append f xs more

pub all_marked-append : (m : Marks) (xs more : List AnyImage) → all_marked m (xs ++ more) ≡ all_marked (all_marked m xs) more
all_marked-append m [] more = refl
all_marked-append m (any.Level place ∷ xs) more = all_marked-append m xs more
all_marked-append m (any.Renderbuffer number ∷ xs) more = all_marked-append (with_mark m number true) xs more

-- some of these images were made whole since, and with those that are left they are all of them
pub record WholeSoFar {D : Type 0} (history : D → History) (grown : D → D → Type 0) (d d2 : D) (t : TextureObjects) (f f2 : Covers) (m m2 : Marks) (xs left : List AnyImage) : Type 0 where
  pub calls : Underway history grown d d2 (zeroings t f m xs) (zeroings t f2 m2 left)
  pub covers : all_filled t f2 left ≡ all_filled t f xs
  pub marks : all_marked m2 left ≡ all_marked m xs

module _ {D : Type 0} {history : D → History} {grown : D → D → Type 0} {t : TextureObjects} {f : Covers} {m : Marks} {xs : List AnyImage} where
  -- none was yet
  pub begins_whole : ((a : D) → grown a a) → (d : D) → WholeSoFar history grown d d t f f m m xs xs
  begins_whole itself d = record { calls = begins itself d (zeroings t f m xs); covers = refl; marks = refl }

  module _ {d d1 : D} {f1 : Covers} {m1 : Marks} (first left : List AnyImage) (w : WholeSoFar history grown d d1 t f f1 m m1 xs (first ++ left)) where
    split : Underway history grown d d1 (zeroings t f m xs) (zeroings t f1 m1 first ++ zeroings t (all_filled t f1 first) (all_marked m1 first) left)
    split = subst (λ (calls : List DriverCall). Underway history grown d d1 (zeroings t f m xs) calls) (zeroings-append t f1 m1 first left) w.calls

    -- the next may be made whole
    pub may_make_whole : MayMake (history d).state (zeroings t f m xs) → MayMake (history d1).state (zeroings t f1 m1 first)
    may_make_whole may = may_make (zeroings t f1 m1 first) (zeroings t (all_filled t f1 first) (all_marked m1 first) left) may split

    -- they were
    pub makes_whole : ((a b c : D) → grown a b → grown b c → grown a c) → {d2 : D} {f2 : Covers} {m2 : Marks} → Made history grown d1 d2 (zeroings t f1 m1 first) → f2 ≡ all_filled t f1 first → m2 ≡ all_marked m1 first
        → WholeSoFar history grown d d2 t f f2 m m2 xs left
    makes_whole further {d2} {f2} {m2} made covers marks =
        subst (λ (g : Covers). WholeSoFar history grown d d2 t f g m m2 xs left) (sym covers) (subst (λ (n : Marks). WholeSoFar history grown d d2 t f (all_filled t f1 first) m n xs left) (sym marks) record {
          calls = makes further (zeroings t f1 m1 first) (zeroings t (all_filled t f1 first) (all_marked m1 first) left) split made;
          covers = sym (all_filled-append t f1 first left) ∙ w.covers;
          marks = sym (all_marked-append m1 first left) ∙ w.marks;
        })

    -- the driver stopped there
    pub stops_in_whole : ((a b c : D) → grown a b → grown b c → grown a c) → {d2 : D} {stop : DriverStop} → StoppedIn history grown d1 d2 (zeroings t f1 m1 first) stop → StoppedIn history grown d d2 (zeroings t f m xs) stop
    stops_in_whole further stopped = stops_in further (zeroings t f1 m1 first) (zeroings t (all_filled t f1 first) (all_marked m1 first) left) split stopped
