-- What a change of the pixels of one image of a texture or of a renderbuffer leaves, and what its zeroings do.
use Rattle.std.proofs.Common.{◌≡◌, ◌<◌, ℕ, ◌==◌, Bool, true, false, not, ◌&&◌, ◌||◌, if◌then◌else◌, List, [], ◌∷◌, refl, sym, ap, ◌∙◌, subst}
use Rattle.std.proofs.Math.Bool.{not-or_self}
use Rattle.std.proofs.lemmas.Bool.{and_parts, eqb-true, or_left, or_right}
use Rattle.gl_base.specs.declared.rect.Rect.{Rect}
use Rattle.gl_base.specs.Rects.{has, rest_of, in_any, Disjoint}
use Rattle.gl_base.proofs.Rest.{rest_is, rest_apart, rest_inside}
use Rattle.gl_plain.specs.declared.calls.Payload.{Payload}
use Rattle.gl_plain.specs.declared.calls.Payload.TheVariants.{Absent, Here}
use Rattle.gl_plain.specs.declared.textures.ImagePlace.{ImagePlace}
use Rattle.gl_plain.specs.declared.textures.LevelView.{LevelView}
use Rattle.gl_plain.specs.subjects.Images.{Pixel, Undefined, Zero, Bytes, Made, Contents, IsCover, is_defined, is_place, new_pixels, read_contents, read_pixel, with_image, with_pixels, with_storage}
use Rattle.gl_laws.proofs.Places.{place_is, same_number, same_place}

-- A pixel

pub undefined_of : (v : Pixel) → is_defined v ≡ false → v ≡ Undefined
undefined_of Undefined h = refl
undefined_of Zero h = absurd (cc)
undefined_of (Bytes bytes) h = absurd (cc)
undefined_of (Made k) h = absurd (cc)

-- what was written reads as it is
pub read_defined : (v : Pixel) → is_defined v ≡ true → read_pixel v ≡ v
read_defined Undefined h = absurd (cc)
read_defined Zero h = refl
read_defined (Bytes bytes) h = refl
read_defined (Made k) h = refl

-- what is read was written
pub defined_read : (v : Pixel) → is_defined (read_pixel v) ≡ true
defined_read Undefined = refl
defined_read Zero = refl
defined_read (Bytes bytes) = refl
defined_read (Made k) = refl

-- One image with other pixels

read_by : (b : Bool) (v old : Pixel) → read_pixel (if b then v else old) ≡ (if b then read_pixel v else read_pixel old)
read_by true v old = refl
read_by false v old = refl

defined_by : (b : Bool) (v old : Pixel) → is_defined v ≡ true → is_defined (if b then v else old) ≡ (b || is_defined old)
defined_by true v old h = h
defined_by false v old h = refl

module _ (k : Contents) (place : ImagePlace) (new : ℕ → ℕ → Pixel) where
  pub image_here : (with_image k place new).images place ≡ new
  image_here = λ j x y. (ap (λ (b : Bool). if b then new x y else k.images place x y) (same_place place)) j

  pub image_elsewhere : (other : ImagePlace) → is_place place other ≡ false → (with_image k place new).images other ≡ k.images other
  image_elsewhere other e = λ j x y. (ap (λ (b : Bool). if b then new x y else k.images other x y) e) j

  -- a new image reads as its pixels do
  pub read_image : read_contents (with_image k place new) ≡ with_image (read_contents k) place (λ x y. read_pixel (new x y))
  read_image = λ j. record (read_contents k) { images = λ i x y. read_by (is_place place i) (new x y) (k.images i x y) j }

module _ (k : Contents) (place : ImagePlace) (r : Rect) (new : ℕ → ℕ → Pixel) where
  pub pixel_here : (x y : ℕ) → (with_pixels k place r new).images place x y ≡ (if has r x y then new x y else k.images place x y)
  pixel_here x y = ap (λ (b : Bool). if b && has r x y then new x y else k.images place x y) (same_place place)

  pub pixels_elsewhere : (other : ImagePlace) → is_place place other ≡ false → (with_pixels k place r new).images other ≡ k.images other
  pixels_elsewhere other e = λ j x y. (ap (λ (b : Bool). if b && has r x y then new x y else k.images other x y) e) j

  -- new pixels read in their rectangle
  pub read_pixels : read_contents (with_pixels k place r new) ≡ with_pixels (read_contents k) place r (λ x y. read_pixel (new x y))
  read_pixels = λ j. record (read_contents k) { images = λ i x y. read_by (is_place place i && has r x y) (new x y) (k.images i x y) j }

  module _ (all : (x y : ℕ) → is_defined (new x y) ≡ true) where
    -- those that were all written read as they are
    pub read_written : read_contents (with_pixels k place r new) ≡ with_pixels (read_contents k) place r new
    read_written = read_pixels ∙ (λ j. with_pixels (read_contents k) place r (λ x y. read_defined (new x y) (all x y) j))

    -- and what was written is what was before, and their rectangle
    pub defined_here : (x y : ℕ) → is_defined ((with_pixels k place r new).images place x y) ≡ (has r x y || is_defined (k.images place x y))
    defined_here x y = ap is_defined (pixel_here x y) ∙ defined_by (has r x y) (new x y) (k.images place x y) (all x y)

module _ (k : Contents) (number : ℕ) (new : ℕ → ℕ → Pixel) where
  pub storage_here : (with_storage k number new).renderbuffers number ≡ new
  storage_here = λ j x y. (ap (λ (b : Bool). if b then new x y else k.renderbuffers number x y) (same_number number)) j

  pub storage_elsewhere : (other : ℕ) → (number == other) ≡ false → (with_storage k number new).renderbuffers other ≡ k.renderbuffers other
  storage_elsewhere other e = λ j x y. (ap (λ (b : Bool). if b then new x y else k.renderbuffers other x y) e) j

  -- new storage reads as its pixels do
  pub read_storage : read_contents (with_storage k number new) ≡ with_storage (read_contents k) number (λ x y. read_pixel (new x y))
  read_storage = λ j. record (read_contents k) { renderbuffers = λ n x y. read_by (number == n) (new x y) (k.renderbuffers n x y) j }

-- an image without data, never written, reads as zero
pub read_new : (payload : Payload) (v : LevelView) (x y : ℕ) → read_pixel (new_pixels Undefined payload v x y) ≡ new_pixels Zero payload v x y
read_new Absent v x y = refl
read_new (Here bytes) v x y = refl

-- Zeroed rectangles of one image

or_swap : (p q v : Bool) → (q || (p || v)) ≡ ((p || q) || v)
or_swap true true v = refl
or_swap true false v = refl
or_swap false true v = refl
or_swap false false v = refl

-- a rectangle becomes zero
abbrev pub zeroed_rect : Contents → ImagePlace → Rect → Contents
zeroed_rect k place r = with_pixels k place r (λ x y. Zero)

-- rectangles do, one after the other
abbrev pub zeroed_rects : Contents → ImagePlace → List Rect → Contents
zeroed_rects k place [] = k
zeroed_rects k place (r ∷ rs) = zeroed_rects (zeroed_rect k place r) place rs

-- no place of these rectangles was written
abbrev pub AllUndefined : Contents → ImagePlace → List Rect → Type 0
AllUndefined k place rs = (x y : ℕ) → in_any rs x y ≡ true → k.images place x y ≡ Undefined

zero_by : (b : Bool) (v : Pixel) → (b ≡ true → v ≡ Undefined) → read_pixel (if b then Zero else v) ≡ read_pixel v
zero_by true v h = sym (ap read_pixel (h refl))
zero_by false v h = refl

read_one : (k : Contents) (place : ImagePlace) (r : Rect) → ((x y : ℕ) → has r x y ≡ true → k.images place x y ≡ Undefined) → read_contents (zeroed_rect k place r) ≡ read_contents k
read_one k place r h = λ j. record (read_contents k) {
  images = λ i x y. zero_by (is_place place i && has r x y) (k.images i x y)
      (λ b. subst (λ (i : ImagePlace). k.images i x y ≡ Undefined) (sym (place_is place i (and_parts (is_place place i) (has r x y) b).0)) (h x y (and_parts (is_place place i) (has r x y) b).1)) j;
}

still_by : (a b : Bool) (v : Pixel) → (a && b) ≡ false → b ≡ true → v ≡ Undefined → (if a then Zero else v) ≡ Undefined
still_by true true v e h u = absurd (cc)
still_by true false v e h u = absurd (cc)
still_by false b v e h u = u

-- what is left undefined after one zeroing
pub still : (k : Contents) (place : ImagePlace) (r : Rect) (rs : List Rect) → ((x y : ℕ) → (has r x y && in_any rs x y) ≡ false) → AllUndefined k place (r ∷ rs) → AllUndefined (zeroed_rect k place r) place rs
still k place r rs apart h x y b = pixel_here k place r (λ x y. Zero) x y ∙ still_by (has r x y) (in_any rs x y) (k.images place x y) (apart x y) b (h x y (or_right (has r x y) (in_any rs x y) b))

-- a place of the first rectangle was not written
pub first_undefined : (k : Contents) (place : ImagePlace) (r : Rect) (rs : List Rect) → AllUndefined k place (r ∷ rs) → (x y : ℕ) → has r x y ≡ true → k.images place x y ≡ Undefined
first_undefined k place r rs h x y b = h x y (or_left (has r x y) (in_any rs x y) b)

-- zeros in unwritten places read as before
pub read_zeroed : (k : Contents) (place : ImagePlace) (rs : List Rect) → Disjoint rs → AllUndefined k place rs → read_contents (zeroed_rects k place rs) ≡ read_contents k
read_zeroed k place [] d h = refl
read_zeroed k place (r ∷ rs) d h = read_zeroed (zeroed_rect k place r) place rs d.1 (still k place r rs d.0 h) ∙ read_one k place r (first_undefined k place r rs h)

-- which places are written after zeroings
defined_zeroed : (k : Contents) (place : ImagePlace) (rs : List Rect) (x y : ℕ) → is_defined ((zeroed_rects k place rs).images place x y) ≡ (in_any rs x y || is_defined (k.images place x y))
defined_zeroed k place [] x y = refl
defined_zeroed k place (r ∷ rs) x y = defined_zeroed (zeroed_rect k place r) place rs x y
    ∙ ap (λ b. in_any rs x y || b) (defined_here k place r (λ x y. Zero) (λ x y. refl) x y) ∙ or_swap (has r x y) (in_any rs x y) (is_defined (k.images place x y))

-- zeroings of one image change no other, nor the default framebuffer
pub zeroed_elsewhere : (k : Contents) (place : ImagePlace) (rs : List Rect) (other : ImagePlace) → is_place place other ≡ false → (zeroed_rects k place rs).images other ≡ k.images other
zeroed_elsewhere k place [] other e = refl
zeroed_elsewhere k place (r ∷ rs) other e = zeroed_elsewhere (zeroed_rect k place r) place rs other e ∙ pixels_elsewhere k place r (λ x y. Zero) other e

pub zeroed_screen : (k : Contents) (place : ImagePlace) (rs : List Rect) → (zeroed_rects k place rs).screen ≡ k.screen
zeroed_screen k place [] = refl
zeroed_screen k place (r ∷ rs) = zeroed_screen (zeroed_rect k place r) place rs

module _ (k : Contents) (place : ImagePlace) (v : LevelView) (r : Rect) (cover : IsCover v r (k.images place)) where
  -- the rest of an image was not written
  pub rest_undefined : AllUndefined k place (rest_of v.width v.height r)
  rest_undefined x y e =
      let i = rest_inside v.width v.height x y r cover.inside e in
      undefined_of (k.images place x y) (cover.exact x y i.0 i.1 ∙ rest_apart v.width v.height x y r cover.inside e)

  -- after its zeroings it is written whole
  pub whole_defined : (x y : ℕ) → x < v.width → y < v.height → is_defined ((zeroed_rects k place (rest_of v.width v.height r)).images place x y) ≡ true
  whole_defined x y xw yh =
      defined_zeroed k place (rest_of v.width v.height r) x y ∙ ap (λ b. b || is_defined (k.images place x y)) ((rest_is v.width v.height r cover.inside).exact x y xw yh)
      ∙ ap (λ b. not (has r x y) || b) (cover.exact x y xw yh) ∙ not-or_self (has r x y)

-- zeroings of one image change no renderbuffer
pub zeroed_storages : (k : Contents) (place : ImagePlace) (rs : List Rect) → (zeroed_rects k place rs).renderbuffers ≡ k.renderbuffers
zeroed_storages k place [] = refl
zeroed_storages k place (r ∷ rs) = zeroed_storages (zeroed_rect k place r) place rs

-- Renderbuffers

-- a renderbuffer becomes zero
abbrev pub zeroed_storage : Contents → ℕ → Contents
zeroed_storage k number = with_storage k number (λ x y. Zero)

-- where nothing of it was written, that reads as before
pub read_zeroed_storage : (k : Contents) (number : ℕ) → ((x y : ℕ) → k.renderbuffers number x y ≡ Undefined) → read_contents (zeroed_storage k number) ≡ read_contents k
read_zeroed_storage k number h = λ j. record (read_contents k) {
  renderbuffers = λ n x y. zero_by (number == n) (k.renderbuffers n x y) (λ b. subst (λ (n : ℕ). k.renderbuffers n x y ≡ Undefined) (eqb-true number n b) (h x y)) j;
}
