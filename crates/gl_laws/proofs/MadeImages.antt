-- What is drawn to, as it reads, and images of which all places are made by one record.
use Rattle.std.proofs.Common.{◌≡◌, ℕ, ◌+◌, ◌&&◌, nat_lt, Bool, true, false, if◌then◌else◌, List, [], ◌∷◌, ◌++◌, Option, None, Some, refl, sym, ap, ◌∙◌, subst}
use Rattle.std.specs.Prelude.{map}
use Rattle.std.proofs.lemmas.Bool.{and_parts, ltb-true}
use Rattle.gl_base.specs.declared.rect.Rect.{Rect}
use Rattle.gl_plain.specs.declared.targets.AnyImage.{AnyImage}
use Rattle.gl_plain.specs.declared.targets.AnyImage.TheVariants as any
use Rattle.gl_plain.specs.declared.targets.Target.{Target}
use Rattle.gl_plain.specs.declared.targets.Target.TheVariants as target
use Rattle.gl_plain.specs.declared.textures.ImagePlace.{ImagePlace}
use Rattle.gl_plain.specs.declared.textures.LevelView.{LevelView}
use Rattle.gl_plain.specs.subjects.Textures.{TextureObjects, level_at}
use Rattle.gl_plain.specs.subjects.Targets.{Drawable, Renderbuffers, colour_images, image_list, renderbuffer_at, target_images, view_of_image, surface_view}
use Rattle.gl_plain.specs.subjects.Images.{Pixel, Zero, Made, ScreenImage, Colour, Depth, Stencil, Screen, Contents, Covers, Marks, ImageContents, AttachedContents, DefaultContents, AreWritten, IsColourWritten, IsCovered, IsMarked, IsScreenWritten, IsTargetWritten, IsWritten, all_made, attached_at, colour_contents, image_at, is_defined, level_contents, pixels_in, pixels_of_image, read_contents, read_pixel, target_contents, with_image, with_image_of, with_storage}
use Rattle.gl_plain.specs.subjects.Clears.{cleared, cleared_list, drawn, is_cleared}
use Rattle.gl_plain.specs.Agreement.{ImagesAgree}
use Rattle.gl_laws.proofs.Places.{at_number, at_place}
use Rattle.gl_laws.proofs.Pixels.{image_elsewhere, image_here, read_defined, read_image, read_storage, storage_elsewhere, storage_here}
use Rattle.gl_laws.proofs.Zeroing.{AreStored, HasPixels, stored_append, stored_first, stored_if, stored_rest}

-- What was written reads as it is

-- a screen that was written
pub screen_reads : (screen : Screen) → IsScreenWritten screen → (λ (image : ScreenImage) (x y : ℕ). read_pixel (screen image x y)) ≡ screen
screen_reads screen written = λ i. λ image x y. read_defined (screen image x y) (written image x y) i

pixel_reads : (b : Bool) (p : Pixel) → (b ≡ true → is_defined p ≡ true) → (if b then p else Zero) ≡ (if b then read_pixel p else Zero)
pixel_reads true p h = sym (read_defined p (h refl))
pixel_reads false p h = refl

-- an image that was written whole
pub image_reads : (o : Option LevelView) (px : ℕ → ℕ → Pixel) → IsWritten o px → pixels_in o px ≡ pixels_in o (λ x y. read_pixel (px x y))
image_reads None px all = refl
image_reads (Some v) px all = λ i x y. pixel_reads (nat_lt x v.width && nat_lt y v.height) (px x y) (λ e. let inside = and_parts (nat_lt x v.width) (nat_lt y v.height) e in all x y (ltb-true x v.width inside.0) (ltb-true y v.height inside.1)) i

module _ (t : TextureObjects) (r : Renderbuffers) (k : Contents) where
  pub written_first : (xs more : List AnyImage) → AreWritten t r k (xs ++ more) → AreWritten t r k xs
  written_first [] more all = tt
  written_first (x ∷ xs) more all = (all.0, written_first xs more all.1)

  pub written_rest : (xs more : List AnyImage) → AreWritten t r k (xs ++ more) → AreWritten t r k more
  written_rest [] more all = all
  written_rest (x ∷ xs) more all = written_rest xs more all.1

  pub written_both : (xs more : List AnyImage) → AreWritten t r k xs → AreWritten t r k more → AreWritten t r k (xs ++ more)
  written_both [] more all and_more = and_more
  written_both (x ∷ xs) more all and_more = (all.0, written_both xs more all.1 and_more)

  -- levels alone
  pub levels_first : (places more : List ImagePlace) → AreWritten t r k (map any.Level (places ++ more)) → AreWritten t r k (map any.Level places)
  levels_first [] more all = tt
  levels_first (place ∷ places) more all = (all.0, levels_first places more all.1)

  pub levels_rest : (places more : List ImagePlace) → AreWritten t r k (map any.Level (places ++ more)) → AreWritten t r k (map any.Level more)
  levels_rest [] more all = all
  levels_rest (place ∷ places) more all = levels_rest places more all.1

  pub level_reads : (place : ImagePlace) → IsWritten (level_at t place) (k.images place) → level_contents t k place ≡ level_contents t (read_contents k) place
  level_reads place all = λ i. record { view = level_at t place; pixel = image_reads (level_at t place) (k.images place) all i }

  pub levels_read : (places : List ImagePlace) → AreWritten t r k (map any.Level places) → map (level_contents t k) places ≡ map (level_contents t (read_contents k)) places
  levels_read [] all = refl
  levels_read (place ∷ places) all = λ i. level_reads place all.0 i ∷ levels_read places all.1 i

  pub any_reads : (x : AnyImage) → IsWritten (view_of_image t r x) (pixels_of_image k x) → image_at t r k x ≡ image_at t r (read_contents k) x
  any_reads (any.Level place) all = λ i. record { view = level_at t place; pixel = image_reads (level_at t place) (k.images place) all i }
  any_reads (any.Renderbuffer number) all = λ i. record { view = renderbuffer_at r number; pixel = image_reads (renderbuffer_at r number) (k.renderbuffers number) all i }

module _ (b : Drawable) (k : Contents) where
  attached_reads : (x : Option AnyImage) → AreWritten b.textures b.renderbuffers k (image_list x) → attached_at b k x ≡ attached_at b (read_contents k) x
  attached_reads None all = refl
  attached_reads (Some x) all = ap (λ (image : ImageContents). Some image) (any_reads b.textures b.renderbuffers k x all.0)

  -- what is drawn to
  pub target_reads : (to : Target) → IsTargetWritten b k to → target_contents b k to ≡ target_contents b (read_contents k) to
  target_reads target.Default written = ap (λ (screen : Screen). DefaultContents screen) (sym (screen_reads k.screen written))
  target_reads (target.Bound colour depth stencil) all =
      let front = written_first b.textures b.renderbuffers k (image_list colour ++ image_list depth) (image_list stencil) all in
      λ i. AttachedContents
      (attached_reads colour (written_first b.textures b.renderbuffers k (image_list colour) (image_list depth) front) i)
      (attached_reads depth (written_rest b.textures b.renderbuffers k (image_list colour) (image_list depth) front) i)
      (attached_reads stencil (written_rest b.textures b.renderbuffers k (image_list colour ++ image_list depth) (image_list stencil) all) i)

  -- the colours that are read from
  pub colours_read : (to : Target) → IsColourWritten b k to → colour_contents b k to ≡ colour_contents b (read_contents k) to
  colours_read target.Default written = λ i. Some (record { view = Some (surface_view b.surface); pixel = image_reads (Some (surface_view b.surface)) (k.screen Colour) (λ x y xw yh. written Colour x y) i })
  colours_read (target.Bound colour depth stencil) all = attached_reads colour all

  -- they were written where their image was, and the default framebuffer
  pub colour_is_written : (to : Target) → IsScreenWritten k.screen → AreWritten b.textures b.renderbuffers k (colour_images to) → IsColourWritten b k to
  colour_is_written target.Default screen all = screen
  colour_is_written (target.Bound colour depth stencil) screen all = all

  -- the images of what is drawn to were written, and so was the default framebuffer
  pub target_is_written : (to : Target) → IsScreenWritten k.screen → AreWritten b.textures b.renderbuffers k (target_images to) → IsTargetWritten b k to
  target_is_written target.Default screen all = screen
  target_is_written (target.Bound colour depth stencil) screen all = all

-- Images that are made

module _ (n : ℕ) where
  abbrev made_pixels : ℕ → ℕ → Pixel
  made_pixels x y = Made n

  -- they read as they are
  pub read_made : (k : Contents) (xs : List AnyImage) → read_contents (all_made n k xs) ≡ all_made n (read_contents k) xs
  read_made k [] = refl
  read_made k (any.Level place ∷ xs) = read_made (with_image k place made_pixels) xs ∙ ap (λ (g : Contents). all_made n g xs) (read_image k place made_pixels)
  read_made k (any.Renderbuffer number ∷ xs) = read_made (with_storage k number made_pixels) xs ∙ ap (λ (g : Contents). all_made n g xs) (read_storage k number made_pixels)

  made_covered : (o : Option LevelView) (r : Rect) (px : ℕ → ℕ → Pixel) → IsCovered o r px → IsWritten o px → IsCovered o r made_pixels
  made_covered None r px c all = c
  made_covered (Some v) r px c all = record { inside = c.inside; exact = λ x y xw yh. sym (all x y xw yh) ∙ c.exact x y xw yh }

  made_marked : (o : Option LevelView) (mark : Bool) (px : ℕ → ℕ → Pixel) → HasPixels o → IsMarked o mark px → IsWritten o px → IsMarked o mark made_pixels
  made_marked None mark px there h all = h
  made_marked (Some v) mark px there h all = λ x y. sym (all 0 0 there.0 there.1) ∙ h 0 0

  made_written : (o : Option LevelView) → IsWritten o made_pixels
  made_written None = tt
  made_written (Some v) = λ x y xw yh. refl

  module _ (t : TextureObjects) (r : Renderbuffers) where
    -- what was written is still written
    still_written : (k : Contents) (x other : AnyImage) → IsWritten (view_of_image t r other) (pixels_of_image k other) → IsWritten (view_of_image t r other) (pixels_of_image (with_image_of k x made_pixels) other)
    still_written k (any.Level place) (any.Level other) all = at_place (λ (i : ImagePlace). IsWritten (level_at t i) (k.images i) → IsWritten (level_at t i) ((with_image k place made_pixels).images i)) place other
        (λ written. subst (IsWritten (level_at t place)) (sym (image_here k place made_pixels)) (made_written (level_at t place)))
        (λ e written. subst (IsWritten (level_at t other)) (sym (image_elsewhere k place made_pixels other e)) written) all
    still_written k (any.Level place) (any.Renderbuffer other) all = all
    still_written k (any.Renderbuffer number) (any.Level other) all = all
    still_written k (any.Renderbuffer number) (any.Renderbuffer other) all = at_number (λ (i : ℕ). IsWritten (renderbuffer_at r i) (k.renderbuffers i) → IsWritten (renderbuffer_at r i) ((with_storage k number made_pixels).renderbuffers i)) number other
        (λ written. subst (IsWritten (renderbuffer_at r number)) (sym (storage_here k number made_pixels)) (made_written (renderbuffer_at r number)))
        (λ e written. subst (IsWritten (renderbuffer_at r other)) (sym (storage_elsewhere k number made_pixels other e)) written) all

    still_all : (k : Contents) (x : AnyImage) (xs : List AnyImage) → AreWritten t r k xs → AreWritten t r (with_image_of k x made_pixels) xs
    still_all k x [] all = tt
    still_all k x (other ∷ xs) all = (still_written k x other all.0, still_all k x xs all.1)

    module _ (f : Covers) (m : Marks) where
      agree_one : (k : Contents) (x : AnyImage) → AreStored r (x ∷ []) → ImagesAgree t r f m k → IsWritten (view_of_image t r x) (pixels_of_image k x) → ImagesAgree t r f m (with_image_of k x made_pixels)
      agree_one k (any.Level place) there agree all = record {
        covers = λ other. at_place (λ (i : ImagePlace). IsCovered (level_at t i) (f i) ((with_image k place made_pixels).images i)) place other
            (subst (IsCovered (level_at t place) (f place)) (sym (image_here k place made_pixels)) (made_covered (level_at t place) (f place) (k.images place) (agree.covers place) all))
            (λ e. subst (IsCovered (level_at t other) (f other)) (sym (image_elsewhere k place made_pixels other e)) (agree.covers other));
        marks = agree.marks;
        screen = agree.screen;
      }
      agree_one k (any.Renderbuffer number) there agree all = record {
        covers = agree.covers;
        marks = λ other. at_number (λ (i : ℕ). IsMarked (renderbuffer_at r i) (m i) ((with_storage k number made_pixels).renderbuffers i)) number other
            (subst (IsMarked (renderbuffer_at r number) (m number)) (sym (storage_here k number made_pixels)) (made_marked (renderbuffer_at r number) (m number) (k.renderbuffers number) there.0 (agree.marks number) all))
            (λ e. subst (IsMarked (renderbuffer_at r other) (m other)) (sym (storage_elsewhere k number made_pixels other e)) (agree.marks other));
        screen = agree.screen;
      }

      -- images that were written whole stay so
      pub agree_made : (k : Contents) (xs : List AnyImage) → AreStored r xs → ImagesAgree t r f m k → AreWritten t r k xs → ImagesAgree t r f m (all_made n k xs)
      agree_made k [] there agree all = agree
      agree_made k (x ∷ xs) there agree all = agree_made (with_image_of k x made_pixels) xs there.1 (agree_one k x (there.0, tt) agree all.0) (still_all k x xs all.1)

-- Clears and draws

-- what a Clear leaves of a pixel
read_cleared : (b : Bool) (n : ℕ) (p : Pixel) → read_pixel (if b then Made n else p) ≡ (if b then Made n else read_pixel p)
read_cleared true n p = refl
read_cleared false n p = refl

defined_cleared : (b : Bool) (n : ℕ) (p : Pixel) → is_defined p ≡ true → is_defined (if b then Made n else p) ≡ true
defined_cleared true n p h = refl
defined_cleared false n p h = h

module _ (mask : ℕ) where
  abbrev cleared_images : Option AnyImage → Option AnyImage → Option AnyImage → List AnyImage
  cleared_images colour depth stencil = cleared_list mask Colour colour ++ cleared_list mask Depth depth ++ cleared_list mask Stencil stencil

  -- a Clear of what is read leaves what is read of what it leaves
  pub clear_reads : (to : Target) (k : Contents) → read_contents (cleared mask to k) ≡ cleared mask to (read_contents k)
  clear_reads target.Default k = λ i. record (cleared mask target.Default (read_contents k)) { screen = λ image x y. read_cleared (is_cleared mask image) k.records (k.screen image x y) i }
  clear_reads (target.Bound colour depth stencil) k = λ i. record (read_made k.records k (cleared_images colour depth stencil) i) { records = (read_made k.records k (cleared_images colour depth stencil) i).records + 1 }

-- so does a draw
pub draw_reads : (to : Target) (k : Contents) → read_contents (drawn to k) ≡ drawn to (read_contents k)
draw_reads target.Default k = refl
draw_reads (target.Bound colour depth stencil) k = λ i. record (read_made k.records k (target_images (target.Bound colour depth stencil)) i) { records = (read_made k.records k (target_images (target.Bound colour depth stencil)) i).records + 1 }

-- what is cleared is there, as what is drawn to is
module _ (r : Renderbuffers) where
  cleared_stored : (mask : ℕ) (colour depth stencil : Option AnyImage) → AreStored r (image_list colour ++ image_list depth ++ image_list stencil) → AreStored r (cleared_images mask colour depth stencil)
  cleared_stored mask colour depth stencil h =
      let front = stored_first r (image_list colour ++ image_list depth) (image_list stencil) h in
      stored_append r (cleared_list mask Colour colour ++ cleared_list mask Depth depth) (cleared_list mask Stencil stencil)
      (stored_append r (cleared_list mask Colour colour) (cleared_list mask Depth depth)
      (stored_if r (is_cleared mask Colour) (image_list colour) (stored_first r (image_list colour) (image_list depth) front))
      (stored_if r (is_cleared mask Depth) (image_list depth) (stored_rest r (image_list colour) (image_list depth) front)))
      (stored_if r (is_cleared mask Stencil) (image_list stencil) (stored_rest r (image_list colour ++ image_list depth) (image_list stencil) h))

module _ (t : TextureObjects) (r : Renderbuffers) (f : Covers) (m : Marks) (k : Contents) (agree : ImagesAgree t r f m k) where
  part_written : (b : Bool) (xs : List AnyImage) → AreWritten t r k xs → AreWritten t r k (if b then xs else [])
  part_written true xs all = all
  part_written false xs all = tt

  cleared_written : (mask : ℕ) (colour depth stencil : Option AnyImage) → AreWritten t r k (image_list colour ++ image_list depth ++ image_list stencil) → AreWritten t r k (cleared_images mask colour depth stencil)
  cleared_written mask colour depth stencil all =
      let front = written_first t r k (image_list colour ++ image_list depth) (image_list stencil) all in
      written_both t r k (cleared_list mask Colour colour ++ cleared_list mask Depth depth) (cleared_list mask Stencil stencil)
      (written_both t r k (cleared_list mask Colour colour) (cleared_list mask Depth depth)
      (part_written (is_cleared mask Colour) (image_list colour) (written_first t r k (image_list colour) (image_list depth) front))
      (part_written (is_cleared mask Depth) (image_list depth) (written_rest t r k (image_list colour) (image_list depth) front)))
      (part_written (is_cleared mask Stencil) (image_list stencil) (written_rest t r k (image_list colour ++ image_list depth) (image_list stencil) all))

  -- what is cleared or drawn to was written, and is written again
  pub agree_cleared : (mask : ℕ) (to : Target) → AreStored r (target_images to) → AreWritten t r k (target_images to) → ImagesAgree t r f m (cleared mask to k)
  agree_cleared mask target.Default there all = record { covers = agree.covers; marks = agree.marks; screen = λ image x y. defined_cleared (is_cleared mask image) k.records (k.screen image x y) (agree.screen image x y) }
  agree_cleared mask (target.Bound colour depth stencil) there all =
      let made = agree_made k.records t r f m k (cleared_images mask colour depth stencil) (cleared_stored r mask colour depth stencil there) agree (cleared_written mask colour depth stencil all) in
      record { covers = made.covers; marks = made.marks; screen = made.screen }

  pub agree_drawn : (to : Target) → AreStored r (target_images to) → AreWritten t r k (target_images to) → ImagesAgree t r f m (drawn to k)
  agree_drawn target.Default there all = record { covers = agree.covers; marks = agree.marks; screen = λ image x y. refl }
  agree_drawn (target.Bound colour depth stencil) there all =
      let made = agree_made k.records t r f m k (target_images (target.Bound colour depth stencil)) there agree all in
      record { covers = made.covers; marks = made.marks; screen = made.screen }
