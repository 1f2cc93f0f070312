-- What the zeroings of a command are for: each turns a place that was never written to zero, in an image that the command uses, and an image
-- has few of them.
use Rattle.std.proofs.Common.{◌≡◌, ◌≤◌, ◌<◌, ◌⊎◌, inl, inr, ℕ, ◌+◌, ◌==◌, pos, is_some, Bool, true, false, ◌||◌, if◌then◌else◌, List, [], ◌∷◌, ◌++◌, length, Option, None, Some, Result, Ok, Err, is_none, refl, sym, ap, ◌∙◌, arith, subst}
use Rattle.std.proofs.lemmas.Bool.{or_parts}
use Rattle.std.proofs.lemmas.Bool.Decides.{nat_tests}
use Rattle.std.specs.List.{AllByRecursion}
use Rattle.std.specs.Prelude.{map}
use Rattle.std.specs.FinMap as table
use Rattle.gl_base.specs.declared.rect.Rect.{Rect}
use Rattle.gl_base.specs.Rects.{has, IsIn, is_empty, rest_of, Disjoint, AllInside, union_of}
use Rattle.gl_base.proofs.Rects.{has_it, whole_has}
use Rattle.gl_base.proofs.Unions.{union_none}
use Rattle.gl_base.proofs.Rest.{rest_is, rest_whole}
use Rattle.gl_plain.specs.declared.errors.GlError.{GlError}
use Rattle.gl_plain.specs.declared.errors.GlError.TheVariants.{InvalidEnum, InvalidValue}
use Rattle.gl_plain.specs.declared.commands.Command.{Command}
use Rattle.gl_plain.specs.declared.commands.Command.TheVariants.{Object, Image, Draw, Query}
use Rattle.gl_plain.specs.declared.commands.ImageCommand.{ImageCommand}
use Rattle.gl_plain.specs.declared.commands.ImageCommand.TheVariants.{TexImage2D, TexSubImage2D, CopyTexImage2D, CopyTexSubImage2D, TexParameteri, GenerateMipmap, RenderbufferStorage}
use Rattle.gl_plain.specs.declared.commands.QueryCommand.{QueryCommand}
use Rattle.gl_plain.specs.declared.commands.QueryCommand.TheVariants.{ReadPixels, GetError, Words, Bytes}
use Rattle.gl_plain.specs.declared.image_words.CopyPartWords.{CopyPartWords}
use Rattle.gl_plain.specs.declared.driver_calls.ObjectDriver.TheVariants as object_calls
use Rattle.gl_plain.specs.declared.targets.AnyImage.{AnyImage}
use Rattle.gl_plain.specs.declared.targets.AnyImage.TheVariants as any
use Rattle.gl_plain.specs.declared.commands.DrawCommand.{DrawCommand}
use Rattle.gl_plain.specs.declared.commands.DrawCommand.TheVariants.{Raster, Clear, DrawArrays, DrawElements}
use Rattle.gl_plain.specs.declared.commands.ObjectCommand.{ObjectCommand}
use Rattle.gl_plain.specs.declared.commands.ObjectCommand.TheVariants as objects
use Rattle.gl_plain.specs.declared.draws.DrawPlan.{DrawPlan}
use Rattle.gl_plain.specs.declared.driver_calls.ProgramDriver.TheVariants as program
use Rattle.gl_plain.specs.declared.objects.Name.{Name}
use Rattle.gl_plain.specs.declared.programs.Program as programs
use Rattle.gl_plain.specs.declared.driver_calls.DriverCall.{DriverCall}
use Rattle.gl_plain.specs.declared.driver_calls.DriverCall.TheVariants as driver
use Rattle.gl_plain.specs.declared.driver_calls.DriverEntry.{DriverEntry}
use Rattle.gl_plain.specs.declared.driver_calls.DrawDriver.TheVariants as drawing
use Rattle.gl_plain.specs.declared.driver_calls.ImageDriver.TheVariants as calls
use Rattle.gl_plain.specs.declared.image_words.PartWords.{PartWords}
use Rattle.gl_plain.specs.declared.textures.ImagePlace.{ImagePlace}
use Rattle.gl_plain.specs.declared.textures.LevelView.{LevelView}
use Rattle.gl_plain.specs.object.Calls.{bind_buffer_call, bind_calls, bind_framebuffer_call, bind_renderbuffer_call, bind_texture_call, link_program_calls, own_object_calls, validate_program_calls}
use Rattle.gl_plain.specs.image.Calls.{own_image_calls}
use Rattle.gl_plain.specs.subjects.Buffers.{delete_buffers_calls}
use Rattle.gl_plain.specs.subjects.Programs.{ProgramTables, can_link, number_of, program_at}
use Rattle.gl_plain.specs.subjects.Raster.{is_driver_raster, kept_words}
use Rattle.gl_plain.specs.subjects.Uniforms.{given_count, is_nowhere}
use Rattle.gl_plain.specs.Spaces as spaces
use Rattle.gl_plain.specs.Spaces.{Space, gen_call, numbers_in}
use Rattle.gl_plain.specs.subjects.Textures.{TextureObjects, delete_textures_calls, level_at}
use Rattle.gl_plain.specs.subjects.Images.{Pixel, Contents, Covers, Marks, IsCovered, IsMarked, is_place, leaves_level, no_rect, part_level, part_rect, rest_at, tex_sub_image_refusal, with_mark}
use Rattle.gl_plain.specs.subjects.Targets.{Drawable, Renderbuffers, colour_images, delete_calls, renderbuffer_at, target_images, target_of}
use Rattle.gl_plain.specs.subjects.Mipmaps.{base_places}
use Rattle.gl_plain.specs.subjects.Copies.{copy_part_level, copy_part_place, copy_rect, copy_tex_sub_image_refusal, reads_nothing}
use Rattle.gl_plain.specs.subjects.Draws.{Sources, check_arrays, check_indexed, drawn_images}
use Rattle.gl_plain.specs.Agreement.{Agrees, ImagesAgree}
use Rattle.gl_plain.specs.Covers.{filled, unwritten, zero_call, zero_calls, zero_storage, zeroings}
use Rattle.gl_plain.specs.Oracle.{Oracle, first}
use Rattle.gl_plain.specs.State.{EsState, WireState, DriverState, drawable_of, sources_of}
use Rattle.gl_plain.specs.Journal.{entry_after}
use Rattle.gl_plain.specs.Parts.{calls_in}
use Rattle.gl_plain.specs.Promises.{AreZeroings, HasUndefinedStorage, IsAmong, IsNoRectangle, IsPromised, IsSplit, IsZeroing, Uses, UsesImage, count_zeroes, most_zeroings, zeroes}
use Rattle.gl_plain.specs.Wire.{calls_by, command_calls, command_refusal, own_calls, whole_first}
use Rattle.gl_plain.specs.draw.Calls.{drawing_calls, drawing_whole_first, draw_whole_first, own_draw_calls}
use Rattle.gl_plain.specs.image.Covers.{image_whole_first, part_first, part_place}
use Rattle.gl_plain.specs.query.Calls.{own_query_calls, query_whole_first}
use Rattle.gl_laws.proofs.Lists.{entry, no_entry, one_entry}
use Rattle.gl_laws.proofs.Places.{at_number, at_place, mark_here, place_is}
use Rattle.gl_laws.proofs.Pixels.{AllUndefined, first_undefined, still, undefined_of, zeroed_rect}
use Rattle.gl_laws.proofs.Zeroing.{AreStored, HasPixels, IsWholeOf, IsZeroCall, agree_filled, agree_stored, all_of_both, filled_contents, filled_elsewhere, filled_whole, painted, painted_of, painted_one, painted_storage, still_marked, still_whole, stored_contents, unwritten_undefined, with_contents, zero_after}
use Rattle.gl_laws.proofs.Stored.{second_none, whole_first_stored}

-- Each zeroing turns a place that was never written to zero

-- in the contents that those before it leave
abbrev AreTurns : (AnyImage → Type 0) → DriverState → List DriverCall → Type 0
AreTurns Used d [] = Unit {0}
AreTurns Used d (c ∷ cs) = IsZeroing Used d c × AreTurns Used (with_contents d (painted_one d.contents c)) cs

is_zero_call : (Used : AnyImage → Type 0) (d : DriverState) (c : DriverCall) → IsZeroing Used d c → IsZeroCall c
is_zero_call Used d (driver.Image (calls.ZeroLevel place r)) h = tt
is_zero_call Used d (driver.Image (calls.ZeroRenderbuffer number)) h = tt
is_zero_call Used d c h = absurd h

module _ (Used : AnyImage → Type 0) where
  turns_are : (d : DriverState) (es : List DriverEntry) → AreTurns Used d (calls_in es) → AreZeroings Used d es
  turns_are d [] h = tt
  turns_are d (e ∷ es) h = (h.0, turns_are (entry_after d e) es (subst (λ (s : DriverState). AreTurns Used s (calls_in es)) (sym (zero_after d e.call e.answer (is_zero_call Used d e.call h.0))) h.1))

  turns_append : (d : DriverState) (xs ys : List DriverCall) → AreTurns Used d xs → AreTurns Used (with_contents d (painted d.contents xs)) ys → AreTurns Used d (xs ++ ys)
  turns_append d [] ys h g = g
  turns_append d (c ∷ cs) ys h g = (h.0, turns_append (with_contents d (painted_one d.contents c)) cs ys h.1 g)

  turns_of : (d : DriverState) (place : ImagePlace) (width height : ℕ) (rs : List Rect) → Used (any.Level place) → Disjoint rs → AllInside width height rs → AllUndefined d.contents place rs → AreTurns Used d (zero_calls place rs)
  turns_of d place width height [] used apart inside u = tt
  turns_of d place width height (r ∷ rs) used apart inside u =
      let corner : has r r.x r.y ≡ true = has_it r r.x r.y (omega arith, omega (arith, inside), omega arith, omega (arith, inside)) in (
        (used, record { x = r.x; y = r.y; inside = corner; undefined = first_undefined d.contents place r rs u r.x r.y corner }),
        turns_of (with_contents d (zeroed_rect d.contents place r)) place width height rs used apart.1 inside.3 (still d.contents place r rs apart.0 u),
      )

  turns_at : (d : DriverState) (place : ImagePlace) (o : Option LevelView) (r : Rect) → Used (any.Level place) → IsCovered o r (d.contents.images place) → AllUndefined d.contents place (rest_at o r) → AreTurns Used d (zero_calls place (rest_at o r))
  turns_at d place None r used c u = tt
  turns_at d place (Some v) r used c u = let rest = rest_is v.width v.height r c.inside in turns_of d place v.width v.height (rest_of v.width v.height r) used rest.disjoint rest.inside u

  storage_undefined : (o : Option LevelView) (mark : Bool) (px : ℕ → ℕ → Pixel) → HasPixels o → IsMarked o mark px → mark ≡ false → HasUndefinedStorage px o
  storage_undefined None mark px there marked none = absurd there
  storage_undefined (Some v) mark px there marked none =
      record { x = 0; y = 0; inside = whole_has v.width v.height 0 0 there.0 there.1; undefined = undefined_of (px 0 0) (marked 0 0 ∙ none) }

  storage_turns : (d : DriverState) (number : ℕ) (is_written : Bool) → Used (any.Renderbuffer number) → HasPixels (renderbuffer_at d.tables.renderbuffers.objects number)
      → IsMarked (renderbuffer_at d.tables.renderbuffers.objects number) is_written (d.contents.renderbuffers number) → AreTurns Used d (zero_storage number is_written)
  storage_turns d number true used there marked = tt
  storage_turns d number false used there marked = ((used, storage_undefined (renderbuffer_at d.tables.renderbuffers.objects number) false (d.contents.renderbuffers number) there marked refl), tt)

  all_turns : (t : TextureObjects) (f : Covers) (m : Marks) (d : DriverState) (xs : List AnyImage) → AllByRecursion Used xs → AreStored d.tables.renderbuffers.objects xs → ImagesAgree t d.tables.renderbuffers.objects f m d.contents → AreTurns Used d (zeroings t f m xs)
  all_turns t f m d [] used there agree = tt
  all_turns t f m d (any.Level place ∷ xs) used there agree = turns_append d (zero_calls place (unwritten t f place)) (zeroings t (filled t f place) m xs)
      (turns_at d place (level_at t place) (f place) used.0 (agree.covers place) (unwritten_undefined f d.contents place t d.tables.renderbuffers.objects m agree))
      (subst (λ (k : Contents). AreTurns Used (with_contents d k) (zeroings t (filled t f place) m xs)) (sym (painted_of d.contents place (unwritten t f place)))
      (all_turns t (filled t f place) m (with_contents d (filled_contents f d.contents place t)) xs used.1 there.1 (agree_filled f d.contents place t d.tables.renderbuffers.objects m agree)))
  all_turns t f m d (any.Renderbuffer number ∷ xs) used there agree = turns_append d (zero_storage number (m number)) (zeroings t f (with_mark m number true) xs)
      (storage_turns d number (m number) used.0 there.0 (agree.marks number))
      (subst (λ (k : Contents). AreTurns Used (with_contents d k) (zeroings t f (with_mark m number true) xs)) (sym (painted_storage d.contents number (m number)))
      (all_turns t f (with_mark m number true) (with_contents d (stored_contents m d.contents number)) xs used.1 there.1 (agree_stored d.tables.renderbuffers.objects m d.contents number there.0 t f agree)))

-- A level has at most four, and a renderbuffer one

at_most_one : (b : Bool) → (if b then 1 else 0) ≤ 1
at_most_one true = omega arith
at_most_one false = omega arith

rest_few : (o : Option LevelView) (r : Rect) (px : ℕ → ℕ → Pixel) → IsCovered o r px → length (rest_at o r) ≤ 4
rest_few None r px c = omega arith
rest_few (Some v) r px c = (rest_is v.width v.height r c.inside).few

-- nothing is left of an image that is written whole
nothing_left : (o : Option LevelView) (r : Rect) → IsWholeOf o r → rest_at o r ≡ []
nothing_left None r is = refl
nothing_left (Some v) r is = ap (rest_of v.width v.height) is ∙ rest_whole v.width v.height

count_append : (x : AnyImage) (xs ys : List DriverCall) → count_zeroes x (xs ++ ys) ≡ count_zeroes x xs + count_zeroes x ys
count_append x [] ys = omega arith
count_append x (c ∷ cs) ys = omega (arith, count_append x cs ys)

module _ (t : TextureObjects) (x : AnyImage) where
  count_level : (f : Covers) (m : Marks) (other : ImagePlace) (xs : List AnyImage) → count_zeroes x (zeroings t f m (any.Level other ∷ xs)) ≡ count_zeroes x (zero_calls other (unwritten t f other)) + count_zeroes x (zeroings t (filled t f other) m xs)
  count_level f m other xs = count_append x (zero_calls other (unwritten t f other)) (zeroings t (filled t f other) m xs)

  count_storage : (f : Covers) (m : Marks) (other : ℕ) (xs : List AnyImage) → count_zeroes x (zeroings t f m (any.Renderbuffer other ∷ xs)) ≡ count_zeroes x (zero_storage other (m other)) + count_zeroes x (zeroings t f (with_mark m other true) xs)
  count_storage f m other xs = count_append x (zero_storage other (m other)) (zeroings t f (with_mark m other true) xs)

other_place : (place other : ImagePlace) → is_place place other ≡ false → is_place other place ≡ false
other_place place other e = grind (arith, nat_tests)

module _ (place : ImagePlace) where
  abbrev this_level : AnyImage
  this_level = any.Level place

  count_of : (other : ImagePlace) (rs : List Rect) → count_zeroes this_level (zero_calls other rs) ≤ length rs
  count_of other [] = omega arith
  count_of other (r ∷ rs) = let later = count_of other rs in let one = at_most_one (is_place place other) in omega arith

  count_elsewhere : (other : ImagePlace) (rs : List Rect) → is_place place other ≡ false → count_zeroes this_level (zero_calls other rs) ≡ 0
  count_elsewhere other [] e = refl
  count_elsewhere other (r ∷ rs) e = let later = count_elsewhere other rs e in let none : zeroes this_level (zero_call other r) ≡ 0 = ap (λ (b : Bool). if b then 1 else 0) e in omega arith

  storage_none : (number : ℕ) (is_written : Bool) → count_zeroes this_level (zero_storage number is_written) ≡ 0
  storage_none number true = refl
  storage_none number false = refl

  module _ (t : TextureObjects) where
    count_whole : (f : Covers) (m : Marks) (xs : List AnyImage) → IsWholeOf (level_at t place) (f place) → count_zeroes this_level (zeroings t f m xs) ≡ 0
    count_whole f m [] is = refl
    count_whole f m (any.Level other ∷ xs) is =
        let here = at_place (λ (i : ImagePlace). count_zeroes this_level (zero_calls i (unwritten t f i)) ≡ 0) place other
        (ap (λ (rs : List Rect). count_zeroes this_level (zero_calls place rs)) (nothing_left (level_at t place) (f place) is)) (count_elsewhere other (unwritten t f other)) in
        let later = count_whole (filled t f other) m xs (still_whole t f other place is) in
        omega (arith, here, later, count_level t this_level f m other xs)
    count_whole f m (any.Renderbuffer other ∷ xs) is = omega (arith, storage_none other (m other), count_whole f (with_mark m other true) xs is, count_storage t this_level f m other xs)

    level_few : (f : Covers) (m : Marks) (xs : List AnyImage) → (r : Rect) (px : ℕ → ℕ → Pixel) → r ≡ f place → IsCovered (level_at t place) r px → count_zeroes this_level (zeroings t f m xs) ≤ 4
    level_few f m [] r px same c = omega arith
    level_few f m (any.Level other ∷ xs) r px same c = (elim (is_place place other) as (λ (b : Bool). is_place place other ≡ b → count_zeroes this_level (zeroings t f m (any.Level other ∷ xs)) ≤ 4) [
      | true ↦ λ e. subst (λ (i : ImagePlace). count_zeroes this_level (zeroings t f m (any.Level i ∷ xs)) ≤ 4) (sym (place_is place other e))
          (omega (arith, count_of place (unwritten t f place), rest_few (level_at t place) (f place) px (subst (λ (w : Rect). IsCovered (level_at t place) w px) same c), count_whole (filled t f place) m xs (filled_whole t f place), count_level t this_level f m place xs))
      | false ↦ λ e. omega (arith, count_elsewhere other (unwritten t f other) e, level_few (filled t f other) m xs r px (same ∙ sym (filled_elsewhere f other (level_at t other) place (other_place place other e))) c, count_level t this_level f m other xs)
    ]) refl
    level_few f m (any.Renderbuffer other ∷ xs) r px same c = omega (arith, storage_none other (m other), level_few f (with_mark m other true) xs r px same c, count_storage t this_level f m other xs)

module _ (number : ℕ) where
  abbrev this_storage : AnyImage
  this_storage = any.Renderbuffer number

  levels_none : (other : ImagePlace) (rs : List Rect) → count_zeroes this_storage (zero_calls other rs) ≡ 0
  levels_none other [] = refl
  levels_none other (r ∷ rs) = let later = levels_none other rs in omega arith

  storage_one : (other : ℕ) (is_written : Bool) → count_zeroes this_storage (zero_storage other is_written) ≤ 1
  storage_one other true = omega arith
  storage_one other false = let one = at_most_one (other == number) in omega arith

  storage_elsewhere : (other : ℕ) (is_written : Bool) → (number == other) ≡ false → count_zeroes this_storage (zero_storage other is_written) ≡ 0
  storage_elsewhere other true e = refl
  storage_elsewhere other false e =
      let apart : (other == number) ≡ false = grind (arith, nat_tests) in
      let none : zeroes this_storage (driver.Image (calls.ZeroRenderbuffer other)) ≡ 0 = ap (λ (b : Bool). if b then 1 else 0) apart in omega arith

  module _ (t : TextureObjects) where
    count_marked : (f : Covers) (m : Marks) (xs : List AnyImage) → m number ≡ true → count_zeroes this_storage (zeroings t f m xs) ≡ 0
    count_marked f m [] is = refl
    count_marked f m (any.Level other ∷ xs) is = omega (arith, levels_none other (unwritten t f other), count_marked (filled t f other) m xs is, count_level t this_storage f m other xs)
    count_marked f m (any.Renderbuffer other ∷ xs) is =
        let here = at_number (λ (i : ℕ). count_zeroes this_storage (zero_storage i (m i)) ≡ 0) number other
        (ap (λ (b : Bool). count_zeroes this_storage (zero_storage number b)) is) (storage_elsewhere other (m other)) in
        let later = count_marked f (with_mark m other true) xs (still_marked m other number is) in
        omega (arith, here, later, count_storage t this_storage f m other xs)

    storage_few : (f : Covers) (m : Marks) (xs : List AnyImage) → count_zeroes this_storage (zeroings t f m xs) ≤ 1
    storage_few f m [] = omega arith
    storage_few f m (any.Level other ∷ xs) = omega (arith, levels_none other (unwritten t f other), storage_few (filled t f other) m xs, count_level t this_storage f m other xs)
    storage_few f m (any.Renderbuffer other ∷ xs) = at_number (λ (i : ℕ). count_zeroes this_storage (zeroings t f m (any.Renderbuffer i ∷ xs)) ≤ 1) number other
        (omega (arith, storage_one number (m number), count_marked f (with_mark m number true) xs (mark_here m number true), count_storage t this_storage f m number xs))
        (λ e. omega (arith, storage_elsewhere other (m other) e, storage_few f (with_mark m other true) xs, count_storage t this_storage f m other xs))

-- no image has more than it may
count_few : (x : AnyImage) (t : TextureObjects) (r : Renderbuffers) (f : Covers) (m : Marks) (k : Contents) (xs : List AnyImage) → ImagesAgree t r f m k → count_zeroes x (zeroings t f m xs) ≤ most_zeroings x
count_few (any.Level place) t r f m k xs agree = level_few place t f m xs (f place) (k.images place) refl (agree.covers place)
count_few (any.Renderbuffer number) t r f m k xs agree = storage_few number t f m xs

-- The images are used

-- a part that is not refused lies in its image
part_stays : (t : TextureObjects) (p : PartWords) → tex_sub_image_refusal t p ≡ None → leaves_level (part_level t p) (part_rect p) ≡ false
part_stays t p h = (or_parts _ (leaves_level (part_level t p) (part_rect p)) (second_none _ _ InvalidEnum InvalidValue _ h)).1

copy_stays : (b : Drawable) (c : CopyPartWords) → copy_tex_sub_image_refusal b c ≡ None → leaves_level (copy_part_level b.textures c) (copy_rect c) ≡ false
copy_stays b c h = (or_parts _ (leaves_level (copy_part_level b.textures c) (copy_rect c)) (second_none _ _ InvalidEnum InvalidValue _ h)).1

stays_in : (v : LevelView) (r : Rect) → leaves_level (Some v) r ≡ false → IsIn r v.width v.height
stays_in v r h = (grind (arith, nat_tests), grind (arith, nat_tests))

in_image : (a b u : Rect) (width height x y : ℕ) → IsIn a width height → IsIn b width height → IsIn u width height → (x < width → y < height → has u x y ≡ (has a x y || has b x y)) → has u x y ≡ (has a x y || has b x y)
in_image a b u width height x y ia ib iu f = grind (arith, nat_tests)

either_some : (b : Bool) (x y : Rect) → (if b then Some x else Some y) ≡ None → ⊥
either_some true x y h = absurd (cc)
either_some false x y h = absurd (cc)

no_rectangle : (o : Option LevelView) (a r : Rect) (px : ℕ → ℕ → Pixel) → IsCovered o a px → leaves_level o r ≡ false → union_of a r ≡ None → IsNoRectangle o px r
no_rectangle None a r px c stays none = either_some _ no_rect r (subst (λ (a : Rect). union_of a r ≡ None) c none)
no_rectangle (Some v) a r px c stays none = λ u inside h. union_none a r none u
    (λ x y. in_image a r u v.width v.height x y c.inside (stays_in v r stays) inside (λ xw yh. h x y xw yh ∙ ap (λ b. b || has r x y) (c.exact x y xw yh)))

part_used : (w : WireState) (d : DriverState) → Agrees w d → (place : ImagePlace) (r : Rect) → leaves_level (level_at w.es.textures.objects place) r ≡ false → (u : Option Rect) → union_of (w.covers place) r ≡ u
    → AllByRecursion (IsSplit w.es.textures.objects d place r) (if is_none u then any.Level place ∷ [] else [])
part_used w d agree place r stays (Some u) e = tt
part_used w d agree place r stays None e = (record { here = refl; apart = no_rectangle (level_at w.es.textures.objects place) (w.covers place) r (d.contents.images place) (agree.images.covers place) stays e }, tt)

-- what is so of each of these, by what is so of each of those
all_of : (P Q : AnyImage → Type 0) → ((x : AnyImage) → P x → Q x) → (xs : List AnyImage) → AllByRecursion P xs → AllByRecursion Q xs
all_of P Q step [] h = tt
all_of P Q step (x ∷ xs) h = (step x h.0, all_of P Q step xs h.1)

all_both : (P : AnyImage → Type 0) (xs ys : List AnyImage) → AllByRecursion P xs → AllByRecursion P ys → AllByRecursion P (xs ++ ys)
all_both P [] ys h g = g
all_both P (x ∷ xs) ys h g = (h.0, all_both P xs ys h.1 g)

all_unless : (P : AnyImage → Type 0) (b : Bool) (xs : List AnyImage) → AllByRecursion P xs → AllByRecursion P (if b then [] else xs)
all_unless P true xs h = tt
all_unless P false xs h = h

all_among : (xs : List AnyImage) → AllByRecursion (IsAmong xs) xs
all_among [] = tt
all_among (x ∷ xs) = (inl refl, all_of (IsAmong xs) (IsAmong (x ∷ xs)) (λ y h. inr h) xs (all_among xs))

image_used : (w : WireState) (d : DriverState) → Agrees w d → (c : ImageCommand) (payload : List ℕ) → command_refusal w.es (Image c) payload ≡ None → AllByRecursion (UsesImage w.es d c) (image_whole_first w.es w.covers c)
image_used w d agree (TexImage2D image words) payload fine = tt
image_used w d agree (TexSubImage2D part words) payload fine =
    part_used w d agree (part_place w.es.textures.objects part) (part_rect part) (part_stays w.es.textures.objects part fine) (union_of (w.covers (part_place w.es.textures.objects part)) (part_rect part)) refl
image_used w d agree (CopyTexImage2D copy) payload fine = all_among (colour_images (target_of w.es.framebuffers))
image_used w d agree (CopyTexSubImage2D copy) payload fine =
    let place = copy_part_place w.es.textures.objects copy in
    let colours = colour_images (target_of w.es.framebuffers) in
    all_unless (UsesImage w.es d (CopyTexSubImage2D copy)) (is_empty (copy_rect copy)) (colours ++ part_first w.covers place (copy_rect copy))
    (all_both (UsesImage w.es d (CopyTexSubImage2D copy)) colours (part_first w.covers place (copy_rect copy))
    (all_of (IsAmong colours) (UsesImage w.es d (CopyTexSubImage2D copy)) (λ x h. inl h) colours (all_among colours))
    (all_of (IsSplit w.es.textures.objects d place (copy_rect copy)) (UsesImage w.es d (CopyTexSubImage2D copy)) (λ x h. inr h) (part_first w.covers place (copy_rect copy))
    (part_used w d agree place (copy_rect copy) (copy_stays (drawable_of w.es) copy fine) (union_of (w.covers place) (copy_rect copy)) refl)))
image_used w d agree (TexParameteri target pname value) payload fine = tt
image_used w d agree (GenerateMipmap target) payload fine = all_among (map any.Level (base_places w.es.textures.objects target))
image_used w d agree (RenderbufferStorage target format width height) payload fine = tt

all_used : (w : WireState) (d : DriverState) → Agrees w d → (c : Command) (payload : List ℕ) → command_refusal w.es c payload ≡ None → AllByRecursion (Uses w.es d c) (whole_first w c)
all_used w d agree (Image c) payload fine = image_used w d agree c payload fine
all_used w d agree (Draw c) payload fine = all_among (draw_whole_first (sources_of w.es) c)
all_used w d agree (Query c) payload fine = all_among (query_whole_first w.es c)
all_used w d agree c payload fine = tt

-- No call of a command's name zeroes

module _ (x : AnyImage) where
  either_none : (b : Bool) (xs ys : List DriverCall) → count_zeroes x xs ≡ 0 → count_zeroes x ys ≡ 0 → count_zeroes x (if b then xs else ys) ≡ 0
  either_none true xs ys h g = h
  either_none false xs ys h g = g

  gen_none : (space : Space) → zeroes x (gen_call space) ≡ 0
  gen_none spaces.Buffers = refl
  gen_none spaces.Textures = refl
  gen_none spaces.Renderbuffers = refl
  gen_none spaces.Framebuffers = refl

  bind_none : (space : Space) (bind : ℕ → DriverCall) (id : ℕ) (o : Oracle) (found : Option Name) → ((n : ℕ) → zeroes x (bind n) ≡ 0) → count_zeroes x (bind_calls space bind id o found) ≡ 0
  bind_none space bind id o (Some named) h = omega (arith, h named.number)
  bind_none space bind id o None h = either_none (id == 0) (bind 0 ∷ []) (gen_call space ∷ bind (first (numbers_in space o)) ∷ [])
      (omega (arith, h 0)) (omega (arith, gen_none space, h (first (numbers_in space o))))

  buffers_none : (found : Option Name) → count_zeroes x (delete_buffers_calls found) ≡ 0
  buffers_none None = refl
  buffers_none (Some named) = refl

  textures_none : (found : Option Name) → count_zeroes x (delete_textures_calls found) ≡ 0
  textures_none None = refl
  textures_none (Some named) = refl

  deleted_none : (delete : ℕ → DriverCall) → ((n : ℕ) → zeroes x (delete n) ≡ 0) → (found : Option Name) → count_zeroes x (delete_calls delete found) ≡ 0
  deleted_none delete h None = refl
  deleted_none delete h (Some named) = omega (arith, h named.number)

  link_none : (t : ProgramTables) (number : ℕ) (p : Option programs.Program) → count_zeroes x (link_program_calls t number p) ≡ 0
  link_none t number None = refl
  link_none t number (Some p) = either_none (can_link t.shaders p.attached) (driver.Program (program.LinkProgram number) ∷ []) [] refl refl

  validate_none : (number : ℕ) (p : Option programs.Program) → count_zeroes x (validate_program_calls number p) ≡ 0
  validate_none number None = refl
  validate_none number (Some p) = either_none (is_some p.executable) (driver.Program (program.ValidateProgram number) ∷ []) [] refl refl

  object_none : (s : EsState) (c : ObjectCommand) (payload : List ℕ) (o : Oracle) → count_zeroes x (own_object_calls s c payload o) ≡ 0
  object_none s (objects.BindBuffer target id) payload o = bind_none spaces.Buffers (bind_buffer_call target) id o (table.get s.buffers.names id) (λ n. refl)
  object_none s (objects.BindTexture target id) payload o = bind_none spaces.Textures (bind_texture_call target) id o (table.get s.textures.names id) (λ n. refl)
  object_none s (objects.DeleteBuffers id) payload o = buffers_none (table.get s.buffers.names id)
  object_none s (objects.DeleteTextures id) payload o = textures_none (table.get s.textures.names id)
  object_none s (objects.BindRenderbuffer target id) payload o = bind_none spaces.Renderbuffers bind_renderbuffer_call id o (table.get s.renderbuffers.names id) (λ n. refl)
  object_none s (objects.BindFramebuffer target id) payload o = bind_none spaces.Framebuffers bind_framebuffer_call id o (table.get s.framebuffers.names id) (λ n. refl)
  object_none s (objects.DeleteRenderbuffers id) payload o = deleted_none (λ n. driver.Object (object_calls.DeleteRenderbuffer n)) (λ n. refl) (table.get s.renderbuffers.names id)
  object_none s (objects.DeleteFramebuffers id) payload o = deleted_none (λ n. driver.Object (object_calls.DeleteFramebuffer n)) (λ n. refl) (table.get s.framebuffers.names id)
  object_none s (objects.DeleteShader shader) payload o = either_none (shader == 0) [] (driver.Program (program.DeleteShader (number_of s.programs shader)) ∷ []) refl refl
  object_none s (objects.DeleteProgram id) payload o = either_none (id == 0) [] (driver.Program (program.DeleteProgram (number_of s.programs id)) ∷ []) refl refl
  object_none s (objects.LinkProgram id) payload o = link_none s.programs (number_of s.programs id) (program_at s.programs id)
  object_none s (objects.ValidateProgram id) payload o = validate_none (number_of s.programs id) (program_at s.programs id)
  object_none s (objects.Uniform location kind count transpose words) payload o = either_none (is_nowhere location) [] (driver.Program (program.Uniform location kind (pos (given_count count)) payload) ∷ []) refl refl
  object_none s c payload o = refl

  image_none : (s : EsState) (c : ImageCommand) (payload : List ℕ) → count_zeroes x (own_image_calls s c payload) ≡ 0
  image_none s (TexImage2D image words) payload = refl
  image_none s (TexSubImage2D part words) payload = refl
  image_none s (CopyTexImage2D copy) payload = refl
  image_none s (CopyTexSubImage2D copy) payload = either_none (is_empty (copy_rect copy)) [] (driver.Image (calls.CopyTexSubImage copy) ∷ []) refl refl
  image_none s (TexParameteri target pname value) payload = refl
  image_none s (GenerateMipmap target) payload = refl
  image_none s (RenderbufferStorage target format width height) payload = refl

  query_none : (s : EsState) (c : QueryCommand) → count_zeroes x (own_query_calls s c) ≡ 0
  query_none s (ReadPixels words bucket) = either_none (reads_nothing words) [] (driver.Image (calls.ReadPixels words.x words.y words.width words.height) ∷ []) refl refl
  query_none s GetError = refl
  query_none s (Words query) = refl
  query_none s (Bytes query bucket) = refl

  drawing_none : (call : ℕ → DriverCall) (check : Result DrawPlan GlError) → ((black : ℕ) → zeroes x (call black) ≡ 0) → count_zeroes x (drawing_calls call check) ≡ 0
  drawing_none call (Err e) h = refl
  drawing_none call (Ok plan) h = either_none plan.draw (call plan.black ∷ []) [] (omega (arith, h plan.black)) refl

  draw_none : (s : Sources) (c : DrawCommand) → count_zeroes x (own_draw_calls s c) ≡ 0
  draw_none s (Raster number words) = either_none (is_driver_raster number) (driver.Draw (drawing.SetRaster number (kept_words number words)) ∷ []) [] refl refl
  draw_none s (Clear mask) = either_none (mask == 0) [] (driver.Draw (drawing.Clear mask) ∷ []) refl refl
  draw_none s (DrawArrays mode first count) = drawing_none (λ black. driver.Draw (drawing.DrawArrays mode first count black)) (check_arrays s mode first count) (λ black. refl)
  draw_none s (DrawElements mode count kind offset) = drawing_none (λ black. driver.Draw (drawing.DrawElements mode count kind offset black)) (check_indexed s mode count kind offset) (λ black. refl)
  draw_none s c = refl

  pub own_none : (w : WireState) (c : Command) (payload : List ℕ) (o : Oracle) → count_zeroes x (own_calls w c payload o) ≡ 0
  own_none w (Object c) payload o = object_none w.es c payload o
  own_none w (Image c) payload o = image_none w.es c payload
  own_none w (Draw c) payload o = draw_none (sources_of w.es) c
  own_none w (Query c) payload o = query_none w.es c
  own_none w c payload o = refl

-- Behind zeroings stands one call

abbrev StandsAlone : List AnyImage → List DriverCall → Type 0
StandsAlone xs own = (xs ≡ []) ⊎ ((last : DriverCall) × (own ≡ last ∷ []))

plan_alone : (b : Bool) (xs : List AnyImage) (call : DriverCall) → StandsAlone (if b then xs else []) (if b then call ∷ [] else [])
plan_alone true xs call = inr (call, refl)
plan_alone false xs call = inl refl

unless_alone : (b : Bool) (xs : List AnyImage) (call : DriverCall) → StandsAlone (if b then [] else xs) (if b then [] else call ∷ [])
unless_alone true xs call = inl refl
unless_alone false xs call = inr (call, refl)

drawing_alone : (s : Sources) (call : ℕ → DriverCall) (check : Result DrawPlan GlError) → StandsAlone (drawing_whole_first s check) (drawing_calls call check)
drawing_alone s call (Err e) = inl refl
drawing_alone s call (Ok plan) = plan_alone plan.draw (drawn_images s) (call plan.black)

draw_alone : (s : Sources) (c : DrawCommand) → StandsAlone (draw_whole_first s c) (own_draw_calls s c)
draw_alone s (DrawArrays mode first count) = drawing_alone s (λ black. driver.Draw (drawing.DrawArrays mode first count black)) (check_arrays s mode first count)
draw_alone s (DrawElements mode count kind offset) = drawing_alone s (λ black. driver.Draw (drawing.DrawElements mode count kind offset black)) (check_indexed s mode count kind offset)
draw_alone s (Clear mask) = unless_alone (mask == 0) (target_images s.drawable.target) (driver.Draw (drawing.Clear mask))
draw_alone s c = inl refl

image_alone : (w : WireState) (c : ImageCommand) (payload : List ℕ) (o : Oracle) → StandsAlone (image_whole_first w.es w.covers c) (own_calls w (Image c) payload o)
image_alone w (TexSubImage2D part words) payload o = inr (_, refl)
image_alone w (CopyTexImage2D copy) payload o = inr (_, refl)
image_alone w (CopyTexSubImage2D copy) payload o = unless_alone (is_empty (copy_rect copy)) _ (driver.Image (calls.CopyTexSubImage copy))
image_alone w (GenerateMipmap target) payload o = inr (_, refl)
image_alone w c payload o = inl refl

query_alone : (s : EsState) (c : QueryCommand) → StandsAlone (query_whole_first s c) (own_query_calls s c)
query_alone s (ReadPixels words bucket) = unless_alone (reads_nothing words) (colour_images (target_of s.framebuffers)) (driver.Image (calls.ReadPixels words.x words.y words.width words.height))
query_alone s GetError = inl refl
query_alone s (Words query) = inl refl
query_alone s (Bytes query bucket) = inl refl

stands_alone : (w : WireState) (c : Command) (payload : List ℕ) (o : Oracle) → StandsAlone (whole_first w c) (own_calls w c payload o)
stands_alone w (Image c) payload o = image_alone w c payload o
stands_alone w (Draw c) payload o = draw_alone (sources_of w.es) c
stands_alone w (Query c) payload o = query_alone w.es c
stands_alone w c payload o = inl refl

ended_by : (t : TextureObjects) (f : Covers) (m : Marks) (xs : List AnyImage) (calls : List DriverCall) (zeros own : List DriverEntry) → calls_in zeros ≡ zeroings t f m xs → calls_in own ≡ calls → StandsAlone xs calls → (zeros ≡ []) ⊎ ((last : DriverEntry) × (own ≡ last ∷ []))
ended_by t f m xs calls zeros own zeros_are own_are (inl none) = inl (no_entry (λ es. es ≡ []) refl zeros (zeros_are ∙ ap (zeroings t f m) none))
ended_by t f m xs calls zeros own zeros_are own_are (inr one) = inr (one_entry (λ es. (last : DriverEntry) × (es ≡ last ∷ [])) one.0 (λ answer. (entry one.0 answer, refl)) own (own_are ∙ one.1))

none_few : (x : AnyImage) → 0 ≤ most_zeroings x
none_few (any.Level place) = omega arith
none_few (any.Renderbuffer number) = omega arith

promised_by : (w : WireState) (d : DriverState) → Agrees w d → (c : Command) (payload : List ℕ) (o : Oracle) (es : List DriverEntry) (r : Option GlError) → command_refusal w.es c payload ≡ r → calls_in es ≡ calls_by r w c payload o → IsPromised w.es d c es
promised_by w d agree c payload o es (Some e) is h = record { zeros = []; own = es; split = refl; zeroings = tt; few = λ x. none_few x; others = λ x. ap (count_zeroes x) h; ended = inl refl }
promised_by w d agree c payload o es None is h =
    let t = w.es.textures.objects in
    let p = all_of_both (zeroings t w.covers w.marks (whole_first w c)) (own_calls w c payload o) es h in
    record {
      zeros = p.0;
      own = p.1;
      split = p.2;
      zeroings = turns_are (Uses w.es d c) d p.0 (subst (AreTurns (Uses w.es d c) d) (sym p.3) (all_turns (Uses w.es d c) t w.covers w.marks d (whole_first w c) (all_used w d agree c payload is)
          (subst (λ (r : Renderbuffers). AreStored r (whole_first w c)) agree.tables.renderbuffers.objects (whole_first_stored w c payload is))
          (subst (λ (r : Renderbuffers). ImagesAgree t r w.covers w.marks d.contents) agree.tables.renderbuffers.objects agree.images)));
      few = λ x. subst (λ (cs : List DriverCall). count_zeroes x cs ≤ most_zeroings x) (sym p.3) (count_few x t w.es.renderbuffers.objects w.covers w.marks d.contents (whole_first w c) agree.images);
      others = λ x. ap (count_zeroes x) p.4 ∙ own_none x w c payload o;
      ended = ended_by t w.covers w.marks (whole_first w c) (own_calls w c payload o) p.0 p.1 p.3 p.4 (stands_alone w c payload o);
    }

-- whatever a command was answered, its driver calls are what its zeroings promise
pub promised : (w : WireState) (d : DriverState) → Agrees w d → (c : Command) (payload : List ℕ) (o : Oracle) (es : List DriverEntry) → calls_in es ≡ command_calls w c payload o → IsPromised w.es d c es
promised w d agree c payload o es h = promised_by w d agree c payload o es (command_refusal w.es c payload) refl h
