-- The laws of CopyTexImage2D and CopyTexSubImage2D, behind the zeroing of the image that is read.
use Rattle.std.proofs.Common.{◌≡◌, ◌<◌, ◌≤◌, ◌==◌, ◌&&◌, ◌||◌, ◌-◌, ℕ, ℤ, pos, Bool, true, false, not, if◌then◌else◌, List, [], ◌∷◌, ◌++◌, Option, None, Some, is_none, refl, sym, ap, ◌∙◌, subst, arith}
use Rattle.std.proofs.lemmas.Bool.{and_parts, eq-eqb}
use Rattle.std.proofs.lemmas.Bool.Decides.{nat_tests}
use Rattle.gl_base.specs.declared.gl_enum.GlEnum.{GlEnum}
use Rattle.gl_base.specs.declared.rect.Rect.{Rect}
use Rattle.gl_base.specs.declared.enums.TheConstants.{UNSIGNED_BYTE}
use Rattle.gl_base.specs.PixelSizes.{pixel_bytes}
use Rattle.gl_base.specs.Rects.{IsIn, is_empty, union_of, whole}
use Rattle.gl_plain.specs.declared.targets.AnyImage.{AnyImage}
use Rattle.gl_plain.specs.Covers.{all_filled, all_marked}
use Rattle.gl_plain.specs.image.Covers.{part_first}
use Rattle.gl_base.proofs.Rects.{whole_has}
use Rattle.gl_plain.specs.declared.image_words.CopyWords.{CopyWords}
use Rattle.gl_plain.specs.declared.image_words.CopyPartWords.{CopyPartWords}
use Rattle.gl_plain.specs.declared.commands.ImageCommand.TheVariants.{CopyTexImage2D, CopyTexSubImage2D}
use Rattle.gl_plain.specs.declared.driver_calls.Answer.{Answer}
use Rattle.gl_plain.specs.declared.driver_calls.Answer.TheVariants.{Done, Name, Oom, Compile, Link, Validate, Pixels}
use Rattle.gl_plain.specs.declared.driver_calls.DriverCall.{DriverCall}
use Rattle.gl_plain.specs.declared.driver_calls.DriverCall.TheVariants.{Image}
use Rattle.gl_plain.specs.declared.driver_calls.ImageDriver.TheVariants as calls
use Rattle.gl_plain.specs.declared.driver_calls.DriverEntry.{DriverEntry}
use Rattle.gl_plain.specs.declared.errors.GlError.TheVariants.{InvalidEnum, InvalidValue, InvalidOperation, InvalidFramebufferOperation}
use Rattle.gl_plain.specs.declared.textures.ImagePlace.{ImagePlace}
use Rattle.gl_plain.specs.declared.textures.LevelView.{LevelView}
use Rattle.gl_plain.specs.subjects.Levels.{is_cube_face, is_image_target}
use Rattle.gl_plain.specs.subjects.Textures.{TextureObjects, place_bound}
use Rattle.gl_plain.specs.subjects.Targets.{Drawable, colour_images, colour_view, is_incomplete, target_of}
use Rattle.gl_plain.specs.subjects.Images.{AreWritten, Contents, Covers, IsColourWritten, IsCover, IsScreenWritten, Made, Marks, Pixel, Zero, counted, extended, extended_by, has_good_sides, leaves_level, is_defined, is_format, is_level, is_zero, read_contents, read_pixel, tex_image_effect, tex_image_refusal, view_of, with_cover, with_image, with_pixels}
use Rattle.gl_plain.specs.subjects.Copies.{copied_pixel, copy_image, copy_part_level, copy_part_place, copy_place, copy_rect, copy_tex_sub_image_contents, copy_tex_sub_image_refusal, is_wrong_part, part_copied, copy_tex_image_contents, copy_tex_image_refusal, copy_words, is_readable, is_wrong_source}
use Rattle.gl_plain.specs.Words.{is_negative, natural}
use Rattle.gl_plain.specs.Oracle.{Oracle}
use Rattle.gl_plain.specs.State.{DriverState, EsState, drawable_in, drawable_of}
use Rattle.gl_plain.specs.driver.Allowed.{IsAllowed}
use Rattle.gl_plain.specs.driver.Answers.{told}
use Rattle.gl_plain.specs.Journal.{IsLegal, records_in, state_after}
use Rattle.gl_plain.specs.Parts.{calls_in}
use Rattle.gl_plain.specs.Records.{CopyRecord, Record, copy_part_records, copy_record, format_of}
use Rattle.gl_plain.specs.Agreement.{ImagesAgree, TablesAgree}
use Rattle.gl_laws.proofs.Drawables.{same_drawable}
use Rattle.gl_laws.proofs.ImageCommands.{ImageLaws}
use Rattle.gl_laws.proofs.Images.{ImageLeaves, ImageLeft, ImageMayGoOn, IsJoined, bound_here, images_extended, images_new, inside_of, part_joined, levels_after, sound_after, textures_agree}
use Rattle.gl_laws.proofs.Lists.{entry, front_of_one, no_entry, not_nil, one_entry}
use Rattle.gl_laws.proofs.MadeImages.{colour_is_written, colours_read, written_first}
use Rattle.gl_laws.proofs.Pixels.{read_image, read_written}
use Rattle.gl_laws.proofs.Refusals.{not_false, not_refused_by, or_false}
use Rattle.gl_laws.proofs.Tables.{with_errors}

-- What is so of a copy that is not refused

pub record IsFineCopy (b : Drawable) (c : CopyWords) : Type 0 where
  target_is : is_image_target c.target ≡ true
  format_is : is_format c.internal ≡ true
  level_is : is_level c.level ≡ true
  sides_are : has_good_sides (copy_image c) ≡ true
  border_is : is_zero c.border ≡ true
  complete : is_incomplete b ≡ false
  pub source : is_wrong_source b c.target c.internal ≡ false

pub fine_copy : (b : Drawable) (c : CopyWords) → copy_tex_image_refusal b c ≡ None → IsFineCopy b c
fine_copy b c is =
    let x = not_refused_by (not (is_image_target c.target && is_format c.internal)) InvalidEnum _ is in
    let y = not_refused_by (not (is_level c.level && has_good_sides (copy_image c) && is_zero c.border)) InvalidValue _ x.1 in
    let z = not_refused_by (is_incomplete b) InvalidFramebufferOperation _ y.1 in
    let u = not_refused_by (is_wrong_source b c.target c.internal) InvalidOperation None z.1 in
    let names = and_parts (is_image_target c.target) (is_format c.internal) (not_false _ x.0) in
    let values = and_parts (is_level c.level && has_good_sides (copy_image c)) (is_zero c.border) (not_false _ y.0) in
    let sides = and_parts (is_level c.level) (has_good_sides (copy_image c)) values.0 in
    record { target_is = names.0; format_is = names.1; level_is = sides.0; sides_are = sides.1; border_is = values.1; complete = z.0; source = u.0 }

-- each format has pixels of UNSIGNED_BYTE
pair_is : (format : GlEnum) → is_format format ≡ true → is_none (pixel_bytes format UNSIGNED_BYTE) ≡ false
pair_is format h = grind (arith, nat_tests)

-- the image that it makes is one that TexImage2D takes
pub as_image : (b : Drawable) (c : CopyWords) → IsFineCopy b c → tex_image_refusal (copy_image c) ≡ None
as_image b c fine = λ j.
    if not (fine.target_is j && fine.format_is j && true) then Some InvalidEnum
    else if not (fine.level_is j && fine.format_is j && fine.sides_are j && fine.border_is j) then Some InvalidValue
    else if not (eq-eqb c.internal.0 c.internal.0 refl j) || pair_is c.internal fine.format_is j then Some InvalidOperation else None

-- What is copied

-- it was written, and reads as itself
copied_is : (b : Bool) (n : ℕ) → is_defined (if b then Made n else Zero) ≡ true
copied_is true n = refl
copied_is false n = refl

read_copied : (b : Bool) (n : ℕ) → read_pixel (if b then Made n else Zero) ≡ (if b then Made n else Zero)
read_copied true n = refl
read_copied false n = refl

module _ (s : EsState) (d : DriverState) (a : TablesAgree s d.tables) where
  driver_drawable : drawable_in d.tables ≡ drawable_of s
  driver_drawable = sym (same_drawable s d.tables a)

  module _ (c : CopyWords) (allowed : copy_tex_image_refusal (drawable_of s) c ≡ None) where
    fine : IsFineCopy (drawable_of s) c
    fine = fine_copy (drawable_of s) c allowed

    abbrev copy_call : DriverCall
    copy_call = Image (calls.CopyTexImage c.target c.level c.internal c.x c.y c.width c.height)

    abbrev IsSourceWritten : Type 0
    IsSourceWritten = AreWritten s.textures.objects s.renderbuffers.objects d.contents (colour_images (target_of s.framebuffers))

    copy_allowed : IsScreenWritten d.contents.screen → IsSourceWritten → IsAllowed d copy_call
    copy_allowed screen all = record {
      fair = λ j. if not (fine.target_is j && fine.format_is j) then Some InvalidEnum
          else if not (fine.level_is j && fine.sides_are j && is_zero (pos 0)) then Some InvalidValue
          else if (ap is_incomplete driver_drawable ∙ fine.complete) j then Some InvalidFramebufferOperation
          else if (ap (λ (b : Drawable). is_wrong_source b c.target c.internal) driver_drawable ∙ fine.source) j then Some InvalidOperation else None;
      written = subst (λ (b : Drawable). IsColourWritten b d.contents b.target) (sym driver_drawable) (colour_is_written (drawable_of s) d.contents (target_of s.framebuffers) screen all);
    }

    copy_may : (payload : List ℕ) → IsScreenWritten d.contents.screen → IsSourceWritten → ImageMayGoOn s d (CopyTexImage2D c) payload
    copy_may payload screen all es next more h = front_of_one (λ (gs : List DriverEntry) (x : DriverCall). IsAllowed (state_after d gs) x) copy_call (copy_allowed screen all) es next more h

    -- What it leaves

    abbrev new_view : LevelView
    new_view = view_of (copy_image c)

    abbrev place : ImagePlace
    place = copy_place s.textures.objects c

    abbrev after : TextureObjects → TextureObjects
    after t = tex_image_effect t c.target (natural c.level) new_view

    abbrev copied : Contents → ℕ → ℕ → Pixel
    copied k = copied_pixel k (colour_view (drawable_of s)) c.x c.y

    -- no pixel is copied
    abbrev copies_nothing : Bool
    copies_nothing = (natural c.width == 0) || (natural c.height == 0)

    copied_covers : IsCover new_view (whole (natural c.width) (natural c.height)) (copied d.contents)
    copied_covers = record {
      inside = (omega arith, omega arith);
      exact = λ x y xw yh. copied_is (is_readable (colour_view (drawable_of s)) c.x c.y x y) d.contents.records ∙ sym (whole_has (natural c.width) (natural c.height) x y xw yh);
    }

    read_copy : read_contents (with_image d.contents place (copied d.contents)) ≡ with_image (read_contents d.contents) place (copied (read_contents d.contents))
    read_copy = read_image d.contents place (copied d.contents)
        ∙ (λ j. with_image (read_contents d.contents) place (λ x y. read_copied (is_readable (colour_view (drawable_of s)) c.x c.y x y) d.contents.records j))

    -- by whether no pixel is copied
    abbrev contents_if : Bool → Contents → Contents
    contents_if nothing k = if nothing then with_image k place (copied k) else counted (with_image k place (copied k))

    reads_if : (nothing : Bool) → read_contents (contents_if nothing d.contents) ≡ contents_if nothing (read_contents d.contents)
    reads_if true = read_copy
    reads_if false = λ i. counted (read_copy i)

    module _ (f : Covers) (m : Marks) (agree : ImagesAgree s.textures.objects s.renderbuffers.objects f m d.contents) (all : IsSourceWritten) where
      abbrev covers_after : Covers
      covers_after = with_cover f place (whole (natural c.width) (natural c.height))

      image_new : ImagesAgree (after s.textures.objects) s.renderbuffers.objects covers_after m (with_image d.contents place (copied d.contents))
      image_new = images_new s.textures.objects (after s.textures.objects) s.renderbuffers.objects f m d.contents agree place new_view (whole (natural c.width) (natural c.height)) (copied d.contents) copied_covers
          (levels_after s d a (copy_image c) (as_image (drawable_of s) c fine) (bound_here s d a (is_cube_face c.target)))

      images_if : (nothing : Bool) → ImagesAgree (after s.textures.objects) s.renderbuffers.objects covers_after m (contents_if nothing d.contents)
      images_if true = image_new
      images_if false = record { covers = image_new.covers; marks = image_new.marks; screen = image_new.screen }

      -- the record of the copy is that of what is read
      source_read : copy_record (drawable_in d.tables) d.contents c.x c.y c.width c.height c.internal ≡ copy_record (drawable_of s) (read_contents d.contents) c.x c.y c.width c.height c.internal
      source_read = (λ i. copy_record (driver_drawable i) d.contents c.x c.y c.width c.height c.internal) ∙ (λ i. CopyRecord (record {
        colour = colours_read (drawable_of s) d.contents (target_of s.framebuffers) (colour_is_written (drawable_of s) d.contents (target_of s.framebuffers) agree.screen all) i;
        x = c.x;
        y = c.y;
        width = c.width;
        height = c.height;
        format = c.internal;
      }))

      records_if : (nothing : Bool) → (if nothing then [] else copy_record (drawable_in d.tables) d.contents c.x c.y c.width c.height c.internal ∷ []) ++ []
          ≡ (if nothing then [] else copy_record (drawable_of s) (read_contents d.contents) c.x c.y c.width c.height c.internal ∷ [])
      records_if true = refl
      records_if false = λ i. source_read i ∷ []

      copy_by : (payload : List ℕ) (o : Oracle) (answer : Answer) → IsLegal d (entry copy_call answer ∷ []) → ImageLeft s d f m (CopyTexImage2D c) payload (told (entry copy_call answer ∷ []) o) o (entry copy_call answer ∷ [])
      copy_by payload o Done l = record {
        asked = refl;
        tables = textures_agree s d a (after s.textures.objects) (after d.tables.textures.objects) (ap after a.textures.objects) (sound_after s d a (copy_image c) (as_image (drawable_of s) c fine) (bound_here s d a (is_cube_face c.target)));
        images = subst (λ (b : Drawable). ImagesAgree (after s.textures.objects) s.renderbuffers.objects covers_after m (copy_tex_image_contents b c d.contents)) (sym driver_drawable) (images_if copies_nothing);
        contents = ap (λ (b : Drawable). read_contents (copy_tex_image_contents b c d.contents)) driver_drawable ∙ reads_if copies_nothing;
        records = records_if copies_nothing;
      }
      copy_by payload o Oom l = record { asked = refl; tables = with_errors s d.tables _ a; images = agree; contents = refl; records = refl }
      copy_by payload o (Name n) l = absurd l.0.answered
      copy_by payload o (Compile ok log) l = absurd l.0.answered
      copy_by payload o (Link answer) l = absurd l.0.answered
      copy_by payload o (Validate ok log) l = absurd l.0.answered
      copy_by payload o (Pixels rows) l = absurd l.0.answered

      copy_leaves : (payload : List ℕ) → ImageLeaves s d f m (CopyTexImage2D c) payload
      copy_leaves payload o es l h = one_entry (λ (gs : List DriverEntry). IsLegal d gs → ImageLeft s d f m (CopyTexImage2D c) payload (told gs o) o gs) copy_call (copy_by payload o) es h l

-- A part

pub record IsFineCopyPart (b : Drawable) (c : CopyPartWords) : Type 0 where
  pub view : LevelView
  pub is : copy_part_level b.textures c ≡ Some view
  pub inside : IsIn (copy_rect c) view.width view.height
  pub source : is_wrong_source b c.target view.format ≡ false

fine_part_by : (b : Drawable) (c : CopyPartWords) (o : Option LevelView) → copy_part_level b.textures c ≡ o → leaves_level o (copy_rect c) ≡ false → is_wrong_part b c.target o ≡ false → IsFineCopyPart b c
fine_part_by b c None is within right = absurd (cc)
fine_part_by b c (Some v) is within right = record { view = v; is = is; inside = inside_of v (copy_rect c) within; source = right }

pub fine_copy_part : (b : Drawable) (c : CopyPartWords) → copy_tex_sub_image_refusal b c ≡ None → IsFineCopyPart b c
fine_copy_part b c is =
    let x = not_refused_by (not (is_image_target c.target)) InvalidEnum _ is in
    let y = not_refused_by (not (is_level c.level) || is_negative c.xoffset || is_negative c.yoffset || is_negative c.width || is_negative c.height || leaves_level (copy_part_level b.textures c) (copy_rect c)) InvalidValue _ x.1 in
    let z = not_refused_by (is_incomplete b) InvalidFramebufferOperation _ y.1 in
    let u = not_refused_by (is_wrong_part b c.target (copy_part_level b.textures c)) InvalidOperation None z.1 in
    let values = or_false (not (is_level c.level) || is_negative c.xoffset || is_negative c.yoffset || is_negative c.width || is_negative c.height) (leaves_level (copy_part_level b.textures c) (copy_rect c)) y.0 in
    fine_part_by b c (copy_part_level b.textures c) refl values.1 u.0

module _ (s : EsState) (d : DriverState) (a : TablesAgree s d.tables) (c : CopyPartWords) (allowed : copy_tex_sub_image_refusal (drawable_of s) c ≡ None) where
  abbrev part_call : DriverCall
  part_call = Image (calls.CopyTexSubImage c)

  part_fine : IsFineCopyPart (drawable_of s) c
  part_fine = fine_copy_part (drawable_of s) c allowed

  abbrev IsPartWritten : List AnyImage → Type 0
  IsPartWritten xs = AreWritten s.textures.objects s.renderbuffers.objects d.contents xs

  abbrev read_images : List AnyImage
  read_images = colour_images (target_of s.framebuffers)

  -- what is needed written, by whether no pixel is copied
  abbrev first_if : Covers → Bool → List AnyImage
  first_if f nothing = if nothing then [] else read_images ++ part_first f (copy_part_place s.textures.objects c) (copy_rect c)

  abbrev calls_if : Bool → List DriverCall
  calls_if nothing = if nothing then [] else part_call ∷ []

  source_first : (f : Covers) → IsPartWritten (first_if f false) → IsPartWritten read_images
  source_first f all = written_first s.textures.objects s.renderbuffers.objects d.contents read_images (part_first f (copy_part_place s.textures.objects c) (copy_rect c)) all

  part_allowed : IsScreenWritten d.contents.screen → IsPartWritten read_images → IsAllowed d part_call
  part_allowed screen all = record {
    fair = ap (λ (b : Drawable). copy_tex_sub_image_refusal b c) (driver_drawable s d a) ∙ allowed;
    written = subst (λ (b : Drawable). IsColourWritten b d.contents b.target) (sym (driver_drawable s d a)) (colour_is_written (drawable_of s) d.contents (target_of s.framebuffers) screen all);
  }

  part_may : (f : Covers) (payload : List ℕ) → IsScreenWritten d.contents.screen → IsPartWritten (first_if f (is_empty (copy_rect c))) → ImageMayGoOn s d (CopyTexSubImage2D c) payload
  part_may f payload screen all es next more h = elim (is_empty (copy_rect c)) as (λ b. IsPartWritten (first_if f b) → calls_in es ++ next ∷ more ≡ calls_if b → IsAllowed (state_after d es) next) [
    | true ↦ λ all h. absurd (not_nil (calls_in es) next more h)
    | false ↦ λ all h. front_of_one (λ (gs : List DriverEntry) (x : DriverCall). IsAllowed (state_after d gs) x) part_call (part_allowed screen (source_first f all)) es next more h
  ] all h

  -- what is left, with these rectangles written, these contents and these records
  record PartLeft (f : Covers) (m : Marks) (k : Contents) (made : List Record) (o : Oracle) (es : List DriverEntry) : Type 0 where
    asked : told es o ≡ o
    tables : TablesAgree s (state_after d es).tables
    images : ImagesAgree s.textures.objects s.renderbuffers.objects f m (state_after d es).contents
    contents : read_contents (state_after d es).contents ≡ k
    records : records_in d es ≡ made

  abbrev part_place_is : ImagePlace
  part_place_is = copy_part_place s.textures.objects c

  abbrev part_pixels : Contents → ℕ → ℕ → Pixel
  part_pixels k = part_copied k (colour_view (drawable_of s)) c

  abbrev covers_if : Covers → Bool → Covers
  covers_if f nothing = if nothing then f else with_cover f part_place_is (extended (f part_place_is) (copy_rect c))

  abbrev part_contents_if : Contents → Bool → Contents
  part_contents_if k nothing = if nothing then k else copy_tex_sub_image_contents (drawable_of s) c k

  abbrev part_records_if : Contents → Bool → List Record
  part_records_if k nothing = if nothing then [] else copy_part_records (drawable_of s) k c

  read_part : read_contents (copy_tex_sub_image_contents (drawable_of s) c d.contents) ≡ copy_tex_sub_image_contents (drawable_of s) c (read_contents d.contents)
  read_part = λ i. counted (read_written d.contents part_place_is (copy_rect c) (part_pixels d.contents) (λ x y. copied_is (is_readable (colour_view (drawable_of s)) c.x c.y (x - natural c.xoffset) (y - natural c.yoffset)) d.contents.records) i)

  module _ (f : Covers) (m : Marks) (agree : ImagesAgree s.textures.objects s.renderbuffers.objects f m d.contents) where
    part_extended : (u : Rect) → union_of (f part_place_is) (copy_rect c) ≡ Some u → ImagesAgree s.textures.objects s.renderbuffers.objects (covers_if f false) m (copy_tex_sub_image_contents (drawable_of s) c d.contents)
    part_extended u joined =
        let made = subst (λ (w : Rect). ImagesAgree s.textures.objects s.renderbuffers.objects (with_cover f part_place_is w) m (with_pixels d.contents part_place_is (copy_rect c) (part_pixels d.contents))) (sym (ap (extended_by (f part_place_is)) joined))
        (images_extended s.textures.objects s.renderbuffers.objects f m d.contents agree part_place_is part_fine.view (copy_rect c) u (part_pixels d.contents) part_fine.is part_fine.inside joined
        (λ x y. copied_is (is_readable (colour_view (drawable_of s)) c.x c.y (x - natural c.xoffset) (y - natural c.yoffset)) d.contents.records)) in
        record { covers = made.covers; marks = made.marks; screen = made.screen }

    part_source_read : IsPartWritten read_images → copy_part_records (drawable_in d.tables) d.contents c ≡ copy_part_records (drawable_of s) (read_contents d.contents) c
    part_source_read all = (λ i. copy_part_records (driver_drawable s d a i) d.contents c) ∙ (λ i. CopyRecord (record {
      colour = colours_read (drawable_of s) d.contents (target_of s.framebuffers) (colour_is_written (drawable_of s) d.contents (target_of s.framebuffers) agree.screen all) i;
      x = c.x;
      y = c.y;
      width = c.width;
      height = c.height;
      format = format_of (copy_part_level s.textures.objects c);
    }) ∷ [])

    part_copied_by : IsPartWritten read_images → (u : Rect) → union_of (f part_place_is) (copy_rect c) ≡ Some u → (o : Oracle) (answer : Answer)
        → PartLeft (covers_if f false) m (part_contents_if (read_contents d.contents) false) (part_records_if (read_contents d.contents) false) o (entry part_call answer ∷ [])
    part_copied_by all u joined o answer = record {
      asked = refl;
      tables = a;
      images = subst (λ (b : Drawable). ImagesAgree s.textures.objects s.renderbuffers.objects (covers_if f false) m (copy_tex_sub_image_contents b c d.contents)) (sym (driver_drawable s d a)) (part_extended u joined);
      contents = ap (λ (b : Drawable). read_contents (copy_tex_sub_image_contents b c d.contents)) (driver_drawable s d a) ∙ read_part;
      records = part_source_read all;
    }

    part_nothing : (o : Oracle) → PartLeft (covers_if f true) m (part_contents_if (read_contents d.contents) true) (part_records_if (read_contents d.contents) true) o []
    part_nothing o = record { asked = refl; tables = a; images = agree; contents = refl; records = refl }

  -- by whether no pixel is copied
  part_left_by : (f : Covers) (m : Marks) (nothing : Bool) → IsPartWritten (first_if f nothing)
      → ImagesAgree s.textures.objects s.renderbuffers.objects (all_filled s.textures.objects f (first_if f nothing)) (all_marked m (first_if f nothing)) d.contents → (o : Oracle) (es : List DriverEntry) → calls_in es ≡ calls_if nothing
      → PartLeft (covers_if (all_filled s.textures.objects f (first_if f nothing)) nothing) (all_marked m (first_if f nothing)) (part_contents_if (read_contents d.contents) nothing) (part_records_if (read_contents d.contents) nothing) o es
  part_left_by f m true all agree o es h = no_entry (PartLeft f m (read_contents d.contents) [] o) (part_nothing f m agree o) es h
  part_left_by f m false all agree o es h =
      let behind = all_filled s.textures.objects f (first_if f false) in
      let joined : IsJoined behind part_place_is (copy_rect c) = part_joined s.textures.objects part_place_is (copy_rect c) part_fine.view part_fine.is part_fine.inside f read_images in
      one_entry (PartLeft (covers_if behind false) (all_marked m (first_if f false)) (part_contents_if (read_contents d.contents) false) (part_records_if (read_contents d.contents) false) o) part_call
      (part_copied_by behind (all_marked m (first_if f false)) agree (source_first f all) joined.0 joined.1 o) es h

-- The laws

pub copy_laws : (s : EsState) (d : DriverState) (a : TablesAgree s d.tables) (f : Covers) (m : Marks) (copy : CopyWords) → ImageLaws s d f m (CopyTexImage2D copy)
copy_laws s d a f m copy = record {
  may = λ payload allowed screen written. copy_may s d a copy allowed payload screen written;
  leaves = λ payload allowed written agree. copy_leaves s d a copy allowed _ _ agree written payload;
}

pub copy_part_laws : (s : EsState) (d : DriverState) (a : TablesAgree s d.tables) (f : Covers) (m : Marks) (copy : CopyPartWords) → ImageLaws s d f m (CopyTexSubImage2D copy)
copy_part_laws s d a f m copy = record {
  may = λ payload allowed screen written. part_may s d a copy allowed f payload screen written;
  leaves = λ payload allowed written agree o es l h.
      let left = part_left_by s d a copy allowed f m (is_empty (copy_rect copy)) written agree o es h in
      record { asked = left.asked; tables = left.tables; images = left.images; contents = left.contents; records = left.records };
}
