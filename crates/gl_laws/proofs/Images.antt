-- What the own laws of commands on images say, and those of TexImage2D, TexSubImage2D and TexParameteri, in the state behind their zeroings.
-- Each makes one driver call.
use Rattle.std.proofs.Common.{◌≡◌, ◌≤◌, ℕ, ℤ, pos, ◌*◌, ◌/◌, ◌^◌, ◌==◌, Bool, true, false, not, ◌&&◌, ◌||◌, nat_le, if◌then◌else◌, List, [], ◌∷◌, ◌++◌, Option, None, Some, is_none, refl, sym, ap, ◌∙◌, subst, arith}
use Rattle.std.proofs.lemmas.Bool.{and_parts, eq-eqb, leb-true, not-false, not-true, or_parts}
use Rattle.std.proofs.lemmas.Bool.Decides.{nat_tests}
use Rattle.std.proofs.Math.Bool.{or_comm}
use Rattle.std.proofs.Math.Nat.{div-le_self}
use Rattle.gl_base.specs.declared.gl_enum.GlEnum.{GlEnum}
use Rattle.gl_base.specs.declared.limits.TheConstants.{SIDE_LIMIT, LAST_LEVEL}
use Rattle.gl_base.specs.declared.texture_enums.TheConstants.{TEXTURE_2D}
use Rattle.gl_base.specs.declared.rect.Rect.{Rect}
use Rattle.gl_base.specs.Rects.{has, IsIn, whole, union_of}
use Rattle.gl_base.specs.PixelSizes.{pixel_bytes, pixel_size}
use Rattle.gl_base.proofs.Rects.{whole_has}
use Rattle.gl_base.proofs.Unions.{union_is, union_in, union_whole}
use Rattle.gl_plain.specs.declared.calls.Payload.{Payload}
use Rattle.gl_plain.specs.declared.calls.Payload.TheVariants.{Absent, Here}
use Rattle.gl_plain.specs.declared.commands.DataWords.{DataWords}
use Rattle.gl_plain.specs.declared.commands.ImageCommand.{ImageCommand}
use Rattle.gl_plain.specs.declared.commands.ImageCommand.TheVariants.{TexImage2D, TexSubImage2D, TexParameteri}
use Rattle.gl_plain.specs.declared.driver_calls.Answer.{Answer}
use Rattle.gl_plain.specs.declared.driver_calls.Answer.TheVariants.{Done, Name, Oom, Compile, Link, Validate, Pixels}
use Rattle.gl_plain.specs.declared.driver_calls.DriverCall.{DriverCall}
use Rattle.gl_plain.specs.declared.driver_calls.DriverCall.TheVariants.{Image}
use Rattle.gl_plain.specs.declared.driver_calls.DriverEntry.{DriverEntry}
use Rattle.gl_plain.specs.declared.driver_calls.ImageDriver.TheVariants as calls
use Rattle.gl_plain.specs.declared.errors.GlError.{GlError}
use Rattle.gl_plain.specs.declared.errors.GlError.TheVariants.{InvalidEnum, InvalidValue, InvalidOperation}
use Rattle.gl_plain.specs.declared.image_words.ImageWords.{ImageWords}
use Rattle.gl_plain.specs.declared.image_words.PartWords.{PartWords}
use Rattle.gl_plain.specs.declared.raster.WordRule.TheVariants.{Alignment}
use Rattle.gl_plain.specs.declared.textures.ImagePlace.{ImagePlace}
use Rattle.gl_plain.specs.declared.textures.LevelView.{LevelView}
use Rattle.gl_plain.specs.declared.textures.Texture.{Texture}
use Rattle.gl_plain.specs.Words.{is_negative, natural}
use Rattle.gl_plain.specs.subjects.Data.{IsData, payload_of, has_no_data, has_needed_data}
use Rattle.gl_plain.specs.subjects.Levels.{is_image_target, is_cube_face, is_cube_target, suits, with_level}
use Rattle.gl_plain.specs.subjects.Textures.{TextureObjects, AreTexturesSound, HasLevels, IsOfKind, bound_number, bound_texture, with_texture, place_bound, level_at, with_parameter, tex_parameter_by, tex_parameter_effect, tex_parameter_refusal}
use Rattle.gl_plain.specs.subjects.Images.{Pixel, Undefined, Contents, Covers, Marks, IsCover, IsCovered, is_defined, is_place, is_format, is_pixel_kind, is_level, is_side, is_zero, is_square, is_level_side, has_good_sides, image_needed, image_words, tex_image_is_bad, tex_sub_image_is_bad, tex_image_refusal, tex_sub_image_refusal, tex_image_by, tex_image_effect, view_of, part_rect, part_level, leaves_level, differs_from_level, with_image, with_pixels, new_pixels, pixels_of, read_contents, unpadded_part, unpadded_payload, HasLength, with_cover, new_cover, no_rect, extended, extended_by}
use Rattle.gl_plain.specs.subjects.Raster.{is_wrong_value}
use Rattle.gl_plain.specs.declared.targets.AnyImage.{AnyImage}
use Rattle.gl_plain.specs.declared.targets.AnyImage.TheVariants as any
use Rattle.gl_plain.specs.subjects.Targets.{Renderbuffers}
use Rattle.gl_plain.specs.Oracle.{Oracle}
use Rattle.gl_plain.specs.State.{EsState, DriverState}
use Rattle.gl_plain.specs.Covers.{filled, all_filled}
use Rattle.gl_plain.specs.driver.Allowed.{IsAllowed}
use Rattle.gl_plain.specs.driver.Answers.{told}
use Rattle.gl_plain.specs.driver.Effect.{objects_in}
use Rattle.gl_plain.specs.Journal.{IsLegal, state_after, records_in}
use Rattle.gl_plain.specs.Parts.{calls_in}
use Rattle.gl_plain.specs.Records.{image_contents, image_records}
use Rattle.gl_plain.specs.Agreement.{TablesAgree, ImagesAgree}
use Rattle.gl_plain.specs.image.Calls.{own_image_calls}
use Rattle.gl_plain.specs.image.Covers.{part_place, part_first, image_whole_first, image_covers, image_marks}
use Rattle.gl_plain.specs.image.Step.{with_objects, image_step}
use Rattle.gl_laws.proofs.Lists.{entry, one_entry, front_of_one}
use Rattle.gl_laws.proofs.Tables.{with_errors, with_textures}
use Rattle.gl_laws.proofs.Places.{at_place, place_is, cover_here, cover_elsewhere}
use Rattle.gl_laws.proofs.Pixels.{read_image, read_new, read_written, defined_here, pixels_elsewhere}
use Rattle.gl_laws.proofs.Zeroing.{IsWholeOf, filled_elsewhere, filled_whole}
use Rattle.gl_laws.proofs.ImageSizes.{unpadded_bytes, all_needed, just_needed}
use Rattle.gl_laws.proofs.ImageTables.{level_sized, level_small, levels_kept, levels_written, parameter_kind, parameter_levels, parameter_sized, sound_with, texture_sized}

-- what the calls of a command leave, where it is given the answers of `before` and hands on those of `after`
pub record ImageLeft (s : EsState) (d : DriverState) (f : Covers) (m : Marks) (c : ImageCommand) (payload : List ℕ) (before after : Oracle) (es : List DriverEntry) : Type 0 where
  pub asked : (image_step s c payload before).oracle ≡ after
  pub tables : TablesAgree (image_step s c payload before).state (state_after d es).tables
  pub images : ImagesAgree (image_step s c payload before).state.textures.objects (image_step s c payload before).state.renderbuffers.objects (image_covers s c payload before f) (image_marks s c before m) (state_after d es).contents
  pub contents : read_contents (state_after d es).contents ≡ image_contents s c payload before (read_contents d.contents)
  pub records : records_in d es ≡ image_records s c before (read_contents d.contents)

-- behind any of its own calls that a command has made, the next one is allowed
abbrev pub ImageMayGoOn : EsState → DriverState → ImageCommand → List ℕ → Type 0
ImageMayGoOn s d c payload = (es : List DriverEntry) (next : DriverCall) (more : List DriverCall) → calls_in es ++ next ∷ more ≡ own_image_calls s c payload → IsAllowed (state_after d es) next

-- what all its own calls leave
abbrev pub ImageLeaves : EsState → DriverState → Covers → Marks → ImageCommand → List ℕ → Type 0
ImageLeaves s d f m c payload = (o : Oracle) (es : List DriverEntry) → IsLegal d es → calls_in es ≡ own_image_calls s c payload → ImageLeft s d f m c payload (told es o) o es

-- Where nothing is refused

pub none_of_three : (p q r : Bool) (x y z : GlError) → (if p then Some x else if q then Some y else if r then Some z else None) ≡ None → (p ≡ false) × (q ≡ false) × (r ≡ false)
none_of_three true q r x y z h = absurd (cc)
none_of_three false true r x y z h = absurd (cc)
none_of_three false false true x y z h = absurd (cc)
none_of_three false false false x y z h = (refl, refl, refl)

-- a side of a level is within the greatest of all
side_within : (level : ℕ) (side : ℤ) → is_side level side ≡ true → (is_negative side ≡ false) × (natural side ≤ SIDE_LIMIT)
side_within level side h =
    let p = and_parts (not (is_negative side)) (nat_le (natural side) (SIDE_LIMIT / 2 ^ level)) h in
    let least : natural side ≤ SIDE_LIMIT / 2 ^ level = leb-true (natural side) (SIDE_LIMIT / 2 ^ level) p.1 in
    let most : SIDE_LIMIT / 2 ^ level ≤ SIDE_LIMIT = div-le_self SIDE_LIMIT (2 ^ level) in
    (not-true (is_negative side) p.0, omega (arith, least, most))

-- an image that is not refused
pub record IsFineImage (i : ImageWords) : Type 0 where
  pub target_is : is_image_target i.target ≡ true
  pub format_is : is_format i.format ≡ true
  pub kind_is : is_pixel_kind i.kind ≡ true
  pub level_is : is_level i.level ≡ true
  pub sides_are : has_good_sides i ≡ true
  pub pair_is : is_none (pixel_bytes i.format i.kind) ≡ false

pub fine_image : (i : ImageWords) → tex_image_refusal i ≡ None → IsFineImage i
fine_image i h =
    let n = none_of_three (not (is_image_target i.target && is_format i.format && is_pixel_kind i.kind)) (not (is_level i.level && is_format i.internal && has_good_sides i && is_zero i.border))
    (not (i.internal.0 == i.format.0) || is_none (pixel_bytes i.format i.kind)) InvalidEnum InvalidValue InvalidOperation h in
    let enums = and_parts (is_image_target i.target && is_format i.format) (is_pixel_kind i.kind) (not-false _ n.0) in
    let names = and_parts (is_image_target i.target) (is_format i.format) enums.0 in
    let values = and_parts (is_level i.level && is_format i.internal && has_good_sides i) (is_zero i.border) (not-false _ n.1) in
    let sides = and_parts (is_level i.level && is_format i.internal) (has_good_sides i) values.0 in
    record {
      target_is = names.0;
      format_is = names.1;
      kind_is = enums.1;
      level_is = (and_parts (is_level i.level) (is_format i.internal) sides.0).0;
      sides_are = sides.1;
      pair_is = (or_parts (not (i.internal.0 == i.format.0)) (is_none (pixel_bytes i.format i.kind)) n.2).1;
    }

-- a driver is given an image that is not refused either
again : (i : ImageWords) → IsFineImage i → tex_image_refusal (image_words i.target i.level i.format i.kind i.width i.height) ≡ None
again i fine = λ j.
    if not (fine.target_is j && fine.format_is j && fine.kind_is j) then Some InvalidEnum
    else if not (fine.level_is j && fine.format_is j && fine.sides_are j && is_zero (pos 0)) then Some InvalidValue
    else if not (eq-eqb i.format.0 i.format.0 refl j) || fine.pair_is j then Some InvalidOperation else None

module _ (i : ImageWords) (fine : IsFineImage i) where
  abbrev level_number : ℕ
  level_number = natural i.level

  good_sides : (is_side level_number i.width ≡ true) × (is_side level_number i.height ≡ true)
  good_sides =
      let last = and_parts (is_side level_number i.width && is_side level_number i.height && (not (is_cube_face i.target) || is_square i.width i.height) && is_level_side level_number i.width) (is_level_side level_number i.height) fine.sides_are in
      let first = and_parts (is_side level_number i.width && is_side level_number i.height && (not (is_cube_face i.target) || is_square i.width i.height)) (is_level_side level_number i.width) last.0 in
      let square = and_parts (is_side level_number i.width && is_side level_number i.height) (not (is_cube_face i.target) || is_square i.width i.height) first.0 in
      and_parts (is_side level_number i.width) (is_side level_number i.height) square.0

  pub width_within : (is_negative i.width ≡ false) × (natural i.width ≤ SIDE_LIMIT)
  width_within = side_within level_number i.width good_sides.0

  pub height_within : (is_negative i.height ≡ false) × (natural i.height ≤ SIDE_LIMIT)
  height_within = side_within level_number i.height good_sides.1

  pub level_within : natural i.level ≤ LAST_LEVEL
  level_within = leb-true (natural i.level) LAST_LEVEL (and_parts (not (is_negative i.level)) (nat_le (natural i.level) LAST_LEVEL) fine.level_is).1

by_kind : (flat cube : Bool) (face : GlEnum) → (face.0 == TEXTURE_2D.0) ≡ flat → is_cube_face face ≡ cube → (flat || cube) ≡ true → suits cube face ≡ true
by_kind flat true face is_flat is_cube h = is_cube
by_kind true false face is_flat is_cube h = is_flat
by_kind false false face is_flat is_cube h = absurd (cc)

-- the target of an image is a face of the textures that are bound there
suits_kind : (face : GlEnum) → is_image_target face ≡ true → suits (is_cube_face face) face ≡ true
suits_kind face h = by_kind (face.0 == TEXTURE_2D.0) (is_cube_face face) face refl refl h

-- data that is there has as many bytes as are needed
given_data : (words : DataWords) (needed : ℕ) → (words.source == 0) ≡ false → not (has_no_data words || has_needed_data words needed) ≡ false → has_needed_data words needed ≡ true
given_data words needed there fair = sym (λ i. (there i && (words.count == 0) && (words.a == 0) && (words.b == 0)) || has_needed_data words needed) ∙ not-false (has_no_data words || has_needed_data words needed) fair

image_bytes : (i : ImageWords) (alignment : ℕ) (words : DataWords) (payload : List ℕ) → IsFineImage i → is_wrong_value Alignment alignment ≡ false → tex_image_is_bad alignment i words ≡ false → IsData words payload
    → HasLength (unpadded_payload i alignment (payload_of words payload)) (natural i.width * natural i.height * pixel_size i.format i.kind)
image_bytes i alignment words payload fine aligned fair given =
    (elim (words.source == 0) as (λ b. (words.source == 0) ≡ b → HasLength (unpadded_payload i alignment (if b then Absent else Here payload)) (natural i.width * natural i.height * pixel_size i.format i.kind)) [
      | true ↦ λ e. tt
      | false ↦ λ e. unpadded_bytes i.width i.height i.format i.kind alignment payload (width_within i fine).0 (height_within i fine).0 (width_within i fine).1 (height_within i fine).1 aligned
          (all_needed words payload given (image_needed i.width i.height i.format i.kind alignment) (given_data words (image_needed i.width i.height i.format i.kind alignment) e fair))
    ]) refl

-- What is written of a new image

none_has : (x y : ℕ) → false ≡ has no_rect x y
none_has x y = grind (arith, nat_tests)

new_covered : (i : ImageWords) (alignment : ℕ) (p : Payload) (v : LevelView) → IsCover v (new_cover p v) (new_pixels Undefined (unpadded_payload i alignment p) v)
new_covered i alignment Absent v = record { inside = (omega arith, omega arith); exact = λ x y xw yh. none_has x y }
new_covered i alignment (Here bytes) v = record { inside = (omega arith, omega arith); exact = λ x y xw yh. sym (whole_has v.width v.height x y xw yh) }

covered_if : (b : Bool) (v : LevelView) (o : Option LevelView) (r old : Rect) (new px : ℕ → ℕ → Pixel) → IsCover v r new → IsCovered o old px → IsCovered (if b then Some v else o) (if b then r else old) (λ x y. if b then new x y else px x y)
covered_if true v o r old new px now before = now
covered_if false v o r old new px now before = before

module _ (t after : TextureObjects) (stored : Renderbuffers) (f : Covers) (m : Marks) (k : Contents) (agree : ImagesAgree t stored f m k) where
  -- an image is a new one, and all others are as before
  pub images_new : (place : ImagePlace) (v : LevelView) (r : Rect) (new : ℕ → ℕ → Pixel) → IsCover v r new → ((other : ImagePlace) → level_at after other ≡ (if is_place place other then Some v else level_at t other)) → ImagesAgree after stored (with_cover f place r) m (with_image k place new)
  images_new place v r new covered levels = record {
    covers = λ other. subst (λ (o : Option LevelView). IsCovered o (with_cover f place r other) ((with_image k place new).images other)) (sym (levels other))
        (covered_if (is_place place other) v (level_at t other) r (f other) new (k.images other) covered (agree.covers other));
    marks = agree.marks;
    screen = agree.screen;
  }

  -- all images are as before
  pub images_same : ((place : ImagePlace) → level_at after place ≡ level_at t place) → ImagesAgree after stored f m k
  images_same levels = record { covers = λ place. subst (λ (o : Option LevelView). IsCovered o (f place) (k.images place)) (sym (levels place)) (agree.covers place); marks = agree.marks; screen = agree.screen }

-- a write that extends the written rectangle
pub images_extended : (t : TextureObjects) (stored : Renderbuffers) (f : Covers) (m : Marks) (k : Contents) → ImagesAgree t stored f m k → (place : ImagePlace) (v : LevelView) (r u : Rect) (new : ℕ → ℕ → Pixel) → level_at t place ≡ Some v → IsIn r v.width v.height → union_of (f place) r ≡ Some u → ((x y : ℕ) → is_defined (new x y) ≡ true)
    → ImagesAgree t stored (with_cover f place u) m (with_pixels k place r new)
images_extended t stored f m k agree place v r u new there inside joined all = record {
  covers = λ other. at_place (λ i. IsCovered (level_at t i) (with_cover f place u i) ((with_pixels k place r new).images i)) place other
      (subst (λ (o : Option LevelView). IsCovered o (with_cover f place u place) ((with_pixels k place r new).images place)) (sym there)
      (subst (λ (w : Rect). IsCover v w ((with_pixels k place r new).images place)) (sym (cover_here f place u)) extended_here))
      (λ apart. subst (λ (w : Rect). IsCovered (level_at t other) w ((with_pixels k place r new).images other)) (sym (cover_elsewhere f place u other apart))
      (subst (λ (px : ℕ → ℕ → Pixel). IsCovered (level_at t other) (f other) px) (sym (pixels_elsewhere k place r new other apart)) (agree.covers other)));
  marks = agree.marks;
  screen = agree.screen;
}
  where
    before : IsCover v (f place) (k.images place)
    before = subst (λ (o : Option LevelView). IsCovered o (f place) (k.images place)) there (agree.covers place)

    extended_here : IsCover v u ((with_pixels k place r new).images place)
    extended_here = record {
      inside = union_in (f place) r u v.width v.height before.inside inside joined;
      exact = λ x y xw yh. defined_here k place r new all x y ∙ ap (λ (b : Bool). has r x y || b) (before.exact x y xw yh) ∙ or_comm (has r x y) (has (f place) x y) ∙ sym (union_is (f place) r u joined x y);
    }

-- A part of an image that is there

-- a part that is not refused
pub record IsFinePart (t : TextureObjects) (p : PartWords) : Type 0 where
  pub view : LevelView
  pub is : level_at t (part_place t p) ≡ Some view
  pub inside : IsIn (part_rect p) view.width view.height
  pub wide : is_negative p.width ≡ false
  pub high : is_negative p.height ≡ false

pub inside_of : (v : LevelView) (r : Rect) → leaves_level (Some v) r ≡ false → IsIn r v.width v.height
inside_of v r h = (grind (arith, nat_tests), grind (arith, nat_tests))

fine_by : (t : TextureObjects) (p : PartWords) (o : Option LevelView) → part_level t p ≡ o → leaves_level o (part_rect p) ≡ false → differs_from_level o p.format p.kind ≡ false → is_negative p.width ≡ false → is_negative p.height ≡ false → IsFinePart t p
fine_by t p None is within alike wide high = absurd (cc)
fine_by t p (Some v) is within alike wide high = record { view = v; is = is; inside = inside_of v (part_rect p) within; wide = wide; high = high }

pub fine_part : (t : TextureObjects) (p : PartWords) → tex_sub_image_refusal t p ≡ None → IsFinePart t p
fine_part t p h =
    let n = none_of_three (not (is_image_target p.target && is_format p.format && is_pixel_kind p.kind))
    (not (is_level p.level) || is_negative p.x || is_negative p.y || is_negative p.width || is_negative p.height || leaves_level (part_level t p) (part_rect p)) (differs_from_level (part_level t p) p.format p.kind) InvalidEnum InvalidValue InvalidOperation h in
    let values = or_parts (not (is_level p.level) || is_negative p.x || is_negative p.y || is_negative p.width || is_negative p.height) (leaves_level (part_level t p) (part_rect p)) n.1 in
    let high = or_parts (not (is_level p.level) || is_negative p.x || is_negative p.y || is_negative p.width) (is_negative p.height) values.0 in
    let wide = or_parts (not (is_level p.level) || is_negative p.x || is_negative p.y) (is_negative p.width) high.0 in
    fine_by t p (part_level t p) refl values.1 n.2 wide.1 high.1

-- What a command needs written

-- a rectangle and what was written of its image make a rectangle together
abbrev pub IsJoined : Covers → ImagePlace → Rect → Type 0
IsJoined f place r = (u : Rect) × (union_of (f place) r ≡ Some u)

module _ (t : TextureObjects) (place : ImagePlace) (r : Rect) (v : LevelView) (is : level_at t place ≡ Some v) (inside : IsIn r v.width v.height) where
  -- an image that is written whole has each part of it
  whole_joined : (f : Covers) → IsJoined (filled t f place) place r
  whole_joined f =
      let all : filled t f place place ≡ whole v.width v.height = subst (λ (o : Option LevelView). IsWholeOf o (filled t f place place)) is (filled_whole t f place) in
      (whole v.width v.height, ap (λ (w : Rect). union_of w r) all ∙ union_whole v.width v.height r inside)

  -- and other images that are written whole change nothing of that
  still_joined : (f : Covers) (other : ImagePlace) → IsJoined f place r → IsJoined (filled t f other) place r
  still_joined f other joined = (elim (is_place other place) as (λ (b : Bool). is_place other place ≡ b → IsJoined (filled t f other) place r) [
    | true ↦ λ e. subst (λ (i : ImagePlace). IsJoined (filled t f i) place r) (place_is other place e) (whole_joined f)
    | false ↦ λ e. (joined.0, ap (λ (w : Rect). union_of w r) (filled_elsewhere f other (level_at t other) place e) ∙ joined.1)
  ]) refl

  all_joined : (f : Covers) (xs : List AnyImage) → IsJoined f place r → IsJoined (all_filled t f xs) place r
  all_joined f [] joined = joined
  all_joined f (any.Level other ∷ xs) joined = all_joined (filled t f other) xs (still_joined f other joined)
  all_joined f (any.Renderbuffer number ∷ xs) joined = all_joined f xs joined

  filled-append : (f : Covers) (xs ys : List AnyImage) → all_filled t f (xs ++ ys) ≡ all_filled t (all_filled t f xs) ys
  filled-append f [] ys = refl
  filled-append f (any.Level other ∷ xs) ys = filled-append (filled t f other) xs ys
  filled-append f (any.Renderbuffer number ∷ xs) ys = filled-append f xs ys

  -- behind some images, and its own where that is needed, a part makes a rectangle
  joined_by : (f : Covers) (xs : List AnyImage) (o : Option Rect) → union_of (f place) r ≡ o → IsJoined (all_filled t f (xs ++ (if is_none o then any.Level place ∷ [] else []))) place r
  joined_by f xs (Some u) e = subst (λ (g : Covers). IsJoined g place r) (sym (filled-append f xs [])) (all_joined f xs (u, e))
  joined_by f xs None e = subst (λ (g : Covers). IsJoined g place r) (sym (filled-append f xs (any.Level place ∷ []))) (whole_joined (all_filled t f xs))

  pub part_joined : (f : Covers) (xs : List AnyImage) → IsJoined (all_filled t f (xs ++ part_first f place r)) place r
  part_joined f xs = joined_by f xs (union_of (f place) r) refl

-- behind its zeroings TexSubImage2D has what it needs written
pub sub_image_ready : (s : EsState) (f : Covers) (p : PartWords) (words : DataWords) → tex_sub_image_refusal s.textures.objects p ≡ None → IsJoined (all_filled s.textures.objects f (image_whole_first s f (TexSubImage2D p words))) (part_place s.textures.objects p) (part_rect p)
sub_image_ready s f p words allowed =
    let fine = fine_part s.textures.objects p allowed in
    part_joined s.textures.objects (part_place s.textures.objects p) (part_rect p) fine.view fine.is fine.inside f []

-- What is bound

-- a texture of this kind
pub record IsBound (t : TextureObjects) (cube : Bool) : Type 0 where
  pub texture : Texture
  pub is : bound_texture t cube ≡ Some texture
  pub kind : texture.cube ≡ cube

bound_by : (t : TextureObjects) (cube : Bool) (o : Option Texture) → bound_texture t cube ≡ o → IsOfKind cube o → IsBound t cube
bound_by t cube None e kind = absurd kind
bound_by t cube (Some x) e kind = record { texture = x; is = e; kind = kind }

module _ (s : EsState) (d : DriverState) (a : TablesAgree s d.tables) where
  -- the active unit binds a texture to each target
  pub bound_here : (cube : Bool) → IsBound s.textures.objects cube
  bound_here cube = bound_by s.textures.objects cube (bound_texture s.textures.objects cube) refl (a.textures.sound.bound s.textures.objects.units.active cube)

  -- other textures of the same names
  pub textures_agree : (new driven : TextureObjects) → new ≡ driven → AreTexturesSound (record s.textures { objects = new }) → TablesAgree (with_objects s new) (objects_in d.tables driven)
  textures_agree new driven same sound = with_textures s d.tables (record s.textures { objects = new }) (record d.tables.textures { objects = driven }) a (record { names = a.textures.names; objects = same; sound = sound })

  -- TexImage2D

  -- an image in place of another
  module _ (i : ImageWords) (allowed : tex_image_refusal i ≡ None) where
    abbrev place : ImagePlace
    place = place_bound s.textures.objects i.target (natural i.level)

    abbrev after : TextureObjects → TextureObjects
    after t = tex_image_effect t i.target (natural i.level) (view_of i)

    module _ (b : IsBound s.textures.objects (is_cube_face i.target)) where
      abbrev number : ℕ
      number = bound_number s.textures.objects.units (is_cube_face i.target)

      abbrev changed : Texture
      changed = with_level b.texture i.target (natural i.level) (view_of i)

      effect_is : after s.textures.objects ≡ with_texture s.textures.objects number (is_cube_face i.target) changed
      effect_is = ap (tex_image_by s.textures.objects i.target (natural i.level) (view_of i)) b.is

      texture_is_sized : HasLevels b.texture
      texture_is_sized = texture_sized s.textures a.textures.sound number (is_cube_face i.target) b.texture b.is

      pub levels_after : (other : ImagePlace) → level_at (after s.textures.objects) other ≡ (if is_place place other then Some (view_of i) else level_at s.textures.objects other)
      levels_after other = ap (λ (t : TextureObjects). level_at t other) effect_is
          ∙ levels_written s.textures.objects number (is_cube_face i.target) b.texture b.is i.target (natural i.level) (view_of i) refl
          (subst (λ (cube : Bool). suits cube i.target ≡ true) (sym b.kind) (suits_kind i.target (fine_image i allowed).target_is)) (level_within i (fine_image i allowed)) texture_is_sized other

      pub sound_after : AreTexturesSound (record s.textures { objects = after s.textures.objects })
      sound_after = subst (λ (t : TextureObjects). AreTexturesSound (record s.textures { objects = t })) (sym effect_is)
          (sound_with s.textures a.textures.sound number (is_cube_face i.target) b.texture b.is changed refl
          (level_sized b.texture i.target (natural i.level) (view_of i) texture_is_sized (width_within i (fine_image i allowed)).1 (height_within i (fine_image i allowed)).1))

    module _ (words : DataWords) (payload : List ℕ) where
      abbrev bytes : Payload
      bytes = unpadded_payload i s.alignments.unpack (payload_of words payload)

      abbrev image_call : DriverCall
      image_call = Image (calls.TexImage i.target i.level i.format i.kind i.width i.height bytes)

      image_allowed : is_wrong_value Alignment s.alignments.unpack ≡ false → tex_image_is_bad s.alignments.unpack i words ≡ false → IsData words payload → IsAllowed d image_call
      image_allowed aligned fair given = record { fair = again i (fine_image i allowed); bytes = image_bytes i s.alignments.unpack words payload (fine_image i allowed) aligned fair given }

      abbrev ImageLeftBy : Covers → Marks → Oracle → Answer → Type 0
      ImageLeftBy f m o answer = ImageLeft s d f m (TexImage2D i words) payload (told (entry image_call answer ∷ []) o) o (entry image_call answer ∷ [])

      image_by : (f : Covers) (m : Marks) → ImagesAgree s.textures.objects s.renderbuffers.objects f m d.contents → (o : Oracle) (answer : Answer) → IsLegal d (entry image_call answer ∷ []) → ImageLeftBy f m o answer
      image_by f m agree o Done l = record {
        asked = refl;
        tables = textures_agree (after s.textures.objects) (after d.tables.textures.objects) (ap after a.textures.objects) (sound_after (bound_here (is_cube_face i.target)));
        images = subst (λ (t : TextureObjects). ImagesAgree (after s.textures.objects) s.renderbuffers.objects (with_cover f place (new_cover (payload_of words payload) (view_of i))) m (with_image d.contents (place_bound t i.target (natural i.level)) (new_pixels Undefined bytes (view_of i)))) a.textures.objects
            (images_new s.textures.objects (after s.textures.objects) s.renderbuffers.objects f m d.contents agree place (view_of i) (new_cover (payload_of words payload) (view_of i)) (new_pixels Undefined bytes (view_of i))
            (new_covered i s.alignments.unpack (payload_of words payload) (view_of i)) (levels_after (bound_here (is_cube_face i.target))));
        contents = read_image d.contents (place_bound d.tables.textures.objects i.target (natural i.level)) (new_pixels Undefined bytes (view_of i))
            ∙ (λ j. with_image (read_contents d.contents) (place_bound (sym a.textures.objects j) i.target (natural i.level)) (λ x y. read_new bytes (view_of i) x y j));
        records = refl;
      }
      image_by f m agree o Oom l = record {
        asked = refl;
        tables = with_errors s d.tables _ a;
        images = agree;
        contents = refl;
        records = refl;
      }
      image_by f m agree o (Name n) l = absurd l.0.answered
      image_by f m agree o (Compile ok log) l = absurd l.0.answered
      image_by f m agree o (Link answer) l = absurd l.0.answered
      image_by f m agree o (Validate ok log) l = absurd l.0.answered
      image_by f m agree o (Pixels rows) l = absurd l.0.answered

      pub tex_image_may : is_wrong_value Alignment s.alignments.unpack ≡ false → tex_image_is_bad s.alignments.unpack i words ≡ false → IsData words payload → ImageMayGoOn s d (TexImage2D i words) payload
      tex_image_may aligned fair given es next more h = front_of_one (λ (gs : List DriverEntry) (c : DriverCall). IsAllowed (state_after d gs) c) image_call (image_allowed aligned fair given) es next more h

      pub tex_image_leaves : (f : Covers) (m : Marks) → ImagesAgree s.textures.objects s.renderbuffers.objects f m d.contents → ImageLeaves s d f m (TexImage2D i words) payload
      tex_image_leaves f m agree o es l h = one_entry (λ (gs : List DriverEntry). IsLegal d gs → ImageLeft s d f m (TexImage2D i words) payload (told gs o) o gs) image_call (image_by f m agree o) es h l

  -- TexSubImage2D

  module _ (p : PartWords) (words : DataWords) (payload : List ℕ) (allowed : tex_sub_image_refusal s.textures.objects p ≡ None) where
    abbrev part_bytes : List ℕ
    part_bytes = unpadded_part p s.alignments.unpack payload

    abbrev part_call : DriverCall
    part_call = Image (calls.TexSubImage p part_bytes)

    fine : IsFinePart s.textures.objects p
    fine = fine_part s.textures.objects p allowed

    part_allowed : is_wrong_value Alignment s.alignments.unpack ≡ false → tex_sub_image_is_bad s.alignments.unpack p words ≡ false → IsData words payload → IsAllowed d part_call
    part_allowed aligned fair given =
        let small = level_small s.textures a.textures.sound (part_place s.textures.objects p) fine.view fine.is in
        let columns : natural p.width ≤ SIDE_LIMIT = omega (arith, fine.inside.0, small.0) in
        let lines : natural p.height ≤ SIDE_LIMIT = omega (arith, fine.inside.1, small.1) in
        record {
          fair = ap (λ (t : TextureObjects). tex_sub_image_refusal t p) (sym a.textures.objects) ∙ allowed;
          count = unpadded_bytes p.width p.height p.format p.kind s.alignments.unpack payload fine.wide fine.high columns lines aligned
              (just_needed words payload given (image_needed p.width p.height p.format p.kind s.alignments.unpack) (not-false _ fair));
        }

    abbrev new_part : ℕ → ℕ → Pixel
    new_part = pixels_of part_bytes (pixel_size p.format p.kind) (part_rect p)

    part_by : (f : Covers) (m : Marks) → ImagesAgree s.textures.objects s.renderbuffers.objects f m d.contents → (u : Rect) → union_of (f (part_place s.textures.objects p)) (part_rect p) ≡ Some u → (o : Oracle) (answer : Answer)
        → ImageLeft s d f m (TexSubImage2D p words) payload (told (entry part_call answer ∷ []) o) o (entry part_call answer ∷ [])
    part_by f m agree u joined o answer = record {
      asked = refl;
      tables = a;
      images = subst (λ (t : TextureObjects). ImagesAgree s.textures.objects s.renderbuffers.objects (with_cover f (part_place s.textures.objects p) (extended (f (part_place s.textures.objects p)) (part_rect p))) m (with_pixels d.contents (part_place t p) (part_rect p) new_part)) a.textures.objects
          (subst (λ (w : Rect). ImagesAgree s.textures.objects s.renderbuffers.objects (with_cover f (part_place s.textures.objects p) w) m (with_pixels d.contents (part_place s.textures.objects p) (part_rect p) new_part)) (sym (ap (extended_by (f (part_place s.textures.objects p))) joined))
          (images_extended s.textures.objects s.renderbuffers.objects f m d.contents agree (part_place s.textures.objects p) fine.view (part_rect p) u new_part fine.is fine.inside joined (λ x y. refl)));
      contents = read_written d.contents (part_place d.tables.textures.objects p) (part_rect p) new_part (λ x y. refl)
          ∙ (λ j. with_pixels (read_contents d.contents) (part_place (sym a.textures.objects j) p) (part_rect p) new_part);
      records = refl;
    }

    pub tex_sub_image_may : is_wrong_value Alignment s.alignments.unpack ≡ false → tex_sub_image_is_bad s.alignments.unpack p words ≡ false → IsData words payload → ImageMayGoOn s d (TexSubImage2D p words) payload
    tex_sub_image_may aligned fair given es next more h = front_of_one (λ (gs : List DriverEntry) (c : DriverCall). IsAllowed (state_after d gs) c) part_call (part_allowed aligned fair given) es next more h

    pub tex_sub_image_leaves : (f : Covers) (m : Marks) → ImagesAgree s.textures.objects s.renderbuffers.objects f m d.contents → IsJoined f (part_place s.textures.objects p) (part_rect p) → ImageLeaves s d f m (TexSubImage2D p words) payload
    tex_sub_image_leaves f m agree joined o es l h =
        one_entry (λ (gs : List DriverEntry). ImageLeft s d f m (TexSubImage2D p words) payload (told gs o) o gs) part_call (part_by f m agree joined.0 joined.1 o) es h

  -- TexParameteri

  module _ (target pname value : GlEnum) where
    abbrev parameter_call : DriverCall
    parameter_call = Image (calls.TexParameter target pname value)

    abbrev set : TextureObjects → TextureObjects
    set t = tex_parameter_effect t target pname value

    module _ (b : IsBound s.textures.objects (is_cube_target target)) where
      abbrev of_unit : ℕ
      of_unit = bound_number s.textures.objects.units (is_cube_target target)

      set_is : set s.textures.objects ≡ with_texture s.textures.objects of_unit (is_cube_target target) (with_parameter b.texture pname value)
      set_is = ap (tex_parameter_by s.textures.objects (is_cube_target target) pname value) b.is

      levels_set : (place : ImagePlace) → level_at (set s.textures.objects) place ≡ level_at s.textures.objects place
      levels_set place = ap (λ (t : TextureObjects). level_at t place) set_is
          ∙ levels_kept s.textures.objects of_unit (is_cube_target target) b.texture b.is (with_parameter b.texture pname value) (parameter_levels b.texture pname value) place

      sound_set : AreTexturesSound (record s.textures { objects = set s.textures.objects })
      sound_set = subst (λ (t : TextureObjects). AreTexturesSound (record s.textures { objects = t })) (sym set_is)
          (sound_with s.textures a.textures.sound of_unit (is_cube_target target) b.texture b.is (with_parameter b.texture pname value) (parameter_kind b.texture pname value)
          (parameter_sized b.texture pname value (texture_sized s.textures a.textures.sound of_unit (is_cube_target target) b.texture b.is)))

    parameter_by : (f : Covers) (m : Marks) → ImagesAgree s.textures.objects s.renderbuffers.objects f m d.contents → (payload : List ℕ) (o : Oracle) (answer : Answer)
        → ImageLeft s d f m (TexParameteri target pname value) payload (told (entry parameter_call answer ∷ []) o) o (entry parameter_call answer ∷ [])
    parameter_by f m agree payload o answer = record {
      asked = refl;
      tables = textures_agree (set s.textures.objects) (set d.tables.textures.objects) (ap set a.textures.objects) (sound_set (bound_here (is_cube_target target)));
      images = images_same s.textures.objects (set s.textures.objects) s.renderbuffers.objects f m d.contents agree (levels_set (bound_here (is_cube_target target)));
      contents = refl;
      records = refl;
    }

    pub parameter_may : (payload : List ℕ) → tex_parameter_refusal target pname value ≡ None → ImageMayGoOn s d (TexParameteri target pname value) payload
    parameter_may payload allowed es next more h = front_of_one (λ (gs : List DriverEntry) (c : DriverCall). IsAllowed (state_after d gs) c) parameter_call allowed es next more h

    pub parameter_leaves : (payload : List ℕ) (f : Covers) (m : Marks) → ImagesAgree s.textures.objects s.renderbuffers.objects f m d.contents → ImageLeaves s d f m (TexParameteri target pname value) payload
    parameter_leaves payload f m agree o es l h =
        one_entry (λ (gs : List DriverEntry). ImageLeft s d f m (TexParameteri target pname value) payload (told gs o) o gs) parameter_call (parameter_by f m agree payload o) es h
