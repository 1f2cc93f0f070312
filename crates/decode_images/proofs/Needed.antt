-- The bytes that come beside a command on images are those of its rows.
use Rattle.std.proofs.Common.{◌≡◌, ◌≢◌, ◌≤◌, ◌==◌, ◌&&◌, ◌||◌, ℕ, ℤ, Bool, true, false, not, nat_lt, if◌then◌else◌, List, length, Option, None, Some, is_none, refl, sym, ap, ◌∙◌, subst, arith}
use Rattle.std.proofs.lemmas.Bool.Decides.{nat_tests}
use Rattle.gl_base.specs.declared.gl_enum.GlEnum.{GlEnum}
use Rattle.gl_base.specs.declared.limits.TheConstants.{DATA_LIMIT, SIDE_LIMIT}
use Rattle.gl_base.specs.declared.rect.Rect.{Rect}
use Rattle.gl_base.specs.PixelSizes.{bytes_or_none, image_size, pixel_bytes, pixel_size}
use Rattle.gl_plain.specs.declared.commands.DataWords.{DataWords}
use Rattle.gl_plain.specs.declared.image_words.ImageWords.{ImageWords}
use Rattle.gl_plain.specs.declared.image_words.PartWords.{PartWords}
use Rattle.gl_plain.specs.declared.textures.ImagePlace.{ImagePlace}
use Rattle.gl_plain.specs.Words.{is_negative, natural}
use Rattle.gl_plain.specs.image.Covers.{part_place}
use Rattle.gl_plain.specs.subjects.Data.{IsData, has_no_data, has_needed_data, has_just_needed_data}
use Rattle.gl_plain.specs.subjects.Images.{image_needed, part_rect, tex_image_is_bad, tex_image_refusal, tex_sub_image_is_bad, tex_sub_image_refusal}
use Rattle.gl_plain.specs.subjects.Textures.{AreTexturesSound, TextureObjects, TextureTables, level_at}
use Rattle.gl_laws.proofs.ImageSizes.{all_needed, just_needed, needed_of_pair}
use Rattle.gl_laws.proofs.ImageTables.{level_small}
use Rattle.gl_laws.proofs.Images.{IsFinePart, fine_image, fine_part, height_within, width_within}
use Rattle.texture_mgr.specs.Covered.{IsInLevel}
use Rattle.decode_images.proofs.Packed.{no_bytes}

second : (p q : Bool) → p ≡ false → not (p || q) ≡ false → q ≡ true
second true q none h = absurd (cc)
second false true none h = refl
second false false none h = absurd (cc)

not_false : (b : Bool) → not b ≡ false → b ≡ true
not_false true h = refl
not_false false h = absurd (cc)

-- words with a source are not those of no data
with_source : (words : DataWords) → words.source ≢ 0 → has_no_data words ≡ false
with_source words some = let other : (words.source == 0) ≡ false = grind (arith, nat_tests) in ap (λ (b : Bool). b && (words.count == 0) && (words.a == 0) && (words.b == 0)) other

-- an image with data has its rows
pub image_whole : (alignment : ℕ) → alignment ≤ 8 → (i : ImageWords) (words : DataWords) (payload : List ℕ) → tex_image_refusal i ≡ None → tex_image_is_bad alignment i words ≡ false → IsData words payload → words.source ≢ 0
    → length payload ≡ image_size (natural i.width) (natural i.height) (pixel_size i.format i.kind) alignment
image_whole alignment a i words payload taken fair given some =
    let fine = fine_image i taken in
    let wide = width_within i fine in
    let high = height_within i fine in
    let needed : ℕ = image_needed i.width i.height i.format i.kind alignment in
    all_needed words payload given needed (second (has_no_data words) (has_needed_data words needed) (with_source words some) fair)
    ∙ needed_of_pair i.width i.height i.format i.kind alignment wide.0 high.0 wide.1 high.1 a fine.pair_is

-- an image that is not refused has no wide rows
pub image_narrow : (i : ImageWords) → tex_image_refusal i ≡ None → natural i.width ≤ SIDE_LIMIT
image_narrow i taken = (width_within i (fine_image i taken)).1

-- as many bytes are needed as an image has, also where its pixels have none
needed_is : (width height : ℤ) (format kind : GlEnum) (alignment : ℕ) → 1 ≤ alignment → alignment ≤ 8 → is_negative width ≡ false → is_negative height ≡ false → natural width ≤ SIDE_LIMIT → natural height ≤ SIDE_LIMIT → (each : Option ℕ) → pixel_bytes format kind ≡ each
    → image_needed width height format kind alignment ≡ image_size (natural width) (natural height) (pixel_size format kind) alignment
needed_is width height format kind alignment some a wide high w h (Some n) is = needed_of_pair width height format kind alignment wide high w h a (ap is_none is)
needed_is width height format kind alignment some a wide high w h None is =
    (λ i. by_signs (wide i) (high i) (is_none (is i))) ∙ sym (ap (λ (each : Option ℕ). image_size (natural width) (natural height) (bytes_or_none each) alignment) is ∙ no_bytes (natural width) (natural height) alignment some)
  where
    size : ℕ
    size = image_size (natural width) (natural height) (pixel_size format kind) alignment

    by_signs : Bool → Bool → Bool → ℕ
    by_signs p q r = if p || q || r || nat_lt DATA_LIMIT size then 0 else size

module _ (t : TextureTables) (sound : AreTexturesSound t) (part : PartWords) (taken : tex_sub_image_refusal t.objects part ≡ None) where
  fine : IsFinePart t.objects part
  fine = fine_part t.objects part taken

  -- a part that is not refused has no wide rows, and not many
  sides : (natural part.width ≤ SIDE_LIMIT) × (natural part.height ≤ SIDE_LIMIT)
  sides = let small = level_small t sound (part_place t.objects part) fine.view fine.is in (omega (arith, fine.inside.0, small.0), omega (arith, fine.inside.1, small.1))

  pub part_narrow : natural part.width ≤ SIDE_LIMIT
  part_narrow = sides.0

  -- it has its rows
  pub part_whole : (alignment : ℕ) → 1 ≤ alignment → alignment ≤ 8 → (words : DataWords) (payload : List ℕ) → tex_sub_image_is_bad alignment part words ≡ false → IsData words payload
      → length payload ≡ image_size (natural part.width) (natural part.height) (pixel_size part.format part.kind) alignment
  part_whole alignment some a words payload fair given =
      let needed : ℕ = image_needed part.width part.height part.format part.kind alignment in
      just_needed words payload given needed (not_false (has_just_needed_data words needed) fair)
      ∙ needed_is part.width part.height part.format part.kind alignment some a fine.wide fine.high sides.0 sides.1 (pixel_bytes part.format part.kind) refl

  -- it lies in its image
  pub part_inside : (place : ImagePlace) (rect : Rect) → place ≡ part_place t.objects part → rect ≡ part_rect part → IsInLevel (level_at t.objects place) rect
  part_inside place rect here is =
      let lies : IsInLevel (level_at t.objects (part_place t.objects part)) (part_rect part) = subst (λ o. IsInLevel o (part_rect part)) (sym fine.is) fine.inside in
      subst (λ (at : ImagePlace). IsInLevel (level_at t.objects at) rect) (sym here) (subst (IsInLevel (level_at t.objects (part_place t.objects part))) (sym is) lies)
