-- The renderbuffers of a framebuffer that is complete are there, and have pixels; so have those that a command needs written whole.
use Rattle.std.specs.Prelude.{map}
use Rattle.std.proofs.Common.{◌≡◌, ◌<◌, ℕ, ℤ, pos, nat_lt, Result, Ok, Err, Bool, true, false, not, ◌||◌, ◌==◌, if◌then◌else◌, List, [], ◌∷◌, ◌++◌, Option, None, Some, refl, arith}
use Rattle.std.proofs.lemmas.Bool.{eqb-true, not-false, or_parts}
use Rattle.std.proofs.lemmas.Bool.Decides.{nat_tests}
use Rattle.std.specs.FinMap as table
use Rattle.gl_base.specs.declared.gl_enum.GlEnum.{GlEnum}
use Rattle.gl_base.specs.declared.enums.TheConstants.{FRAMEBUFFER_COMPLETE, TRIANGLE_FAN}
use Rattle.gl_base.specs.declared.target_enums.TheConstants.{FRAMEBUFFER_INCOMPLETE_ATTACHMENT}
use Rattle.gl_base.specs.Rects.{is_empty}
use Rattle.gl_plain.specs.declared.commands.Command.{Command}
use Rattle.gl_plain.specs.declared.commands.Command.TheVariants.{Draw, Image, Query}
use Rattle.gl_plain.specs.declared.commands.DrawCommand.{DrawCommand}
use Rattle.gl_plain.specs.declared.commands.DrawCommand.TheVariants.{Clear, DrawArrays, DrawElements}
use Rattle.gl_plain.specs.declared.commands.ImageCommand.{ImageCommand}
use Rattle.gl_plain.specs.declared.commands.ImageCommand.TheVariants.{TexImage2D, TexSubImage2D, CopyTexImage2D, CopyTexSubImage2D, TexParameteri, GenerateMipmap, RenderbufferStorage}
use Rattle.gl_plain.specs.declared.commands.QueryCommand.{QueryCommand}
use Rattle.gl_plain.specs.declared.commands.QueryCommand.TheVariants.{ReadPixels, GetError, Words, Bytes}
use Rattle.gl_plain.specs.declared.draws.DrawPlan.{DrawPlan}
use Rattle.gl_plain.specs.declared.errors.GlError.{GlError}
use Rattle.gl_plain.specs.declared.errors.GlError.TheVariants.{InvalidEnum, InvalidFramebufferOperation, InvalidValue, OutOfMemory}
use Rattle.gl_plain.specs.declared.textures.ImagePlace.{ImagePlace}
use Rattle.gl_plain.specs.declared.targets.AnyImage.{AnyImage}
use Rattle.gl_plain.specs.declared.targets.AnyImage.TheVariants as any
use Rattle.gl_plain.specs.declared.targets.Renderbuffer.{Renderbuffer}
use Rattle.gl_plain.specs.declared.targets.Target.{Target}
use Rattle.gl_plain.specs.declared.targets.Target.TheVariants as target
use Rattle.gl_plain.specs.declared.textures.LevelView.{LevelView}
use Rattle.gl_plain.specs.subjects.Textures.{TextureObjects}
use Rattle.gl_plain.specs.subjects.Targets.{Drawable, Renderbuffers, attach_view, colour_images, fails_at, has_no_pixel, image_list, is_incomplete, is_colour_format, is_colour_storage, is_depth_storage, is_no_format, is_stencil_storage, renderbuffer_image, renderbuffer_view, status_in, storage_viewed, target_images, target_status}
use Rattle.gl_base.specs.declared.rect.Rect.{Rect}
use Rattle.gl_plain.specs.subjects.Images.{Covers, part_rect}
use Rattle.gl_plain.specs.subjects.Mipmaps.{base_places}
use Rattle.gl_plain.specs.subjects.Copies.{copy_part_place, copy_rect, reads_nothing}
use Rattle.gl_plain.specs.subjects.Draws.{Sources, check_arrays, check_elements, check_indexed, check_of, draw_view, drawn_places, has_wrong_kind, index_words, last_element, no_draw}
use Rattle.gl_plain.specs.declared.draws.DrawView.{DrawView}
use Rattle.gl_plain.specs.Words.{is_negative, natural}
use Rattle.gl_plain.specs.draw.Calls.{draw_whole_first, drawing_whole_first}
use Rattle.gl_plain.specs.draw.Refusal.{draw_command_refusal}
use Rattle.gl_plain.specs.image.Covers.{image_whole_first, part_first, part_place}
use Rattle.gl_plain.specs.image.Refusal.{image_command_refusal}
use Rattle.gl_plain.specs.query.Calls.{query_whole_first}
use Rattle.gl_plain.specs.query.Refusal.{query_command_refusal}
use Rattle.gl_plain.specs.State.{EsState, WireState, drawable_of, sources_of}
use Rattle.gl_plain.specs.Wire.{command_refusal, whole_first}
use Rattle.gl_laws.proofs.Zeroing.{AreStored, HasPixels, levels_stored, stored_append, stored_if}

sides_there : (v : LevelView) → has_no_pixel v.width v.height ≡ false → (0 < v.width) × (0 < v.height)
sides_there v h = (grind (arith, nat_tests), grind (arith, nat_tests))

module _ (texture renderbuffer : GlEnum → Bool) where
  image_stored : (o : Option LevelView) → fails_at texture renderbuffer (storage_viewed o) ≡ false → HasPixels o
  image_stored None h = absurd (cc)
  image_stored (Some v) h = sides_there v (or_parts (has_no_pixel v.width v.height) (not (renderbuffer v.format)) h).0

  one_stored : (o : Option Renderbuffer) → fails_at texture renderbuffer (renderbuffer_view o) ≡ false → HasPixels (renderbuffer_image o)
  one_stored None h = absurd (cc)
  one_stored (Some x) h = image_stored x.image h

  -- what does not fail at its point is there
  point_stored : (t : TextureObjects) (r : Renderbuffers) (x : Option AnyImage) → fails_at texture renderbuffer (attach_view t r x) ≡ false → AreStored r (image_list x)
  point_stored t r None h = tt
  point_stored t r (Some (any.Level place)) h = (tt, tt)
  point_stored t r (Some (any.Renderbuffer number)) h = (one_stored (table.get r number) h, tt)

no_failure : (p : Bool) (n : ℕ) → (if p then FRAMEBUFFER_INCOMPLETE_ATTACHMENT else n) ≡ FRAMEBUFFER_COMPLETE → p ≡ false
no_failure true n h = absurd (omega (arith, h))
no_failure false n h = refl

module _ (t : TextureObjects) (r : Renderbuffers) where
  -- the images of a framebuffer that is complete
  pub target_stored : (x : Target) → target_status t r x ≡ FRAMEBUFFER_COMPLETE → AreStored r (target_images x)
  target_stored target.Default h = tt
  target_stored (target.Bound colour depth stencil) h =
      let fine = or_parts (fails_at is_colour_format is_colour_storage (attach_view t r colour) || fails_at is_no_format is_depth_storage (attach_view t r depth)) (fails_at is_no_format is_stencil_storage (attach_view t r stencil)) (no_failure _ _ h) in
      let first = or_parts (fails_at is_colour_format is_colour_storage (attach_view t r colour)) (fails_at is_no_format is_depth_storage (attach_view t r depth)) fine.0 in
      stored_append r (image_list colour ++ image_list depth) (image_list stencil)
      (stored_append r (image_list colour) (image_list depth) (point_stored is_colour_format is_colour_storage t r colour first.0) (point_stored is_no_format is_depth_storage t r depth first.1))
      (point_stored is_no_format is_stencil_storage t r stencil fine.1)

  -- that of its colours
  pub colour_stored : (x : Target) → target_status t r x ≡ FRAMEBUFFER_COMPLETE → AreStored r (colour_images x)
  colour_stored target.Default h = tt
  colour_stored (target.Bound colour depth stencil) h =
      let fine = or_parts (fails_at is_colour_format is_colour_storage (attach_view t r colour) || fails_at is_no_format is_depth_storage (attach_view t r depth)) (fails_at is_no_format is_stencil_storage (attach_view t r stencil)) (no_failure _ _ h) in
      let first = or_parts (fails_at is_colour_format is_colour_storage (attach_view t r colour)) (fails_at is_no_format is_depth_storage (attach_view t r depth)) fine.0 in
      point_stored is_colour_format is_colour_storage t r colour first.0

-- what can be drawn to or read from is complete
pub complete_status : (b : Drawable) → is_incomplete b ≡ false → status_in b ≡ FRAMEBUFFER_COMPLETE
complete_status b h = eqb-true (status_in b) FRAMEBUFFER_COMPLETE (not-false (status_in b == FRAMEBUFFER_COMPLETE) h)

-- What a command needs written whole

pub second_none : (p q : Bool) (x y : GlError) (more : Option GlError) → (if p then Some x else if q then Some y else more) ≡ None → q ≡ false
second_none true q x y more h = absurd (cc)
second_none false true x y more h = absurd (cc)
second_none false false x y more h = refl

third_none : (p q r : Bool) (x y z : GlError) (more : Option GlError) → (if p then Some x else if q then Some y else if r then Some z else more) ≡ None → r ≡ false
third_none true q r x y z more h = absurd (cc)
third_none false true r x y z more h = absurd (cc)
third_none false false true x y z more h = absurd (cc)
third_none false false false x y z more h = refl

fourth_none : (p q r e : Bool) (x y z v : GlError) (more : Option GlError) → (if p then Some x else if q then Some y else if r then Some z else if e then Some v else more) ≡ None → e ≡ false
fourth_none true q r e x y z v more h = absurd (cc)
fourth_none false true r e x y z v more h = absurd (cc)
fourth_none false false true e x y z v more h = absurd (cc)
fourth_none false false false true x y z v more h = absurd (cc)
fourth_none false false false false x y z v more h = refl

complete_by : (p q complete : Bool) (x y z : GlError) (more : Result DrawPlan GlError) (plan : DrawPlan) → (if p then Err x else if q then Err y else if not complete then Err z else more) ≡ Ok plan → complete ≡ true
complete_by true q complete x y z more plan h = absurd (cc)
complete_by false true complete x y z more plan h = absurd (cc)
complete_by false false true x y z more plan h = refl
complete_by false false false x y z more plan h = absurd (cc)

-- a draw that is not refused is to what is complete
check_complete : (v : DrawView) (start count : ℤ) (plan : DrawPlan) → check_of v start count ≡ Ok plan → (v.status == FRAMEBUFFER_COMPLETE) ≡ true
check_complete v start count plan h = complete_by (nat_lt TRIANGLE_FAN.0 v.mode.0 || has_wrong_kind v.indexed) (is_negative start || is_negative count) (v.status == FRAMEBUFFER_COMPLETE) InvalidEnum InvalidValue InvalidFramebufferOperation
    (if natural count == 0 then Ok no_draw else check_elements v (last_element v.indexed (natural start) (natural count))) plan h

stored_unless : (r : Renderbuffers) (b : Bool) (xs : List AnyImage) → AreStored r xs → AreStored r (if b then [] else xs)
stored_unless r true xs h = tt
stored_unless r false xs h = h

module _ (s : Sources) where
  drawing_stored : (check : Result DrawPlan GlError) → ((plan : DrawPlan) → check ≡ Ok plan → (status_in s.drawable == FRAMEBUFFER_COMPLETE) ≡ true) → AreStored s.drawable.renderbuffers (drawing_whole_first s check)
  drawing_stored (Err e) complete = tt
  drawing_stored (Ok plan) complete =
      let r = s.drawable.renderbuffers in
      stored_if r plan.draw (map any.Level (drawn_places s) ++ target_images s.drawable.target)
      (stored_append r (map any.Level (drawn_places s)) (target_images s.drawable.target) (levels_stored r (drawn_places s))
      (target_stored s.drawable.textures r s.drawable.target (eqb-true (status_in s.drawable) FRAMEBUFFER_COMPLETE (complete plan refl))))

  pub draw_stored : (c : DrawCommand) → draw_command_refusal s c ≡ None → AreStored s.drawable.renderbuffers (draw_whole_first s c)
  draw_stored (Clear mask) fine = stored_unless s.drawable.renderbuffers (mask == 0) (target_images s.drawable.target)
      (target_stored s.drawable.textures s.drawable.renderbuffers s.drawable.target (complete_status s.drawable (second_none _ _ InvalidValue InvalidFramebufferOperation None fine)))
  draw_stored (DrawArrays mode start count) fine = drawing_stored (check_arrays s mode start count) (λ plan is. check_complete (draw_view s mode None (natural count)) start count plan is)
  draw_stored (DrawElements mode count kind offset) fine = drawing_stored (check_indexed s mode count kind offset) (λ plan is. check_complete (draw_view s mode (Some (index_words kind offset)) (natural count)) (pos 0) count plan is)
  draw_stored c fine = tt

module _ (s : EsState) where
  abbrev stored_in : List AnyImage → Type 0
  stored_in xs = AreStored s.renderbuffers.objects xs

  part_stored : (f : Covers) (place : ImagePlace) (r : Rect) → stored_in (part_first f place r)
  part_stored f place r = stored_if s.renderbuffers.objects _ (any.Level place ∷ []) (tt, tt)

  pub colours_of_complete : is_incomplete (drawable_of s) ≡ false → stored_in (colour_images (drawable_of s).target)
  colours_of_complete fine = colour_stored s.textures.objects s.renderbuffers.objects (drawable_of s).target (complete_status (drawable_of s) fine)

  image_stored_first : (f : Covers) (c : ImageCommand) → image_command_refusal s c ≡ None → stored_in (image_whole_first s f c)
  image_stored_first f (TexImage2D image words) fine = tt
  image_stored_first f (TexSubImage2D part words) fine = part_stored f (part_place s.textures.objects part) (part_rect part)
  image_stored_first f (CopyTexImage2D copy) fine = colours_of_complete (third_none _ _ _ InvalidEnum InvalidValue InvalidFramebufferOperation _ fine)
  image_stored_first f (CopyTexSubImage2D copy) fine = stored_unless s.renderbuffers.objects (is_empty (copy_rect copy)) (colour_images (drawable_of s).target ++ part_first f (copy_part_place s.textures.objects copy) (copy_rect copy))
      (stored_append s.renderbuffers.objects (colour_images (drawable_of s).target) (part_first f (copy_part_place s.textures.objects copy) (copy_rect copy))
      (colours_of_complete (third_none _ _ _ InvalidEnum InvalidValue InvalidFramebufferOperation _ fine)) (part_stored f (copy_part_place s.textures.objects copy) (copy_rect copy)))
  image_stored_first f (TexParameteri target pname value) fine = tt
  image_stored_first f (GenerateMipmap target) fine = levels_stored s.renderbuffers.objects (base_places s.textures.objects target)
  image_stored_first f (RenderbufferStorage target format width height) fine = tt

  query_stored_first : (c : QueryCommand) → query_command_refusal s c ≡ None → stored_in (query_whole_first s c)
  query_stored_first (ReadPixels words bucket) fine = stored_unless s.renderbuffers.objects (reads_nothing words) (colour_images (drawable_of s).target)
      (colours_of_complete (fourth_none _ _ _ _ InvalidEnum InvalidValue OutOfMemory InvalidFramebufferOperation _ fine))
  query_stored_first GetError fine = tt
  query_stored_first (Words query) fine = tt
  query_stored_first (Bytes query bucket) fine = tt

-- the renderbuffers that a command needs written whole are there, and have pixels
pub whole_first_stored : (w : WireState) (c : Command) (payload : List ℕ) → command_refusal w.es c payload ≡ None → AreStored w.es.renderbuffers.objects (whole_first w c)
whole_first_stored w (Image c) payload fine = image_stored_first w.es w.covers c fine
whole_first_stored w (Draw c) payload fine = draw_stored (sources_of w.es) c fine
whole_first_stored w (Query c) payload fine = query_stored_first w.es c fine
whole_first_stored w c payload fine = tt
