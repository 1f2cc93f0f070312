-- What a command that was judged is refused with, or calls, needs written, and draws to.
use Rattle.std.proofs.Common.{◌≡◌, ◌∙◌, ℕ, ℤ, pos, Bool, true, false, not, ◌==◌, ◌||◌, if◌then◌else◌, List, [], ◌++◌, Option, None, Some, Result, Ok, Err, refl, sym, ap, subst, arith}
use Rattle.std.specs.Prelude.{map, IsSome}
use Rattle.std.proofs.lemmas.Bool.{eqb-true}
use Rattle.gl_base.specs.declared.enums.TheConstants.{FRAMEBUFFER_COMPLETE}
use Rattle.gl_base.specs.declared.gl_enum.GlEnum.{GlEnum}
use Rattle.gl_base.specs.declared.target_enums.TheConstants.{FRAMEBUFFER_INCOMPLETE_ATTACHMENT}
use Rattle.gl_plain.specs.declared.commands.DrawCommand.{DrawCommand}
use Rattle.gl_plain.specs.declared.commands.DrawCommand.TheVariants.{ActiveTexture, Raster, Clear, DrawArrays, DrawElements, Flush, Finish}
use Rattle.gl_plain.specs.declared.draws.DrawPlan.{DrawPlan}
use Rattle.gl_plain.specs.declared.draws.DrawView.{DrawView}
use Rattle.gl_plain.specs.declared.draws.UnitView.{UnitView}
use Rattle.gl_plain.specs.declared.driver_calls.DriverCall.TheVariants as driver
use Rattle.gl_plain.specs.declared.driver_calls.DrawDriver.TheVariants as calls
use Rattle.gl_plain.specs.declared.errors.GlError.{GlError}
use Rattle.gl_plain.specs.declared.errors.GlError.TheVariants.{InvalidEnum, InvalidValue, InvalidFramebufferOperation}
use Rattle.gl_plain.specs.declared.targets.AnyImage.{AnyImage}
use Rattle.gl_plain.specs.declared.targets.AnyImage.TheVariants as image
use Rattle.gl_plain.specs.declared.targets.Renderbuffer.{Renderbuffer}
use Rattle.gl_plain.specs.declared.targets.Target.{Target}
use Rattle.gl_plain.specs.declared.targets.Target.TheVariants as target
use Rattle.gl_plain.specs.Words.{is_negative, natural}
use Rattle.gl_plain.specs.subjects.Textures.{TextureObjects, active_texture_refusal}
use Rattle.gl_plain.specs.subjects.Targets.{Renderbuffers, Drawable, target_images, target_status, status_in, status_of, fails_at, attach_view, renderbuffer_view, is_colour_format, is_no_format, is_colour_storage, is_depth_storage, is_stencil_storage, is_nothing, differ, sides_of}
use Rattle.gl_plain.specs.subjects.Raster.{raster_refusal}
use Rattle.gl_plain.specs.subjects.Clears.{clear_refusal}
use Rattle.gl_plain.specs.subjects.Draws.{Sources, refused_by, check_of, check_arrays, check_indexed, draw_view, index_words, units_viewed, places_from}
use Rattle.gl_plain.specs.draw.Refusal.{draw_command_refusal}
use Rattle.gl_plain.specs.draw.Calls.{own_draw_calls, drawing_calls, drawing_whole_first, draw_whole_first}
use Rattle.std.specs.FinMap as table
use Rattle.decode_draw.specs.declared.judged.Judged.{Judged}
use Rattle.decode_draw.specs.Judged.{nothing, judged_by, judged_clear, drawn_to, with_units, judged, drawn_first, IsTaken, planned_calls}
use Rattle.whole_images.specs.Whole.{IsThere, AreThere}

-- A command that draws nothing, by its refusal

refuses : (r : Option GlError) (e : GlError) → judged_by r ≡ Err e → r ≡ Some e
refuses None e h = absurd (cc)
refuses (Some x) e h = let same : x ≡ e = cc in ap Some same

takes : (r : Option GlError) (j : Judged) → judged_by r ≡ Ok j → r ≡ None
takes None j h = refl
takes (Some x) j h = absurd (cc)

draws_none : (r : Option GlError) (j : Judged) → judged_by r ≡ Ok j → nothing ≡ j
draws_none None j h = cc
draws_none (Some x) j h = absurd (cc)

-- A Clear, by its refusal

module _ (to : Target) (mask : ℕ) where
  clear_refuses : (r : Option GlError) (e : GlError) → judged_clear to mask r ≡ Err e → r ≡ Some e
  clear_refuses None e h = absurd (cc)
  clear_refuses (Some x) e h = let same : x ≡ e = cc in ap Some same

  clear_takes : (r : Option GlError) (j : Judged) → judged_clear to mask r ≡ Ok j → r ≡ None
  clear_takes None j h = refl
  clear_takes (Some x) j h = absurd (cc)

  clear_judged : (r : Option GlError) (j : Judged) → judged_clear to mask r ≡ Ok j → record nothing { target = drawn_to (not (mask == 0)) to } ≡ j
  clear_judged None j h = cc
  clear_judged (Some x) j h = absurd (cc)

-- of nothing it needs no image
clear_first : (none : Bool) (to : Target) → (if none then [] else target_images to) ≡ target_images (drawn_to (not none) to)
clear_first true to = refl
clear_first false to = refl

-- A draw, by its check

-- of nothing it needs no image
draw_first : (t : TextureObjects) (units : List UnitView) (to : Target) (draws : Bool) → (if draws then map image.Level (places_from t 0 units) ++ target_images to else []) ≡ map image.Level (if draws then places_from t 0 units else []) ++ target_images (drawn_to draws to)
draw_first t units to true = refl
draw_first t units to false = refl

module _ (units : List UnitView) (to : Target) where
  draw_refuses : (check : Result DrawPlan GlError) (e : GlError) → with_units units to check ≡ Err e → refused_by check ≡ Some e
  draw_refuses (Ok plan) e h = absurd (cc)
  draw_refuses (Err x) e h = let same : x ≡ e = cc in ap Some same

  is_planned : (check : Result DrawPlan GlError) (j : Judged) → with_units units to check ≡ Ok j → check ≡ Ok j.plan
  is_planned (Ok plan) j h = let same : record { plan = plan; units = units; target = drawn_to plan.draw to } ≡ j = cc in ap (λ (k : Judged). Ok k.plan) same
  is_planned (Err x) j h = absurd (cc)

  has_units : (check : Result DrawPlan GlError) (j : Judged) → with_units units to check ≡ Ok j → units ≡ j.units
  has_units (Ok plan) j h = let same : record { plan = plan; units = units; target = drawn_to plan.draw to } ≡ j = cc in ap (λ (k : Judged). k.units) same
  has_units (Err x) j h = absurd (cc)

  has_target : (check : Result DrawPlan GlError) (j : Judged) → with_units units to check ≡ Ok j → drawn_to j.plan.draw to ≡ j.target
  has_target (Ok plan) j h = let same : record { plan = plan; units = units; target = drawn_to plan.draw to } ≡ j = cc in subst (λ (k : Judged). drawn_to k.plan.draw to ≡ k.target) same refl
  has_target (Err x) j h = absurd (cc)

-- what a command is refused with
pub judged_refuses : (s : Sources) (c : DrawCommand) (e : GlError) → judged s c ≡ Err e → draw_command_refusal s c ≡ Some e
judged_refuses s (ActiveTexture unit) e h = refuses (active_texture_refusal unit) e h
judged_refuses s (Raster number words) e h = refuses (raster_refusal number words) e h
judged_refuses s (Clear mask) e h = clear_refuses s.drawable.target mask (clear_refusal s.drawable mask) e h
judged_refuses s (DrawArrays mode first count) e h = draw_refuses (units_viewed s) s.drawable.target (check_arrays s mode first count) e h
judged_refuses s (DrawElements mode count kind offset) e h = draw_refuses (units_viewed s) s.drawable.target (check_indexed s mode count kind offset) e h
judged_refuses s Flush e h = absurd (cc)
judged_refuses s Finish e h = absurd (cc)

module _ (s : Sources) (j : Judged) where
  -- it is not
  pub judged_takes : (c : DrawCommand) → judged s c ≡ Ok j → draw_command_refusal s c ≡ None
  judged_takes (ActiveTexture unit) h = takes (active_texture_refusal unit) j h
  judged_takes (Raster number words) h = takes (raster_refusal number words) j h
  judged_takes (Clear mask) h = clear_takes s.drawable.target mask (clear_refusal s.drawable mask) j h
  judged_takes (DrawArrays mode first count) h = ap refused_by (is_planned (units_viewed s) s.drawable.target (check_arrays s mode first count) j h)
  judged_takes (DrawElements mode count kind offset) h = ap refused_by (is_planned (units_viewed s) s.drawable.target (check_indexed s mode count kind offset) j h)
  judged_takes Flush h = refl
  judged_takes Finish h = refl

  pub words_taken : (c : DrawCommand) → judged s c ≡ Ok j → IsTaken c
  words_taken (ActiveTexture unit) h = takes (active_texture_refusal unit) j h
  words_taken (Raster number words) h = takes (raster_refusal number words) j h
  words_taken c h = tt

  -- its driver calls go by what it draws
  pub calls_planned : (c : DrawCommand) → judged s c ≡ Ok j → own_draw_calls s c ≡ planned_calls j.plan c
  calls_planned (DrawArrays mode first count) h = ap (drawing_calls (λ black. driver.Draw (calls.DrawArrays mode first count black))) (is_planned (units_viewed s) s.drawable.target (check_arrays s mode first count) j h)
  calls_planned (DrawElements mode count kind offset) h = ap (drawing_calls (λ black. driver.Draw (calls.DrawElements mode count kind offset black))) (is_planned (units_viewed s) s.drawable.target (check_indexed s mode count kind offset) j h)
  calls_planned c h = refl

  -- what is to be whole before a draw is what the units sample that were looked at
  drawing_first : (check : Result DrawPlan GlError) → with_units (units_viewed s) s.drawable.target check ≡ Ok j → drawing_whole_first s check ≡ drawn_first s.drawable.textures j
  drawing_first check h =
      ap (drawing_whole_first s) (is_planned (units_viewed s) s.drawable.target check j h)
      ∙ draw_first s.drawable.textures (units_viewed s) s.drawable.target j.plan.draw
      ∙ (λ i. map image.Level (if j.plan.draw then places_from s.drawable.textures 0 (has_units (units_viewed s) s.drawable.target check j h i) else []) ++ target_images (has_target (units_viewed s) s.drawable.target check j h i))

  -- a command that draws nothing needs no image
  none_first : (r : Option GlError) → judged_by r ≡ Ok j → [] ≡ drawn_first s.drawable.textures j
  none_first r h = ap (drawn_first s.drawable.textures) (draws_none r j h)

  -- the images that it needs whole go by what was judged
  pub first_planned : (c : DrawCommand) → judged s c ≡ Ok j → draw_whole_first s c ≡ drawn_first s.drawable.textures j
  first_planned (ActiveTexture unit) h = none_first (active_texture_refusal unit) h
  first_planned (Raster number words) h = none_first (raster_refusal number words) h
  first_planned (Clear mask) h = clear_first (mask == 0) s.drawable.target ∙ ap (drawn_first s.drawable.textures) (clear_judged s.drawable.target mask (clear_refusal s.drawable mask) j h)
  first_planned (DrawArrays mode first count) h = drawing_first (check_arrays s mode first count) h
  first_planned (DrawElements mode count kind offset) h = drawing_first (check_indexed s mode count kind offset) h
  first_planned Flush h = none_first None h
  first_planned Finish h = none_first None h

-- What is drawn to is there

viewed_there : (texture renderbuffer : GlEnum → Bool) (o : Option Renderbuffer) → fails_at texture renderbuffer (renderbuffer_view o) ≡ false → IsSome o
viewed_there texture renderbuffer None h = absurd (cc)
viewed_there texture renderbuffer (Some x) h = refl

image_there : (texture renderbuffer : GlEnum → Bool) (t : TextureObjects) (r : Renderbuffers) (x : Option AnyImage) → fails_at texture renderbuffer (attach_view t r x) ≡ false → IsThere r x
image_there texture renderbuffer t r None h = tt
image_there texture renderbuffer t r (Some (image.Level place)) h = tt
image_there texture renderbuffer t r (Some (image.Renderbuffer number)) h = viewed_there texture renderbuffer (table.get r number) h

none_fails : (a b c : Bool) (rest : ℕ) → (if a || b || c then FRAMEBUFFER_INCOMPLETE_ATTACHMENT else rest) ≡ FRAMEBUFFER_COMPLETE → (a ≡ false) × (b ≡ false) × (c ≡ false)
none_fails true b c rest h = absurd (omega (arith, h))
none_fails false true c rest h = absurd (omega (arith, h))
none_fails false false true rest h = absurd (omega (arith, h))
none_fails false false false rest h = (refl, refl, refl)

-- a target that is complete has only images that are there
target_there : (t : TextureObjects) (r : Renderbuffers) (to : Target) → target_status t r to ≡ FRAMEBUFFER_COMPLETE → AreThere r to
target_there t r target.Default h = tt
target_there t r (target.Bound colour depth stencil) h =
    let p = none_fails (fails_at is_colour_format is_colour_storage (attach_view t r colour)) (fails_at is_no_format is_depth_storage (attach_view t r depth)) (fails_at is_no_format is_stencil_storage (attach_view t r stencil)) _ h in
    (image_there is_colour_format is_colour_storage t r colour p.0, image_there is_no_format is_depth_storage t r depth p.1, image_there is_no_format is_stencil_storage t r stencil p.2)

drawn_there : (r : Renderbuffers) (draws : Bool) (to : Target) → AreThere r to → AreThere r (drawn_to draws to)
drawn_there r true to there = there
drawn_there r false to there = tt

passes_check : (a b c : Bool) (rest : Result DrawPlan GlError) (plan : DrawPlan) → (if a then Err InvalidEnum else if b then Err InvalidValue else if not c then Err InvalidFramebufferOperation else rest) ≡ Ok plan → c ≡ true
passes_check true b c rest plan h = absurd (cc)
passes_check false true c rest plan h = absurd (cc)
passes_check false false true rest plan h = refl
passes_check false false false rest plan h = absurd (cc)

passes_clear : (a c : Bool) → (if a then Some InvalidValue else if not c then Some InvalidFramebufferOperation else None) ≡ None → c ≡ true
passes_clear true c h = absurd (cc)
passes_clear false true h = refl
passes_clear false false h = absurd (cc)

checked_there : (s : Sources) (v : DrawView) → v.status ≡ status_in s.drawable → (first count : ℤ) (j : Judged) → with_units (units_viewed s) s.drawable.target (check_of v first count) ≡ Ok j → AreThere s.drawable.renderbuffers j.target
checked_there s v same first count j h =
    let complete : (v.status == FRAMEBUFFER_COMPLETE) ≡ true = passes_check _ _ (v.status == FRAMEBUFFER_COMPLETE) _ j.plan (is_planned (units_viewed s) s.drawable.target (check_of v first count) j h) in
    subst (AreThere s.drawable.renderbuffers) (has_target (units_viewed s) s.drawable.target (check_of v first count) j h)
    (drawn_there s.drawable.renderbuffers j.plan.draw s.drawable.target (target_there s.drawable.textures s.drawable.renderbuffers s.drawable.target (sym same ∙ eqb-true v.status FRAMEBUFFER_COMPLETE complete)))

cleared_there : (s : Sources) (mask : ℕ) (j : Judged) → judged_clear s.drawable.target mask (clear_refusal s.drawable mask) ≡ Ok j → AreThere s.drawable.renderbuffers j.target
cleared_there s mask j h =
    let complete : (status_in s.drawable == FRAMEBUFFER_COMPLETE) ≡ true = passes_clear _ (status_in s.drawable == FRAMEBUFFER_COMPLETE) (clear_takes s.drawable.target mask (clear_refusal s.drawable mask) j h) in
    subst (λ (k : Judged). AreThere s.drawable.renderbuffers k.target) (clear_judged s.drawable.target mask (clear_refusal s.drawable mask) j h)
    (drawn_there s.drawable.renderbuffers (not (mask == 0)) s.drawable.target (target_there s.drawable.textures s.drawable.renderbuffers s.drawable.target (eqb-true (status_in s.drawable) FRAMEBUFFER_COMPLETE complete)))

nothing_there : (s : Sources) (r : Option GlError) (j : Judged) → judged_by r ≡ Ok j → AreThere s.drawable.renderbuffers j.target
nothing_there s r j h = subst (λ (k : Judged). AreThere s.drawable.renderbuffers k.target) (draws_none r j h) tt

-- so what a command that was judged draws to is there
pub judged_there : (s : Sources) (j : Judged) (c : DrawCommand) → judged s c ≡ Ok j → AreThere s.drawable.renderbuffers j.target
judged_there s j (ActiveTexture unit) h = nothing_there s (active_texture_refusal unit) j h
judged_there s j (Raster number words) h = nothing_there s (raster_refusal number words) j h
judged_there s j (Clear mask) h = cleared_there s mask j h
judged_there s j (DrawArrays mode first count) h = checked_there s (draw_view s mode None (natural count)) refl first count j h
judged_there s j (DrawElements mode count kind offset) h = checked_there s (draw_view s mode (Some (index_words kind offset)) (natural count)) refl (pos 0) count j h
judged_there s j Flush h = nothing_there s None j h
judged_there s j Finish h = nothing_there s None j h
