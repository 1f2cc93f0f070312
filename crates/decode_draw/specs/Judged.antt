-- A command that was judged: the code that it is refused with, or what it draws and how the units are then; and what is left of it.
use Rattle.std.specs.Prelude.{◌≡◌, ℕ, Bool, true, false, not, ◌==◌, if◌then◌else◌, List, [], ◌∷◌, ◌++◌, map, Option, None, Some, Result, Ok, Err}
use Rattle.gl_plain.specs.declared.commands.DrawCommand.{DrawCommand}
use Rattle.gl_plain.specs.declared.commands.DrawCommand.TheVariants.{ActiveTexture, Raster, Clear, DrawArrays, DrawElements, Flush, Finish}
use Rattle.gl_plain.specs.declared.draws.DrawPlan.{DrawPlan}
use Rattle.gl_plain.specs.declared.draws.UnitView.{UnitView}
use Rattle.gl_plain.specs.declared.driver_calls.DriverCall.{DriverCall}
use Rattle.gl_plain.specs.declared.driver_calls.DriverCall.TheVariants.{Draw}
use Rattle.gl_plain.specs.declared.driver_calls.DrawDriver.TheVariants as calls
use Rattle.gl_plain.specs.declared.errors.GlError.{GlError}
use Rattle.gl_plain.specs.declared.textures.ImagePlace.{ImagePlace}
use Rattle.gl_plain.specs.declared.targets.AnyImage.{AnyImage}
use Rattle.gl_plain.specs.declared.targets.AnyImage.TheVariants as image
use Rattle.gl_plain.specs.declared.targets.Target.{Target}
use Rattle.gl_plain.specs.declared.targets.Target.TheVariants as target
use Rattle.gl_plain.specs.subjects.Targets.{target_images}
use Rattle.gl_plain.specs.subjects.Textures.{TextureObjects, unit_number, active_texture_refusal}
use Rattle.gl_plain.specs.subjects.Raster.{raster_refusal}
use Rattle.gl_plain.specs.subjects.Clears.{clear_refusal}
use Rattle.gl_plain.specs.subjects.Draws.{Sources, no_draw, all_units, units_viewed, check_arrays, check_indexed, places_from}
use Rattle.gl_plain.specs.State.{WireState, DriverState}
use Rattle.gl_plain.specs.Meaning.{Meaning}
use Rattle.gl_plain.specs.Outcome.{leaves}
use Rattle.gl_plain.specs.driver.Allowed.{IsAllowed}
use Rattle.gl_plain.specs.draw.Step.{draw_effect}
use Rattle.gl_plain.specs.draw.Calls.{raster_calls, clear_calls, drawing_calls}
use Rattle.decode_draw.specs.declared.judged.Judged.{Judged}

-- nothing is drawn, and no unit was looked at
abbrev pub nothing : Judged
nothing = record { plan = no_draw; units = all_units None; target = target.Default }

-- a command that draws nothing, by its refusal
abbrev pub judged_by : Option GlError → Result Judged GlError
judged_by None = Ok nothing
judged_by (Some e) = Err e

-- what is drawn to, where anything is
abbrev pub drawn_to : Bool → Target → Target
drawn_to true to = to
drawn_to false to = target.Default

-- a Clear, by its refusal: it draws to what is bound, unless its mask names nothing
abbrev pub judged_clear : Target → ℕ → Option GlError → Result Judged GlError
judged_clear to mask None = Ok (record nothing { target = drawn_to (not (mask == 0)) to })
judged_clear to mask (Some e) = Err e

-- a draw, by its check, with the units as they were looked at
abbrev pub with_units : List UnitView → Target → Result DrawPlan GlError → Result Judged GlError
with_units units to (Ok plan) = Ok (record { plan = plan; units = units; target = drawn_to plan.draw to })
with_units units to (Err e) = Err e

-- the code that a command is refused with, or what it draws
abbrev pub judged : Sources → DrawCommand → Result Judged GlError
judged s (ActiveTexture unit) = judged_by (active_texture_refusal unit)
judged s (Raster number words) = judged_by (raster_refusal number words)
judged s (Clear mask) = judged_clear s.drawable.target mask (clear_refusal s.drawable mask)
judged s (DrawArrays mode first count) = with_units (units_viewed s) s.drawable.target (check_arrays s mode first count)
judged s (DrawElements mode count kind offset) = with_units (units_viewed s) s.drawable.target (check_indexed s mode count kind offset)
judged s Flush = Ok nothing
judged s Finish = Ok nothing

-- the images of textures that are to be whole before what is drawn: those that the units sample
abbrev pub sampled_first : TextureObjects → Judged → List ImagePlace
sampled_first t j = if j.plan.draw then places_from t 0 j.units else []

-- all images that are to be whole: those, and those that are drawn to
abbrev pub drawn_first : TextureObjects → Judged → List AnyImage
drawn_first t j = map image.Level (sampled_first t j) ++ target_images j.target

-- a command that sets words or the active unit was not refused
abbrev pub IsTaken : DrawCommand → Type 0
IsTaken (ActiveTexture unit) = active_texture_refusal unit ≡ None
IsTaken (Raster number words) = raster_refusal number words ≡ None
IsTaken (Clear mask) = Unit {0}
IsTaken (DrawArrays mode first count) = Unit {0}
IsTaken (DrawElements mode count kind offset) = Unit {0}
IsTaken Flush = Unit {0}
IsTaken Finish = Unit {0}

-- the driver calls of a command that is not refused, by what it draws
abbrev pub planned_calls : DrawPlan → DrawCommand → List DriverCall
planned_calls plan (ActiveTexture unit) = Draw (calls.ActiveTexture (unit_number unit)) ∷ []
planned_calls plan (Raster number words) = raster_calls number words
planned_calls plan (Clear mask) = clear_calls mask
planned_calls plan (DrawArrays mode first count) = drawing_calls (λ black. Draw (calls.DrawArrays mode first count black)) (Ok plan)
planned_calls plan (DrawElements mode count kind offset) = drawing_calls (λ black. Draw (calls.DrawElements mode count kind offset black)) (Ok plan)
planned_calls plan Flush = []
planned_calls plan Finish = []

-- what is left of a command behind its zeroings, once it was judged
abbrev pub planned : DrawPlan → DrawCommand → WireState → Meaning WireState
planned plan c w = record { bad = false; step = leaves (record w { es = draw_effect w.es c }); calls = λ o. planned_calls plan c }

-- where the calls are one, it may be made
abbrev pub MayCall : DriverState → List DriverCall → Type 0
MayCall d calls = (call : DriverCall) → call ∷ [] ≡ calls → IsAllowed d call
