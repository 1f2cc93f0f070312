-- The driver calls of the commands on the fixed state, and of those that clear and draw, where they are not refused.
use Rattle.std.specs.Prelude.{ℕ, ◌==◌, if◌then◌else◌, List, [], ◌∷◌, Result, Ok, Err}
use Rattle.gl_plain.specs.declared.commands.DrawCommand.{DrawCommand}
use Rattle.gl_plain.specs.declared.commands.DrawCommand.TheVariants.{ActiveTexture, Raster, Clear, DrawArrays, DrawElements, Flush, Finish}
use Rattle.gl_plain.specs.declared.driver_calls.DriverCall.{DriverCall}
use Rattle.gl_plain.specs.declared.driver_calls.DriverCall.TheVariants.{Draw}
use Rattle.gl_plain.specs.declared.driver_calls.DrawDriver.TheVariants as calls
use Rattle.gl_plain.specs.declared.draws.DrawPlan.{DrawPlan}
use Rattle.gl_plain.specs.declared.errors.GlError.{GlError}
use Rattle.gl_plain.specs.subjects.Textures.{unit_number}
use Rattle.gl_plain.specs.subjects.Raster.{is_driver_raster, kept_words}
use Rattle.gl_plain.specs.declared.targets.AnyImage.{AnyImage}
use Rattle.gl_plain.specs.subjects.Targets.{target_images}
use Rattle.gl_plain.specs.subjects.Draws.{Sources, check_arrays, check_indexed, drawn_images}

-- PixelStorei makes none; any other command of fixed state makes one
abbrev pub raster_calls : ℕ → List ℕ → List DriverCall
raster_calls number words = if is_driver_raster number then Draw (calls.SetRaster number (kept_words number words)) ∷ [] else []

-- a Clear of nothing makes none
abbrev pub clear_calls : ℕ → List DriverCall
clear_calls mask = if mask == 0 then [] else Draw (calls.Clear mask) ∷ []

-- a draw of nothing makes none; any other says which units read as black
abbrev pub drawing_calls : (ℕ → DriverCall) → Result DrawPlan GlError → List DriverCall
drawing_calls call (Err e) = []
drawing_calls call (Ok plan) = if plan.draw then call plan.black ∷ [] else []

-- the driver calls of a command's name, by what a draw reads
abbrev pub own_draw_calls : Sources → DrawCommand → List DriverCall
own_draw_calls s (ActiveTexture unit) = Draw (calls.ActiveTexture (unit_number unit)) ∷ []
own_draw_calls s (Raster number words) = raster_calls number words
own_draw_calls s (Clear mask) = clear_calls mask
own_draw_calls s (DrawArrays mode first count) = drawing_calls (λ black. Draw (calls.DrawArrays mode first count black)) (check_arrays s mode first count)
own_draw_calls s (DrawElements mode count kind offset) = drawing_calls (λ black. Draw (calls.DrawElements mode count kind offset black)) (check_indexed s mode count kind offset)
own_draw_calls s Flush = []
own_draw_calls s Finish = []

-- the images that a draw needs written whole before its driver call, if it makes one: those that it samples, and those that it draws to
abbrev pub drawing_whole_first : Sources → Result DrawPlan GlError → List AnyImage
drawing_whole_first s (Err e) = []
drawing_whole_first s (Ok plan) = if plan.draw then drawn_images s else []

-- the images that a command needs written whole before its driver call: a Clear those that it draws to, also where its mask does not name them
abbrev pub draw_whole_first : Sources → DrawCommand → List AnyImage
draw_whole_first s (ActiveTexture unit) = []
draw_whole_first s (Raster number words) = []
draw_whole_first s (Clear mask) = if mask == 0 then [] else target_images s.drawable.target
draw_whole_first s (DrawArrays mode first count) = drawing_whole_first s (check_arrays s mode first count)
draw_whole_first s (DrawElements mode count kind offset) = drawing_whole_first s (check_indexed s mode count kind offset)
draw_whole_first s Flush = []
draw_whole_first s Finish = []
