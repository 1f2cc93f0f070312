-- The code that a call on the fixed state, or one that clears or draws, is refused with: the first whose condition holds, in the order
-- INVALID_ENUM, INVALID_VALUE, OUT_OF_MEMORY by a limit, INVALID_FRAMEBUFFER_OPERATION, INVALID_OPERATION.
use Rattle.std.specs.Prelude.{Option, None}
use Rattle.gl_plain.specs.declared.errors.GlError.{GlError}
use Rattle.gl_plain.specs.declared.calls.DrawCall.{DrawCall}
use Rattle.gl_plain.specs.declared.calls.DrawCall.TheVariants as calls
use Rattle.gl_plain.specs.declared.calls.Pointer.TheVariants.{Number}
use Rattle.gl_plain.specs.declared.commands.DrawCommand.{DrawCommand}
use Rattle.gl_plain.specs.declared.commands.DrawCommand.TheVariants.{ActiveTexture, Raster, Clear, DrawArrays, DrawElements, Flush, Finish}
use Rattle.gl_plain.specs.subjects.Textures.{active_texture_refusal}
use Rattle.gl_plain.specs.subjects.Raster.{raster_refusal}
use Rattle.gl_plain.specs.subjects.Clears.{clear_refusal}
use Rattle.gl_plain.specs.subjects.Draws.{Sources, check_arrays, check_indexed, refused_by}

-- the refusal of a call that clears or draws, by what a draw reads
abbrev pub draw_refusal : Sources → DrawCall → Option GlError
draw_refusal s (calls.ActiveTexture unit) = active_texture_refusal unit
draw_refusal s (calls.Clear mask) = clear_refusal s.drawable mask
draw_refusal s (calls.DrawArrays mode first count) = refused_by (check_arrays s mode first count)
draw_refusal s (calls.DrawElements mode count kind (Number offset)) = refused_by (check_indexed s mode count kind offset)
draw_refusal s calls.Flush = None
draw_refusal s calls.Finish = None

-- the refusal of a command is that of its call
abbrev pub draw_command_refusal : Sources → DrawCommand → Option GlError
draw_command_refusal s (ActiveTexture unit) = active_texture_refusal unit
draw_command_refusal s (Raster number words) = raster_refusal number words
draw_command_refusal s (Clear mask) = clear_refusal s.drawable mask
draw_command_refusal s (DrawArrays mode first count) = refused_by (check_arrays s mode first count)
draw_command_refusal s (DrawElements mode count kind offset) = refused_by (check_indexed s mode count kind offset)
draw_command_refusal s Flush = None
draw_command_refusal s Finish = None
