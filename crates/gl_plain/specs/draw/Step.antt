-- What a command on the fixed state, or one that clears or draws, leaves of the tables, where it is not refused. What it leaves of the contents
-- of images stands beside it.
use Rattle.std.specs.Prelude.{ℕ, List}
use Rattle.gl_plain.specs.declared.calls.DrawCall.{DrawCall}
use Rattle.gl_plain.specs.declared.calls.DrawCall.TheVariants as calls
use Rattle.gl_plain.specs.declared.commands.DrawCommand.{DrawCommand}
use Rattle.gl_plain.specs.declared.commands.DrawCommand.TheVariants.{ActiveTexture, Raster, Clear, DrawArrays, DrawElements, Flush, Finish}
use Rattle.gl_plain.specs.subjects.Textures.{unit_number, active_texture_effect}
use Rattle.gl_plain.specs.subjects.Raster.{kept_words, raster_effect, alignment_effect}
use Rattle.gl_plain.specs.State.{EsState}

-- the words of the command are set, as they are kept
abbrev pub raster_set : EsState → ℕ → List ℕ → EsState
raster_set s number words = record s { raster = raster_effect s.raster number (kept_words number words); alignments = alignment_effect s.alignments number (kept_words number words) }

-- the tables that a call leaves; one that clears or draws leaves them as they are
abbrev pub draw_call_effect : EsState → DrawCall → EsState
draw_call_effect s (calls.ActiveTexture unit) = record s { textures = record s.textures { objects = active_texture_effect s.textures.objects (unit_number unit) } }
draw_call_effect s (calls.Clear mask) = s
draw_call_effect s (calls.DrawArrays mode first count) = s
draw_call_effect s (calls.DrawElements mode count kind offset) = s
draw_call_effect s calls.Flush = s
draw_call_effect s calls.Finish = s

-- the tables that a command leaves
abbrev pub draw_effect : EsState → DrawCommand → EsState
draw_effect s (ActiveTexture unit) = record s { textures = record s.textures { objects = active_texture_effect s.textures.objects (unit_number unit) } }
draw_effect s (Raster number words) = raster_set s number words
draw_effect s (Clear mask) = s
draw_effect s (DrawArrays mode first count) = s
draw_effect s (DrawElements mode count kind offset) = s
draw_effect s Flush = s
draw_effect s Finish = s
