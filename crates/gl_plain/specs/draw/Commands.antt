-- ActiveTexture, the commands on the fixed state, and those that clear and draw, and the calls that they spell.
use Rattle.std.specs.Prelude.{ℕ, ◌==◌, if◌then◌else◌, List, [], ◌∷◌, length, take, slice_index, Option, None, Some}
use Rattle.gl_plain.specs.declared.numbers.TheConstants.{ACTIVE_TEXTURE, CLEAR, DRAW_ARRAYS, DRAW_ELEMENTS, FLUSH, FINISH}
use Rattle.gl_plain.specs.declared.commands.DrawCommand.{DrawCommand}
use Rattle.gl_plain.specs.declared.commands.DrawCommand.TheVariants.{ActiveTexture, Raster, Clear, DrawArrays, DrawElements, Flush, Finish}
use Rattle.gl_plain.specs.declared.calls.Call.{Call}
use Rattle.gl_plain.specs.declared.calls.Call.TheVariants as calls
use Rattle.gl_plain.specs.declared.calls.DrawCall.TheVariants as draws
use Rattle.gl_plain.specs.declared.calls.Pointer.TheVariants.{Number}
use Rattle.gl_plain.specs.Words.{enum_at, signed_at}
use Rattle.gl_plain.specs.subjects.Raster.{is_raster, rules_of}

-- the first four words, of which those behind the last one are 0
abbrev pub four_words : List ℕ → List ℕ
four_words words = slice_index words 0 ∷ slice_index words 1 ∷ slice_index words 2 ∷ slice_index words 3 ∷ []

-- the command that a number and words spell, or none
abbrev pub draw_command_in : ℕ → List ℕ → Option DrawCommand
draw_command_in number words =
    if number == ACTIVE_TEXTURE then Some (ActiveTexture (enum_at words 0))
    else if is_raster number then Some (Raster number (four_words words))
    else if number == CLEAR then Some (Clear (slice_index words 0))
    else if number == DRAW_ARRAYS then Some (DrawArrays (enum_at words 0) (signed_at words 1) (signed_at words 2))
    else if number == DRAW_ELEMENTS then Some (DrawElements (enum_at words 0) (signed_at words 1) (enum_at words 2) (slice_index words 3))
    else if number == FLUSH then Some Flush
    else if number == FINISH then Some Finish
    else None

-- the call that a command means
abbrev pub draw_call : DrawCommand → Call
draw_call (ActiveTexture unit) = calls.Draw (draws.ActiveTexture unit)
draw_call (Raster number words) = calls.Raster number (take (length (rules_of number)) words)
draw_call (Clear mask) = calls.Draw (draws.Clear mask)
draw_call (DrawArrays mode first count) = calls.Draw (draws.DrawArrays mode first count)
draw_call (DrawElements mode count kind offset) = calls.Draw (draws.DrawElements mode count kind (Number offset))
draw_call Flush = calls.Draw draws.Flush
draw_call Finish = calls.Draw draws.Finish
