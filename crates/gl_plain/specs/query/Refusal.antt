-- The code that a query is refused with: the first whose condition holds, in the order INVALID_ENUM, INVALID_VALUE, OUT_OF_MEMORY by a limit,
-- INVALID_FRAMEBUFFER_OPERATION, INVALID_OPERATION.
use Rattle.std.specs.Prelude.{Option, None}
use Rattle.gl_plain.specs.declared.errors.GlError.{GlError}
use Rattle.gl_plain.specs.declared.calls.QueryCall.{QueryCall}
use Rattle.gl_plain.specs.declared.calls.QueryCall.TheVariants as calls
use Rattle.gl_plain.specs.declared.commands.QueryCommand.{QueryCommand}
use Rattle.gl_plain.specs.declared.commands.QueryCommand.TheVariants.{ReadPixels, GetError, Words, Bytes}
use Rattle.gl_plain.specs.subjects.Copies.{read_pixels_refusal}
use Rattle.gl_plain.specs.query.Words.{word_query_refusal}
use Rattle.gl_plain.specs.query.Bytes.{byte_query_refusal}
use Rattle.gl_plain.specs.State.{EsState, drawable_of}

abbrev pub query_refusal : EsState → QueryCall → Option GlError
query_refusal s (calls.ReadPixels words) = read_pixels_refusal (drawable_of s) s.alignments.pack words
query_refusal s calls.GetError = None
query_refusal s (calls.Words query) = word_query_refusal s query
query_refusal s (calls.Bytes query) = byte_query_refusal s.programs query

-- the refusal of a command is that of its call
abbrev pub query_command_refusal : EsState → QueryCommand → Option GlError
query_command_refusal s (ReadPixels words bucket) = read_pixels_refusal (drawable_of s) s.alignments.pack words
query_command_refusal s GetError = None
query_command_refusal s (Words query) = word_query_refusal s query
query_command_refusal s (Bytes query bucket) = byte_query_refusal s.programs query
