-- What a query leaves, where it is not refused.
use Rattle.std.specs.Prelude.{if◌then◌else◌, [], Option, None}
use Rattle.gl_plain.specs.declared.errors.GlError.{GlError}
use Rattle.gl_plain.specs.declared.calls.QueryCall.{QueryCall}
use Rattle.gl_plain.specs.declared.calls.QueryCall.TheVariants as calls
use Rattle.gl_plain.specs.declared.calls.Reply.{Reply}
use Rattle.gl_plain.specs.declared.calls.Reply.TheVariants as reply
use Rattle.gl_plain.specs.declared.commands.QueryCommand.{QueryCommand}
use Rattle.gl_plain.specs.declared.commands.QueryCommand.TheVariants.{ReadPixels, GetError, Words, Bytes}
use Rattle.gl_plain.specs.declared.image_words.ReadWords.{ReadWords}
use Rattle.gl_plain.specs.Words.{natural}
use Rattle.gl_plain.specs.Errors.{least, cleared, code_given}
use Rattle.gl_plain.specs.Oracle.{Oracle, first, behind}
use Rattle.gl_plain.specs.State.{EsState}
use Rattle.gl_plain.specs.Outcome.{Outcome, Choice}
use Rattle.gl_plain.specs.subjects.Copies.{reads_nothing, read_count, fitted, read_bytes}
use Rattle.gl_plain.specs.query.Commands.{query_call}
use Rattle.gl_plain.specs.query.Words.{word_query_reply}
use Rattle.gl_plain.specs.query.Bytes.{byte_query_reply}

-- ReadPixels takes the next pixels, and gives them as rows in client memory; where there is nothing to read it takes none
abbrev pub read_outcome : EsState → ReadWords → Oracle → Outcome EsState
read_outcome s words o =
    if reads_nothing words then record { state = s; oracle = o; reply = reply.Bytes [] }
    else record {
      state = s;
      oracle = record o { pixels = behind o.pixels };
      reply = reply.Bytes (read_bytes s.alignments.pack words (fitted (read_count (natural words.width) (natural words.height)) (first o.pixels)));
    }

-- a query of state changes nothing
abbrev pub answers : EsState → Reply → Oracle → Outcome EsState
answers s r o = record { state = s; oracle = o; reply = r }

-- GetError clears the code that it gives (section 2.5)
abbrev pub query_outcome : EsState → Option GlError → QueryCall → Oracle → Outcome EsState
query_outcome s code (calls.ReadPixels words) o = read_outcome s words o
query_outcome s code calls.GetError o = record { state = record s { errors = cleared s.errors code }; oracle = o; reply = reply.Error (code_given code) }
query_outcome s code (calls.Words query) o = answers s (word_query_reply s query) o
query_outcome s code (calls.Bytes query) o = answers s (reply.Bytes (byte_query_reply s.programs query)) o

-- what a query may choose: GetError gives the recorded code with the least number
abbrev pub query_choice : EsState → QueryCommand → Choice
query_choice s (ReadPixels words bucket) = record { names = []; code = None }
query_choice s GetError = record { names = []; code = least s.errors }
query_choice s (Words query) = record { names = []; code = None }
query_choice s (Bytes query bucket) = record { names = []; code = None }

-- a query does what its call does
abbrev pub query_step : EsState → QueryCommand → Oracle → Outcome EsState
query_step s c o = query_outcome s (query_choice s c).code (query_call c) o
