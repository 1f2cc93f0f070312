-- One command on the wire: when it is malformed or refused, and what it leaves.
use Rattle.std.specs.Prelude.{ℕ, nat_lt, Bool, false, List, [], ◌++◌, Option, None, Some}
use Rattle.gl_base.specs.declared.limits.TheConstants.{LAST_TOKEN}
use Rattle.gl_plain.specs.declared.errors.GlError.{GlError}
use Rattle.gl_plain.specs.declared.commands.Command.{Command}
use Rattle.gl_plain.specs.declared.commands.Command.TheVariants.{Noop, SetToken, Bucket, Object, Image, Draw, Query}
use Rattle.gl_plain.specs.declared.commands.DataWords.{DataWords}
use Rattle.gl_plain.specs.declared.driver_calls.DriverCall.{DriverCall}
use Rattle.gl_plain.specs.declared.targets.AnyImage.{AnyImage}
use Rattle.gl_plain.specs.subjects.Buckets.{bucket_command_is_bad, IsBucketData, buckets_after, bucket_reply, data_given}
use Rattle.gl_plain.specs.Oracle.{Oracle}
use Rattle.gl_plain.specs.State.{EsState, WireState, sources_of}
use Rattle.gl_plain.specs.Outcome.{Outcome, leaves, with_error}
use Rattle.gl_plain.specs.Covers.{all_filled, all_marked, zeroings}
use Rattle.gl_plain.specs.object.Commands.{object_data_words}
use Rattle.gl_plain.specs.object.Arguments.{object_is_bad, IsObjectData}
use Rattle.gl_plain.specs.object.Refusal.{object_command_refusal}
use Rattle.gl_plain.specs.object.Step.{object_step}
use Rattle.gl_plain.specs.object.Calls.{own_object_calls}
use Rattle.gl_plain.specs.object.Covers.{object_covers, object_marks}
use Rattle.gl_plain.specs.image.Commands.{image_data_words}
use Rattle.gl_plain.specs.image.Arguments.{image_is_bad, IsImageData}
use Rattle.gl_plain.specs.image.Refusal.{image_command_refusal}
use Rattle.gl_plain.specs.image.Step.{image_step}
use Rattle.gl_plain.specs.image.Calls.{own_image_calls}
use Rattle.gl_plain.specs.image.Covers.{image_whole_first, image_covers, image_marks}
use Rattle.gl_plain.specs.draw.Refusal.{draw_command_refusal}
use Rattle.gl_plain.specs.draw.Step.{draw_effect}
use Rattle.gl_plain.specs.draw.Calls.{own_draw_calls, draw_whole_first}
use Rattle.gl_plain.specs.query.Commands.{query_bucket}
use Rattle.gl_plain.specs.query.Refusal.{query_command_refusal}
use Rattle.gl_plain.specs.query.Step.{query_step}
use Rattle.gl_plain.specs.query.Calls.{own_query_calls, query_whole_first}

-- an argument rule of the command is broken, other than those on data in a bucket; a token has 31 bits
abbrev pub is_bad : WireState → Command → Bool
is_bad w Noop = false
is_bad w (SetToken token) = nat_lt LAST_TOKEN token
is_bad w (Bucket c) = bucket_command_is_bad w.buckets c
is_bad w (Object c) = object_is_bad w.es c
is_bad w (Image c) = image_is_bad w.es c
is_bad w (Draw c) = false
is_bad w (Query c) = false

-- the words of a command's data, if it may have data in a bucket
abbrev pub data_words : Command → Option DataWords
data_words Noop = None
data_words (SetToken token) = None
data_words (Bucket c) = None
data_words (Object c) = object_data_words c
data_words (Image c) = image_data_words c
data_words (Draw c) = None
data_words (Query c) = None

-- the bucket that a command's reply goes into, if it goes into one
abbrev pub reply_bucket : Command → Option ℕ
reply_bucket Noop = None
reply_bucket (SetToken token) = None
reply_bucket (Bucket c) = None
reply_bucket (Object c) = None
reply_bucket (Image c) = None
reply_bucket (Draw c) = None
reply_bucket (Query c) = query_bucket c

-- the data of a command: the bytes of its bucket, or those that come beside it
abbrev pub given_to : WireState → Command → List ℕ → List ℕ
given_to w c payload = data_given w.buckets (data_words c) payload

-- the bytes that a command has as its data are those that its words name
abbrev pub IsCommandData : Command → List ℕ → Type 0
IsCommandData Noop payload = Unit {0}
IsCommandData (SetToken token) payload = Unit {0}
IsCommandData (Bucket c) payload = IsBucketData c payload
IsCommandData (Object c) payload = IsObjectData c payload
IsCommandData (Image c) payload = IsImageData c payload
IsCommandData (Draw c) payload = Unit {0}
IsCommandData (Query c) payload = Unit {0}

-- the code that a command with its data is refused with, if any
abbrev pub command_refusal : EsState → Command → List ℕ → Option GlError
command_refusal s Noop payload = None
command_refusal s (SetToken token) payload = None
command_refusal s (Bucket c) payload = None
command_refusal s (Object c) payload = object_command_refusal s c payload
command_refusal s (Image c) payload = image_command_refusal s c
command_refusal s (Draw c) payload = draw_command_refusal (sources_of s) c
command_refusal s (Query c) payload = query_command_refusal s c

-- the images that a command needs written whole before its own driver call, in order
abbrev pub whole_first : WireState → Command → List AnyImage
whole_first w Noop = []
whole_first w (SetToken token) = []
whole_first w (Bucket c) = []
whole_first w (Object c) = []
whole_first w (Image c) = image_whole_first w.es w.covers c
whole_first w (Draw c) = draw_whole_first (sources_of w.es) c
whole_first w (Query c) = query_whole_first w.es c

-- the state behind the zeroings of a command
abbrev pub zeroed : WireState → Command → WireState
zeroed w c = record w { covers = all_filled w.es.textures.objects w.covers (whole_first w c); marks = all_marked w.marks (whole_first w c) }

-- what a step of OpenGL ES leaves of the state of the service
abbrev pub on_wire : WireState → Outcome EsState → Outcome WireState
on_wire w out = record { state = record w { es = out.state }; oracle = out.oracle; reply = out.reply }

-- a command that is not refused, behind its zeroings
abbrev pub own_step : WireState → Command → List ℕ → Oracle → Outcome WireState
own_step w Noop payload o = leaves w o
own_step w (SetToken token) payload o = leaves (record w { token = token }) o
own_step w (Bucket c) payload o = record { state = record w { buckets = buckets_after w.buckets c payload }; oracle = o; reply = bucket_reply w.buckets c }
own_step w (Object c) payload o = on_wire (record w { covers = object_covers w.es c o w.covers; marks = object_marks w.es c o w.marks }) (object_step w.es c payload o)
own_step w (Image c) payload o = on_wire (record w { covers = image_covers w.es c payload o w.covers; marks = image_marks w.es c o w.marks }) (image_step w.es c payload o)
own_step w (Draw c) payload o = leaves (record w { es = draw_effect w.es c }) o
own_step w (Query c) payload o = on_wire w (query_step w.es c o)

-- a refused command records its code, and does nothing else (section 2.5)
abbrev pub step_by : Option GlError → WireState → Command → List ℕ → Oracle → Outcome WireState
step_by (Some e) w c payload o = leaves (record w { es = with_error w.es e }) o
step_by None w c payload o = own_step (zeroed w c) c payload o

-- one command, with its data
abbrev pub wire_step : WireState → Command → List ℕ → Oracle → Outcome WireState
wire_step w c payload o = step_by (command_refusal w.es c payload) w c payload o

-- the driver calls of a command's name, with driver names
abbrev pub own_calls : WireState → Command → List ℕ → Oracle → List DriverCall
own_calls w Noop payload o = []
own_calls w (SetToken token) payload o = []
own_calls w (Bucket c) payload o = []
own_calls w (Object c) payload o = own_object_calls w.es c payload o
own_calls w (Image c) payload o = own_image_calls w.es c payload
own_calls w (Draw c) payload o = own_draw_calls (sources_of w.es) c
own_calls w (Query c) payload o = own_query_calls w.es c

-- a refused command makes no driver call; any other makes its zeroings, and then its own
abbrev pub calls_by : Option GlError → WireState → Command → List ℕ → Oracle → List DriverCall
calls_by (Some e) w c payload o = []
calls_by None w c payload o = zeroings w.es.textures.objects w.covers w.marks (whole_first w c) ++ own_calls w c payload o

-- all driver calls of a command
abbrev pub command_calls : WireState → Command → List ℕ → Oracle → List DriverCall
command_calls w c payload o = calls_by (command_refusal w.es c payload) w c payload o
