-- One call of OpenGL ES: what it replies, and what it leaves.
use Rattle.std.specs.Prelude.{Option, None, Some}
use Rattle.gl_plain.specs.declared.errors.GlError.{GlError}
use Rattle.gl_plain.specs.declared.calls.Call.{Call}
use Rattle.gl_plain.specs.declared.calls.Call.TheVariants.{Object, Image, Raster, Draw, Query}
use Rattle.gl_plain.specs.Oracle.{Oracle}
use Rattle.gl_plain.specs.State.{EsState, sources_of}
use Rattle.gl_plain.specs.Outcome.{Outcome, Choice, leaves, with_error}
use Rattle.gl_plain.specs.object.Refusal.{object_refusal}
use Rattle.gl_plain.specs.object.Step.{object_outcome}
use Rattle.gl_plain.specs.image.Refusal.{image_refusal}
use Rattle.gl_plain.specs.image.Step.{image_outcome}
use Rattle.gl_plain.specs.subjects.Raster.{raster_refusal}
use Rattle.gl_plain.specs.draw.Refusal.{draw_refusal}
use Rattle.gl_plain.specs.draw.Step.{raster_set, draw_call_effect}
use Rattle.gl_plain.specs.query.Refusal.{query_refusal}
use Rattle.gl_plain.specs.query.Step.{query_outcome}

-- the code that a call is refused with, if any
abbrev pub refusal : EsState → Call → Option GlError
refusal s (Object call) = object_refusal s call
refusal s (Image call) = image_refusal s call
refusal s (Raster number words) = raster_refusal number words
refusal s (Draw call) = draw_refusal (sources_of s) call
refusal s (Query call) = query_refusal s call

-- a call that is not refused
abbrev pub outcome : EsState → Choice → Call → Oracle → Outcome EsState
outcome s choice (Object call) o = object_outcome s choice.names call o
outcome s choice (Image call) o = image_outcome s call o
outcome s choice (Raster number words) o = leaves (raster_set s number words) o
outcome s choice (Draw call) o = leaves (draw_call_effect s call) o
outcome s choice (Query call) o = query_outcome s choice.code call o

-- a refused call records its code, and does nothing else (section 2.5)
abbrev pub outcome_by : Option GlError → EsState → Choice → Call → Oracle → Outcome EsState
outcome_by (Some e) s choice call o = leaves (with_error s e) o
outcome_by None s choice call o = outcome s choice call o

-- the whole call, with what it chooses
abbrev pub es_step : EsState → Choice → Call → Oracle → Outcome EsState
es_step s choice call o = outcome_by (refusal s call) s choice call o
