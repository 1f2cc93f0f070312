-- Where each kind of line may stand, and what the lines so far say.
use Rattle.std.specs.Prelude.{ℕ, Bool, true, false, ◌+◌, [], ◌∷◌, ◌++◌, length, ◌==◌, ◌&&◌, nat_le, if◌then◌else◌, Option, Some, None, is_none, unwrap_or}
use Rattle.gl_plain.specs.Regions.{is_inside}
use Rattle.gl_plain.specs.declared.memory.Patch.{Patch}
use Rattle.gl_plain.specs.declared.memory.Region.{Region}
use Rattle.gl_plain.specs.declared.memory.Timed.{Timed}
use Rattle.cb_shm.specs.Hostile.{listed_size, script_sizes}
use Rattle.cb_shm.specs.Whole.{IsWholeScript}
use Rattle.cb_shm.specs.declared.script.Script.{Script}
use Rattle.gl_base.specs.declared.limits.TheConstants.{DATA_LIMIT, DEFAULT_SURFACE, DEFAULT_ENTRIES, LEAST_ENTRIES, MOST_ENTRIES, LAST_REGION, SIDE_LIMIT, TOTAL_LIMIT}
use Rattle.gl_plain.specs.declared.common_lines.CommonLine.{CommonLine}
use Rattle.gl_plain.specs.declared.common_lines.CommonLine.TheVariants.{Surface, Ring, Oom, Lost, Compile, Link, OfAttribute, OfUniform, Validate, Pixels}
use Rattle.gl_plain.specs.declared.common_lines.AnswersDraft.{AnswersDraft}
use Rattle.gl_plain.specs.CommonLines.{no_draft, answers_in, closed, with_attribute, with_compile, with_link, with_lost, with_oom, with_pixels, with_uniform, with_validate, IsSoundDraft}
use Rattle.ring_script.specs.Limits.{total_bytes, IsWithinLimits}
use Rattle.ring_script.specs.declared.draft.Draft.{Draft}
use Rattle.ring_script.specs.declared.line.Line.{Line}
use Rattle.ring_script.specs.declared.line.Line.TheVariants.{PassedOver, Region as OfRegion, Opening, At, Put, Common}

-- what is said before the first line
abbrev pub empty_draft : Draft
empty_draft = record { surface = None; ring = None; regions = []; opening = []; timed = []; puts = []; answers = no_draft }

-- without a `ring` line the ring has 4,096 entries
abbrev pub entries_of : Draft → ℕ
entries_of draft = unwrap_or draft.ring DEFAULT_ENTRIES

-- the script that the lines say; without a `surface` line the default framebuffer has 64 by 64 pixels
abbrev pub script_of : Draft → Script
script_of draft = record {
  surface = unwrap_or draft.surface DEFAULT_SURFACE;
  entries = entries_of draft;
  regions = draft.regions;
  opening = draft.opening;
  timed = draft.timed;
  puts = draft.puts;
  answers = answers_in draft.answers;
}

-- from 1 to 2,048 columns or rows
abbrev pub is_side : ℕ → Bool
is_side n = nat_le 1 n && nat_le n SIDE_LIMIT

-- `surface` stands once, anywhere
unfoldable pub with_surface : Draft → ℕ → ℕ → Option Draft
with_surface draft width height = if is_none draft.surface && is_side width && is_side height then Some (record draft { surface = Some (width, height) }) else None

-- no line has said anything so far, but perhaps of the surface and of the driver's answers
abbrev pub is_first : Draft → Bool
is_first draft = is_none draft.ring && (length draft.regions == 0) && (length draft.opening == 0) && (length draft.timed == 0) && (length draft.puts == 0)

-- `ring` stands once, before any other line that says something but those on the surface and on the driver's answers, with 2 to 1,048,576 entries
unfoldable pub with_ring : Draft → ℕ → Option Draft
with_ring draft n = if is_first draft && nat_le LEAST_ENTRIES n && nat_le n MOST_ENTRIES then Some (record draft { ring = Some n }) else None

-- `region` gives a number from 1 to 255 once, and at most 67,108,864 bytes; all regions have at most 268,435,456 with the ring
unfoldable pub with_region : Draft → Region → Option Draft
with_region draft r =
    if nat_le 1 r.id && nat_le r.id LAST_REGION && is_none (listed_size draft.regions r.id) && nat_le r.size DATA_LIMIT && nat_le (total_bytes (script_of draft) + r.size) TOTAL_LIMIT
    then Some (record draft { regions = draft.regions ++ r ∷ [] }) else None

-- `bytes` lies in a region that stands before it
unfoldable pub with_opening : Draft → Patch → Option Draft
with_opening draft p =
    if is_inside (script_sizes (script_of draft)) p.region p.offset (length p.bytes)
    then Some (record draft { opening = draft.opening ++ p ∷ [] }) else None

-- `at` lies in a region that stands before it
unfoldable pub with_timed : Draft → Timed → Option Draft
with_timed draft t =
    if is_inside (script_sizes (script_of draft)) t.region t.offset (length t.bytes)
    then Some (record draft { timed = draft.timed ++ t ∷ [] }) else None

-- `put` stands anywhere, and any number of times
abbrev pub with_put : Draft → ℕ → Draft
with_put draft put = record draft { puts = draft.puts ++ put ∷ [] }

-- the answers that the lines so far say, with those of a line
abbrev pub with_answers : Draft → Option AnswersDraft → Option Draft
with_answers draft None = None
with_answers draft (Some answers) = Some (record draft { answers = answers })

-- a line that traces have as well: those on the driver's answers stand anywhere, `oom` with each question once, `lost` once, and `attr` and
-- `uniform` in the list of the last link
unfoldable pub with_common : Draft → CommonLine → Option Draft
with_common draft (Surface width height) = with_surface draft width height
with_common draft (Ring n) = with_ring draft n
with_common draft (Oom question) = with_answers draft (with_oom draft.answers question)
with_common draft (Lost call) = with_answers draft (with_lost draft.answers call)
with_common draft (Compile v) = with_answers draft (with_compile draft.answers v)
with_common draft (Link v) = with_answers draft (with_link draft.answers v)
with_common draft (OfAttribute a) = with_answers draft (with_attribute draft.answers a)
with_common draft (OfUniform u) = with_answers draft (with_uniform draft.answers u)
with_common draft (Validate v) = with_answers draft (with_validate draft.answers v)
with_common draft (Pixels bytes) = with_answers draft (Some (with_pixels draft.answers bytes))

-- whether a line that traces have as well ends the list of the last link
abbrev pub ends_list_of_link : CommonLine → Bool
ends_list_of_link (Surface width height) = true
ends_list_of_link (Ring n) = true
ends_list_of_link (Oom question) = true
ends_list_of_link (Lost call) = true
ends_list_of_link (Compile v) = true
ends_list_of_link (Link v) = true
ends_list_of_link (OfAttribute a) = false
ends_list_of_link (OfUniform u) = false
ends_list_of_link (Validate v) = true
ends_list_of_link (Pixels bytes) = true

-- whether a line does: empty lines, comments, and lines on the link's attributes and uniforms do not
abbrev pub ends_list : Line → Bool
ends_list PassedOver = false
ends_list (OfRegion r) = true
ends_list (Opening p) = true
ends_list (At t) = true
ends_list (Put put) = true
ends_list (Common line) = ends_list_of_link line

-- what the lines before say, where the list of the last link ends before this line if the line ends it
abbrev pub before_line : Draft → Line → Draft
before_line draft line = if ends_list line then record draft { answers = closed draft.answers } else draft

-- what the lines before say together with a line that stands after them
unfoldable pub with_line : Draft → Line → Option Draft
with_line draft PassedOver = Some draft
with_line draft (OfRegion r) = with_region draft r
with_line draft (Opening p) = with_opening draft p
with_line draft (At t) = with_timed draft t
with_line draft (Put put) = Some (with_put draft put)
with_line draft (Common line) = with_common draft line

-- what the lines before say together with a line that may stand after them
unfoldable pub draft_after : Draft → Line → Option Draft
draft_after draft line = with_line (before_line draft line) line

-- the lines so far say a whole script within the limits, and answers that a driver may give
pub record IsSound (draft : Draft) : Type 0 where
  pub whole : IsWholeScript (script_of draft)
  pub limits : IsWithinLimits (script_of draft)
  pub answers : IsSoundDraft draft.answers
