-- The lines that scripts and traces share.
use Rattle.std.specs.Prelude.{ℕ, Bool, true, false, List, [], ◌∷◌, ◌++◌, length, ◌==◌, ◌&&◌, not, is_none, if◌then◌else◌, codes, Option, Some, None, nat_eq, IsTrue}
use Rattle.std.specs.List.{list_all}
use Rattle.std.specs.Cmp.Lexicographic.{pointwise}
use Rattle.gl_base.specs.declared.gl_enum.GlEnum.{GlEnum}
use Rattle.gl_base.specs.declared.enums.TheConstants.{FLOAT, FLOAT_VEC2, FLOAT_VEC3, FLOAT_VEC4, FLOAT_MAT2, FLOAT_MAT3, FLOAT_MAT4, INT, INT_VEC2, INT_VEC3, INT_VEC4, BOOL, BOOL_VEC2, BOOL_VEC3, BOOL_VEC4, SAMPLER_2D, SAMPLER_CUBE}
use Rattle.gl_plain.specs.declared.driver_calls.Answer.{Answer}
use Rattle.gl_plain.specs.declared.driver_calls.Answer.TheVariants as answer
use Rattle.gl_plain.specs.declared.driver_calls.Answers.{Answers}
use Rattle.gl_plain.specs.declared.programs.Attribute.{Attribute}
use Rattle.gl_plain.specs.declared.programs.LinkAnswer.{LinkAnswer}
use Rattle.gl_plain.specs.declared.programs.Uniform.{Uniform}
use Rattle.gl_plain.specs.declared.programs.Verdict.{Verdict}
use Rattle.gl_plain.specs.declared.common_lines.CommonLine.{CommonLine}
use Rattle.gl_plain.specs.declared.common_lines.CommonLine.TheVariants.{Surface, Ring, Oom, Lost, Compile, Link, OfAttribute, OfUniform, Validate, Pixels}
use Rattle.gl_plain.specs.declared.common_lines.AnswersDraft.{AnswersDraft}
use Rattle.gl_plain.specs.subjects.Links.{is_log, is_sound_link, may_follow, may_follow_uniforms}
use Rattle.gl_plain.specs.Oracle.{compile_in, link_in, validate_in}
use Rattle.gl_plain.specs.Distinct.{is_listed}
use Rattle.gl_plain.specs.Fields.{◌>>=◌, space, cut_at, number_in, bytes_in}

-- the bytes are those of this word
abbrev pub is_word : List ℕ → List ℕ → Bool
is_word word bytes = pointwise nat_eq bytes word

-- `surface W H`, after its word
unfoldable pub surface_in : List ℕ → Option CommonLine
surface_in text = do
  parts ← cut_at space text
  width ← number_in parts.0
  height ← number_in parts.1
  Some (Surface width height)

-- `ring N`, after its word
unfoldable pub ring_in : List ℕ → Option CommonLine
ring_in text = do
  entries ← number_in text
  Some (Ring entries)

-- `oom N`, after its word
unfoldable pub oom_in : List ℕ → Option CommonLine
oom_in text = do
  question ← number_in text
  Some (Oom question)

-- `lost N`, after its word
unfoldable pub lost_in : List ℕ → Option CommonLine
lost_in text = do
  call ← number_in text
  Some (Lost call)

-- `ok` or `fail`
unfoldable pub outcome_in : List ℕ → Option Bool
outcome_in text = if is_word (codes "ok") text then Some true else if is_word (codes "fail") text then Some false else None

-- `ok HEX` or `fail HEX`: whether it went well, and the log
unfoldable pub verdict_in : List ℕ → Option Verdict
verdict_in text = do
  parts ← cut_at space text
  ok ← outcome_in parts.0
  log ← bytes_in parts.1
  Some (record { ok = ok; log = log })

-- the names of kinds of attributes and uniforms
unfoldable pub floats_named : List ℕ → Option GlEnum
floats_named text =
    if is_word (codes "FLOAT") text then Some FLOAT
    else if is_word (codes "FLOAT_VEC2") text then Some FLOAT_VEC2
    else if is_word (codes "FLOAT_VEC3") text then Some FLOAT_VEC3
    else if is_word (codes "FLOAT_VEC4") text then Some FLOAT_VEC4
    else None

unfoldable pub matrix_named : List ℕ → Option GlEnum
matrix_named text =
    if is_word (codes "FLOAT_MAT2") text then Some FLOAT_MAT2
    else if is_word (codes "FLOAT_MAT3") text then Some FLOAT_MAT3
    else if is_word (codes "FLOAT_MAT4") text then Some FLOAT_MAT4
    else None

unfoldable pub integers_named : List ℕ → Option GlEnum
integers_named text =
    if is_word (codes "INT") text then Some INT
    else if is_word (codes "INT_VEC2") text then Some INT_VEC2
    else if is_word (codes "INT_VEC3") text then Some INT_VEC3
    else if is_word (codes "INT_VEC4") text then Some INT_VEC4
    else None

unfoldable pub booleans_named : List ℕ → Option GlEnum
booleans_named text =
    if is_word (codes "BOOL") text then Some BOOL
    else if is_word (codes "BOOL_VEC2") text then Some BOOL_VEC2
    else if is_word (codes "BOOL_VEC3") text then Some BOOL_VEC3
    else if is_word (codes "BOOL_VEC4") text then Some BOOL_VEC4
    else None

unfoldable pub sampler_named : List ℕ → Option GlEnum
sampler_named text =
    if is_word (codes "SAMPLER_2D") text then Some SAMPLER_2D
    else if is_word (codes "SAMPLER_CUBE") text then Some SAMPLER_CUBE
    else None

-- the first of two that is there
abbrev pub or_else : {A : Type 0} → Option A → Option A → Option A
or_else (Some x) other = Some x
or_else None other = other

-- the name of a kind
abbrev pub kind_named : List ℕ → Option GlEnum
kind_named text = or_else (floats_named text) (or_else (matrix_named text) (or_else (integers_named text) (or_else (booleans_named text) (sampler_named text))))

-- an enum that is given by its number
abbrev pub enum_numbered : Option ℕ → Option GlEnum
enum_numbered None = None
enum_numbered (Some n) = Some (record { 0 = n })

-- the name of a kind, or else an enum's number
abbrev pub kind_or_number : Option GlEnum → List ℕ → Option GlEnum
kind_or_number (Some kind) text = Some kind
kind_or_number None text = enum_numbered (number_in text)

unfoldable pub kind_in : List ℕ → Option GlEnum
kind_in text = kind_or_number (kind_named text) text

-- a name, a kind and a number
pub record Declaration : Type 0 where
  pub name : List ℕ
  pub kind : GlEnum
  pub number : ℕ

-- `NAME KIND NUMBER`
unfoldable pub declaration_in : List ℕ → Option Declaration
declaration_in text = do
  first ← cut_at space text
  second ← cut_at space first.1
  kind ← kind_in second.0
  number ← number_in second.1
  Some (record { name = first.0; kind = kind; number = number })

-- `compile ok HEX` or `compile fail HEX`, after its word
unfoldable pub compile_line_in : List ℕ → Option CommonLine
compile_line_in text = do
  verdict ← verdict_in text
  Some (Compile verdict)

-- `link ok HEX` or `link fail HEX`, after its word
unfoldable pub link_line_in : List ℕ → Option CommonLine
link_line_in text = do
  verdict ← verdict_in text
  Some (Link verdict)

-- `validate ok HEX` or `validate fail HEX`, after its word
unfoldable pub validate_line_in : List ℕ → Option CommonLine
validate_line_in text = do
  verdict ← verdict_in text
  Some (Validate verdict)

-- `pixels HEX`, after its word
unfoldable pub pixels_line_in : List ℕ → Option CommonLine
pixels_line_in text = do
  bytes ← bytes_in text
  Some (Pixels bytes)

-- `attr NAME KIND LOCATION`, after its word
unfoldable pub attribute_in : List ℕ → Option CommonLine
attribute_in text = do
  d ← declaration_in text
  Some (OfAttribute (record { name = d.name; kind = d.kind; location = d.number }))

-- `uniform NAME KIND SIZE`, after its word
unfoldable pub uniform_in : List ℕ → Option CommonLine
uniform_in text = do
  d ← declaration_in text
  Some (OfUniform (record { name = d.name; kind = d.kind; size = d.number }))

-- a line on what a compilation, a link, a validation or a read says, by its word, and by what follows the space behind the word
unfoldable pub answer_by_word : List ℕ → List ℕ → Option CommonLine
answer_by_word word rest =
    if is_word (codes "compile") word then compile_line_in rest
    else if is_word (codes "link") word then link_line_in rest
    else if is_word (codes "attr") word then attribute_in rest
    else if is_word (codes "uniform") word then uniform_in rest
    else if is_word (codes "validate") word then validate_line_in rest
    else if is_word (codes "pixels") word then pixels_line_in rest
    else None

-- a line by its word, and by what follows the space behind the word
unfoldable pub common_by_word : List ℕ → List ℕ → Option CommonLine
common_by_word word rest =
    if is_word (codes "surface") word then surface_in rest
    else if is_word (codes "ring") word then ring_in rest
    else if is_word (codes "oom") word then oom_in rest
    else if is_word (codes "lost") word then lost_in rest
    else answer_by_word word rest

-- no line on answers was read
abbrev pub no_draft : AnswersDraft
no_draft = record { compile = []; link = []; last = None; validate = []; pixels = []; oom = []; lost = None }

-- the list of the last link ends, if it did not before
abbrev pub closed_by : AnswersDraft → Option LinkAnswer → AnswersDraft
closed_by draft None = draft
closed_by draft (Some a) = record draft { link = draft.link ++ answer.Link a ∷ []; last = None }

abbrev pub closed : AnswersDraft → AnswersDraft
closed draft = closed_by draft draft.last

-- the answers that the lines say
abbrev pub answers_in : AnswersDraft → Answers
answers_in draft = record { compile = draft.compile; link = (closed draft).link; validate = draft.validate; pixels = draft.pixels; oom = draft.oom; lost = draft.lost }

-- `oom` names a question once
unfoldable pub with_oom : AnswersDraft → ℕ → Option AnswersDraft
with_oom draft question = if not (is_listed draft.oom question) then Some (record draft { oom = draft.oom ++ question ∷ [] }) else None

-- `lost` stands once
unfoldable pub with_lost : AnswersDraft → ℕ → Option AnswersDraft
with_lost draft call = if is_none draft.lost then Some (record draft { lost = Some call }) else None

-- `compile` is the next answer of its kind
unfoldable pub with_compile : AnswersDraft → Verdict → Option AnswersDraft
with_compile draft v = if is_log v.log then Some (record draft { compile = draft.compile ++ answer.Compile v.ok v.log ∷ [] }) else None

-- `validate` is the next answer of its kind
unfoldable pub with_validate : AnswersDraft → Verdict → Option AnswersDraft
with_validate draft v = if is_log v.log then Some (record draft { validate = draft.validate ++ answer.Validate v.ok v.log ∷ [] }) else None

-- `pixels` is the next answer of its kind
abbrev pub with_pixels : AnswersDraft → List ℕ → AnswersDraft
with_pixels draft bytes = record draft { pixels = draft.pixels ++ answer.Pixels bytes ∷ [] }

-- a link of which no attribute and no uniform was said
abbrev pub bare_link : Verdict → LinkAnswer
bare_link v = record { ok = v.ok; log = v.log; attributes = []; uniforms = [] }

-- `link` is the next answer of its kind; lines on its attributes and uniforms may follow where it went well
unfoldable pub with_link : AnswersDraft → Verdict → Option AnswersDraft
with_link draft v =
    if not (is_log v.log) then None
    else if v.ok then Some (record (closed draft) { last = Some (bare_link v) })
    else Some (record (closed draft) { link = (closed draft).link ++ answer.Link (bare_link v) ∷ [] })

-- `attr` stands behind `link ok` or its `attr` lines
abbrev pub with_attribute_by : AnswersDraft → Attribute → Option LinkAnswer → Option AnswersDraft
with_attribute_by draft a None = None
with_attribute_by draft a (Some l) =
    if (length l.uniforms == 0) && may_follow l.attributes a then Some (record draft { last = Some (record l { attributes = l.attributes ++ a ∷ [] }) }) else None

unfoldable pub with_attribute : AnswersDraft → Attribute → Option AnswersDraft
with_attribute draft a = with_attribute_by draft a draft.last

-- `uniform` stands behind `link ok` or its lines
abbrev pub with_uniform_by : AnswersDraft → Uniform → Option LinkAnswer → Option AnswersDraft
with_uniform_by draft u None = None
with_uniform_by draft u (Some l) =
    if may_follow_uniforms l.uniforms u then Some (record draft { last = Some (record l { uniforms = l.uniforms ++ u ∷ [] }) }) else None

unfoldable pub with_uniform : AnswersDraft → Uniform → Option AnswersDraft
with_uniform draft u = with_uniform_by draft u draft.last

-- the answers are such as a driver may give
abbrev pub are_sound_answers : Answers → Bool
are_sound_answers given =
    list_all (λ (a : Answer). is_log (compile_in (Some a)).log) given.compile
    && list_all (λ (a : Answer). is_sound_link (link_in (Some a))) given.link
    && list_all (λ (a : Answer). is_log (validate_in (Some a)).log) given.validate

-- a link whose list may still grow went well, and what was said of it so far is such as a driver may say
abbrev pub IsSoundLast : Option LinkAnswer → Type 0
IsSoundLast None = Unit {0}
IsSoundLast (Some l) = IsTrue (l.ok && is_sound_link l)

-- what the lines so far say is such as a driver may answer
pub record IsSoundDraft (draft : AnswersDraft) : Type 0 where
  pub compile : IsTrue (list_all (λ (a : Answer). is_log (compile_in (Some a)).log) draft.compile)
  pub link : IsTrue (list_all (λ (a : Answer). is_sound_link (link_in (Some a))) draft.link)
  pub last : IsSoundLast draft.last
  pub validate : IsTrue (list_all (λ (a : Answer). is_log (validate_in (Some a)).log) draft.validate)
