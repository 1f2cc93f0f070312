-- The lines of a script, each kind by itself.
use Rattle.std.specs.Prelude.{ℕ, List, [], ◌∷◌, ◌==◌, if◌then◌else◌, codes, Option, Some, None}
use Rattle.gl_plain.specs.declared.memory.Patch.{Patch}
use Rattle.gl_plain.specs.declared.common_lines.CommonLine.{CommonLine}
use Rattle.gl_plain.specs.CommonLines.{is_word, common_by_word}
use Rattle.gl_plain.specs.Fields.{◌>>=◌, space, number_sign, cut_at, number_in, bytes_in}
use Rattle.ring_script.specs.declared.line.Line.{Line}
use Rattle.ring_script.specs.declared.line.Line.TheVariants.{PassedOver, Region as OfRegion, Opening, At, Put, Common}

-- `region ID SIZE`, after its word
unfoldable pub region_in : List ℕ → Option Line
region_in text = do
  parts ← cut_at space text
  id ← number_in parts.0
  size ← number_in parts.1
  Some (OfRegion (record { id = id; size = size }))

-- `REGION OFFSET HEX`
unfoldable pub patch_in : List ℕ → Option Patch
patch_in text = do
  first ← cut_at space text
  second ← cut_at space first.1
  region ← number_in first.0
  offset ← number_in second.0
  bytes ← bytes_in second.1
  Some (record { region = region; offset = offset; bytes = bytes })

-- `bytes REGION OFFSET HEX`, after its word
unfoldable pub opening_in : List ℕ → Option Line
opening_in text = do
  patch ← patch_in text
  Some (Opening patch)

-- `at N REGION OFFSET HEX`, after its word
unfoldable pub at_in : List ℕ → Option Line
at_in text = do
  parts ← cut_at space text
  copy ← number_in parts.0
  patch ← patch_in parts.1
  Some (At (record { copy = copy; region = patch.region; offset = patch.offset; bytes = patch.bytes }))

-- `put K`, after its word
unfoldable pub put_in : List ℕ → Option Line
put_in text = do
  put ← number_in text
  Some (Put put)

-- a line that traces have as well
abbrev pub common_in : Option CommonLine → Option Line
common_in None = None
common_in (Some line) = Some (Common line)

-- a line by its word, and by what follows the space behind the word
unfoldable pub line_by_word : List ℕ → List ℕ → Option Line
line_by_word word rest =
    if is_word (codes "region") word then region_in rest
    else if is_word (codes "bytes") word then opening_in rest
    else if is_word (codes "at") word then at_in rest
    else if is_word (codes "put") word then put_in rest
    else common_in (common_by_word word rest)

-- a line that is neither empty nor a comment
unfoldable pub words_in : List ℕ → Option Line
words_in text = cut_at space text >>= (λ parts. line_by_word parts.0 parts.1)

-- a line of the grammar: empty lines and those that begin with `#` are passed over
unfoldable pub line_in : List ℕ → Option Line
line_in [] = Some PassedOver
line_in (c ∷ cs) = if c == number_sign then Some PassedOver else words_in (c ∷ cs)
