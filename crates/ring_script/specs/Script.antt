-- The script that a text stands for, or its first line outside the grammar.
use Rattle.std.specs.Prelude.{◌≡◌, ℕ, ◌+◌, ◌-◌, ◌≤◌, List, [], ◌∷◌, length, take, ◌==◌, if◌then◌else◌, Option, Some, None, Result, Ok, Err, IsOk}
use Rattle.std.specs.List.{onto_first}
use Rattle.cb_shm.specs.declared.script.Script.{Script}
use Rattle.gl_plain.specs.Fields.{◌>>=◌, line_feed}
use Rattle.ring_script.specs.Lines.{line_in}
use Rattle.ring_script.specs.Rules.{draft_after, empty_draft, script_of}
use Rattle.ring_script.specs.declared.draft.Draft.{Draft}

-- the lines of a text: each ends with a line feed, which the last may lack
abbrev pub lines_of : List ℕ → List (List ℕ)
lines_of [] = []
lines_of (c ∷ cs) = if c == line_feed then [] ∷ lines_of cs else onto_first c (lines_of cs)

-- what the lines before say together with the next line, where it is in the grammar and may stand there
abbrev pub draft_with : List ℕ → Draft → Option Draft
draft_with line draft = line_in line >>= draft_after draft

-- what is read from a draft on, or the number of the line that has none
abbrev pub or_bad : ℕ → (Draft → Result Draft ℕ) → Option Draft → Result Draft ℕ
or_bad k read None = Err k
or_bad k read (Some draft) = read draft

-- what the lines from number k on say with those before, or the number of the first that is outside the grammar
abbrev pub lines_read : ℕ → Draft → List (List ℕ) → Result Draft ℕ
lines_read k draft [] = Ok draft
lines_read k draft (line ∷ lines) = or_bad k (λ next. lines_read (k + 1) next lines) (draft_with line draft)

-- the script that a draft gives, where the lines were read
abbrev pub script_read : Result Draft ℕ → Result Script ℕ
script_read (Ok draft) = Ok (script_of draft)
script_read (Err k) = Err k

-- the script that a text stands for, or the number of its first line outside the grammar, from 1
abbrev pub script_in : List ℕ → Result Script ℕ
script_in text = script_read (lines_read 1 empty_draft (lines_of text))

-- line k, from 1, is the first outside the grammar: those before it are in it, and with it they aren't
pub record IsFirstBad (lines : List (List ℕ)) (k : ℕ) : Type 0 where
  pub from_one : 1 ≤ k
  pub to_last : k ≤ length lines
  pub before : IsOk (lines_read 1 empty_draft (take (k - 1) lines))
  pub with_it : lines_read 1 empty_draft (take k lines) ≡ Err k
