-- Text that is written in blocks.
use Rattle.std.specs.Prelude.{◌≡◌, ◌⊎◌, ℕ, List, ◌++◌, Option}
use Rattle.std.specs.Io.KnownBytes.{Appends}
use Rattle.io_edge.specs.Causes.{Rose}
use Rattle.io_edge.specs.Pieces.{AppendsFront}
use Rattle.report_text.specs.Ends.{end_text}
use Rattle.report_text.specs.declared.end.End.TheVariants.{NoMemory}
use Rattle.report_text.specs.declared.statuses.TheConstants.{WRITE_FAULT, NO_MEMORY}

-- the sink gained the text but for what waits to be written
pub record HasWritten (before after : Option (List ℕ)) (text waiting : List ℕ) : Type 0 where
  pub written : List ℕ
  pub whole : text ≡ written ++ waiting
  pub gained : Appends before after written

-- the same of some front of the text
abbrev pub HasWrittenFront : Option (List ℕ) → Option (List ℕ) → List ℕ → List ℕ → Type 0
HasWrittenFront before after text waiting = (front rest : List ℕ) × (text ≡ front ++ rest) × HasWritten before after front waiting

-- the sink gained the text, and behind it a front of the line that says that there was no memory
abbrev pub AppendsCut : Option (List ℕ) → Option (List ℕ) → List ℕ → Type 0
AppendsCut before after text = (told left : List ℕ) × (end_text NoMemory ≡ told ++ left) × Appends before after (text ++ told)

-- the same of some front of the text
abbrev pub AppendsFrontCut : Option (List ℕ) → Option (List ℕ) → List ℕ → Type 0
AppendsFrontCut before after text = (front rest : List ℕ) × (text ≡ front ++ rest) × AppendsCut before after front

-- there was no memory for what comes behind the text; or a write of the text failed
abbrev pub ClosesShort : List ℕ → ℕ → Option (List ℕ) → Option (List ℕ) → ℕ → ℕ → Type 0
ClosesShort text status before after was is =
    ((status ≡ NO_MEMORY) × AppendsCut before after text)
    ⊎ ((status ≡ WRITE_FAULT) × Rose was is × AppendsFront before after text)
