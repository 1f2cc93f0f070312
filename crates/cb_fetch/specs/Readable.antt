-- Commands that were read whole.
use Rattle.std.specs.Prelude.{◌≡◌, length, Some}
use Rattle.cb_format.specs.declared.layouts.Layout.{Layout}
use Rattle.gl_plain.specs.declared.commands.Fetched.{Fetched}
use Rattle.cb_format.specs.Layouts.{layout_of}
use Rattle.cb_format.specs.Plans.{plan_of, data_count}
use Rattle.cb_fetch.specs.declared.outcome.FetchOutcome.{FetchOutcome}
use Rattle.cb_fetch.specs.declared.outcome.FetchOutcome.TheVariants.{Copied, Ready, Idle, Bad, NoMemory}

-- the number is that of a command, the words are as many as its layout says, none of a Noop, and the data is as long as
-- its plan reads
pub record IsReadable (f : Fetched) : Type 0 where
  pub layout : Layout
  pub known : layout_of f.number ≡ Some layout
  pub words : length f.words.items ≡ layout.words
  pub payload : length f.payload ≡ data_count (plan_of f.number f.words.items)

-- a command that an outcome brings is one
abbrev pub BringsReadable : FetchOutcome → Type 0
BringsReadable Copied = Unit {0}
BringsReadable (Ready command) = IsReadable command
BringsReadable Idle = Unit {0}
BringsReadable (Bad kind place) = Unit {0}
BringsReadable NoMemory = Unit {0}
