-- The command that is being read: what was copied of it, and the copy that comes next.
use Rattle.std.specs.Prelude.{ℕ, ◌+◌, ◌-◌, ◌*◌, min, nat_lt, ◌==◌, if◌then◌else◌, List, [], ◌++◌, length, Option, None, Some}
use Rattle.gl_base.specs.declared.limits.TheConstants.{COPY_LIMIT}
use Rattle.gl_plain.specs.declared.commands.Malformed.{Malformed}
use Rattle.gl_plain.specs.declared.commands.Fetched.{Fetched}
use Rattle.gl_plain.specs.Bytes.{word_at, words_from}
use Rattle.cb_format.specs.declared.layouts.Layout.{Layout}
use Rattle.cb_format.specs.declared.layouts.Plan.{Plan}
use Rattle.cb_format.specs.declared.layouts.Plan.TheVariants as plan
use Rattle.cb_format.specs.Layouts.{layout_of}
use Rattle.cb_format.specs.Plans.{plan_of}
use Rattle.cb_format.specs.Ring.{number_in, first_fault, range_fault}

-- what was copied of the command at get: nothing; its header; or its header, all its words, and a front of its data
pub data Begun : Type 0 where
  Nothing : Begun
  Header : ℕ → Begun
  Body : ℕ → List ℕ → List ℕ → Begun

-- a range of shared memory
pub record Range : Type 0 where
  pub region : ℕ
  pub offset : ℕ
  pub count : ℕ

-- how many words a layout has, if there is one
abbrev pub words_in : Option Layout → ℕ
words_in None = 0
words_in (Some l) = l.words

-- how many words the command of a header has; those of a Noop are not read
abbrev pub word_count : ℕ → ℕ
word_count header = words_in (layout_of (number_in header))

-- the header at get
abbrev pub header_range : ℕ → Range
header_range get = record { region = 0; offset = 4 * get; count = 4 }

-- the words behind it
abbrev pub words_range : ℕ → ℕ → Range
words_range get count = record { region = 0; offset = 4 * (get + 1); count = 4 * count }

-- the piece of a range that comes behind so many bytes of it; one copy takes at most 4,096
abbrev pub piece_range : Range → ℕ → Range
piece_range r done = record { region = r.region; offset = r.offset + done; count = min COPY_LIMIT (r.count - done) }

-- the next piece of data of which so many bytes were copied, if some are left
abbrev pub next_piece : Plan → ℕ → Option Range
next_piece plan.Nothing done = None
next_piece (plan.Read region offset count) done = if nat_lt done count then Some (piece_range (record { region = region; offset = offset; count = count }) done) else None
next_piece (plan.Write region offset count) done = None

-- the copy that comes next: the header, then all words, then the data in pieces; none where the command was copied whole
abbrev pub next_range : ℕ → Begun → Option Range
next_range get Nothing = Some (header_range get)
next_range get (Header header) = if word_count header == 0 then None else Some (words_range get (word_count header))
next_range get (Body header words payload) = next_piece (plan_of (number_in header) words) (length payload)

-- what was copied, with one more copy
abbrev pub with_copy : Begun → List ℕ → Begun
with_copy Nothing bytes = Header (word_at bytes 0)
with_copy (Header header) bytes = Body header (words_from bytes 0 (word_count header)) []
with_copy (Body header words payload) bytes = Body header words (payload ++ bytes)

-- the test that fails at what was copied last: the five of a header, the sixth at the words, and none at the data
abbrev pub fault_in : (ℕ → Option ℕ) → ℕ → ℕ → ℕ → Begun → Option Malformed
fault_in sizes entries put get Nothing = None
fault_in sizes entries put get (Header header) = first_fault entries put get header
fault_in sizes entries put get (Body header words payload) = if length payload == 0 then range_fault sizes (plan_of (number_in header) words) else None

-- the header of the command, if it was copied
abbrev pub header_in : Begun → ℕ
header_in Nothing = 0
header_in (Header header) = header
header_in (Body header words payload) = header

-- the command at get that was copied whole
abbrev pub fetched_in : ℕ → Begun → Fetched
fetched_in get Nothing = record { number = 0; words = record { items = [] }; payload = []; place = get }
fetched_in get (Header header) = record { number = number_in header; words = record { items = [] }; payload = []; place = get }
fetched_in get (Body header words payload) = record { number = number_in header; words = record { items = words }; payload = payload; place = get }
