-- Worked rows, as the definitions answer them.
use Rattle.std.proofs.Common.{◌≡◌, ℕ, List, [], ◌∷◌, None, Some, refl}
use Rattle.gl_base.specs.declared.limits.TheConstants.{DEFAULT_SURFACE}
use Rattle.gl_plain.specs.declared.commands.Fetched.{Fetched}
use Rattle.gl_plain.specs.declared.commands.Malformed.{Malformed}
use Rattle.gl_plain.specs.declared.commands.Malformed.TheVariants.{InvalidSize, OutOfBounds, UnknownCommand}
use Rattle.cb_format.specs.Layouts.{layout_of}
use Rattle.gl_plain.specs.Oracle.{no_answers}
use Rattle.cb_format.specs.Ring.{first_fault}
use Rattle.cb_shm.specs.declared.script.Script.{Script}
use Rattle.cb_fetch.specs.Seen.{Seen, seen, command_at, fault_at}

-- a ring whose bytes do not change
abbrev ring : ℕ → List ℕ → ℕ → Script
ring entries bytes put = record { surface = DEFAULT_SURFACE; entries = entries; regions = []; opening = record { region = 0; offset = 0; bytes = bytes } ∷ []; timed = []; puts = put ∷ []; answers = no_answers }

abbrev command : ℕ → List ℕ → ℕ → Fetched
command number words place = record { number = number; words = record { items = words }; payload = []; place = place }

abbrev ends : List Fetched → Malformed → ℕ → Seen
ends commands kind place = record { commands = commands; stop = Some (record { kind = kind; place = place }) }

-- a word 0 is a command of size 0
word_zero : seen (ring 4 [] 1) ≡ ends [] InvalidSize 0
unfolding first_fault layout_of command_at fault_at
word_zero = refl

-- a Noop of two entries where one is ready; a put that is the number of entries
not_ready : seen (ring 4 (2 ∷ 0 ∷ 0 ∷ 0 ∷ []) 1) ≡ ends [] OutOfBounds 0
unfolding first_fault layout_of command_at fault_at
not_ready = refl

put_too_high : seen (ring 4 (1 ∷ 0 ∷ 0 ∷ 0 ∷ []) 4) ≡ ends [] OutOfBounds 0
unfolding first_fault layout_of command_at fault_at
put_too_high = refl

-- three Noops, and then a number that no command has
unknown : seen (ring 8 (1 ∷ 0 ∷ 0 ∷ 0 ∷ 1 ∷ 0 ∷ 0 ∷ 0 ∷ 1 ∷ 0 ∷ 0 ∷ 0 ∷ 1 ∷ 0 ∷ 0xE0 ∷ 0xFF ∷ []) 4)
    ≡ ends (command 0 [] 0 ∷ command 0 [] 1 ∷ command 0 [] 2 ∷ []) UnknownCommand 3
unfolding first_fault layout_of command_at fault_at
unknown = refl

-- GenBuffers 1, and BindBuffer ARRAY_BUFFER 1
two_commands : seen (ring 8 (2 ∷ 0 ∷ 0x20 ∷ 0x20 ∷ 1 ∷ 0 ∷ 0 ∷ 0 ∷ 3 ∷ 0 ∷ 0x40 ∷ 0x20 ∷ 0x92 ∷ 0x88 ∷ 0 ∷ 0 ∷ 1 ∷ 0 ∷ 0 ∷ 0 ∷ []) 5)
    ≡ record { commands = command 257 (1 ∷ []) 0 ∷ command 258 (0x8892 ∷ 1 ∷ []) 2 ∷ []; stop = None }
unfolding first_fault layout_of command_at fault_at
two_commands = refl

-- a Noop of three entries, and then a command of two where one is left before the ring's end
across_the_end : seen (record { surface = DEFAULT_SURFACE; entries = 4; regions = []; opening = record { region = 0; offset = 0; bytes = 3 ∷ 0 ∷ 0 ∷ 0 ∷ [] } ∷ record { region = 0; offset = 12; bytes = 2 ∷ 0 ∷ 0x20 ∷ 0 ∷ [] } ∷ []; timed = []; puts = 3 ∷ 0 ∷ []; answers = no_answers })
    ≡ ends (command 0 [] 0 ∷ []) OutOfBounds 3
unfolding first_fault layout_of command_at fault_at
across_the_end = refl

-- SetToken 7, whose header is overwritten by a word 0 just before a copy
abbrev overwritten_at : ℕ → Script
overwritten_at copy = record {
  surface = DEFAULT_SURFACE;
  entries = 4;
  regions = [];
  opening = record { region = 0; offset = 0; bytes = 2 ∷ 0 ∷ 0x20 ∷ 0 ∷ 7 ∷ 0 ∷ 0 ∷ 0 ∷ [] } ∷ [];
  timed = record { copy = copy; region = 0; offset = 0; bytes = 0 ∷ 0 ∷ 0 ∷ 0 ∷ [] } ∷ [];
  puts = 2 ∷ [];
  answers = no_answers;
}

-- the header is read at copy 0, and not again
too_late : seen (overwritten_at 1) ≡ record { commands = command 1 (7 ∷ []) 0 ∷ []; stop = None }
unfolding first_fault layout_of command_at fault_at
too_late = refl

in_time : seen (overwritten_at 0) ≡ ends [] InvalidSize 0
unfolding first_fault layout_of command_at fault_at
in_time = refl

-- two of three bytes of data
abbrev with_data : ℕ → Script
with_data offset = record {
  surface = DEFAULT_SURFACE;
  entries = 16;
  regions = record { id = 1; size = 3 } ∷ [];
  opening = record { region = 0; offset = 0; bytes = 8 ∷ 0 ∷ 0x60 ∷ 0x20 ∷ 0x92 ∷ 0x88 ∷ 0 ∷ 0 ∷ 2 ∷ 0 ∷ 0 ∷ 0 ∷ 0xE4 ∷ 0x88 ∷ 0 ∷ 0 ∷ 1 ∷ 0 ∷ 0 ∷ 0 ∷ 2 ∷ 0 ∷ 0 ∷ 0 ∷ 1 ∷ 0 ∷ 0 ∷ 0 ∷ offset ∷ 0 ∷ 0 ∷ 0 ∷ [] }
      ∷ record { region = 1; offset = 0; bytes = 5 ∷ 6 ∷ 7 ∷ [] } ∷ [];
  timed = [];
  puts = 8 ∷ [];
  answers = no_answers;
}

data_inside : seen (with_data 1) ≡ record { commands = record (command 259 (0x8892 ∷ 2 ∷ 0x88E4 ∷ 1 ∷ 2 ∷ 1 ∷ 1 ∷ []) 0) { payload = 6 ∷ 7 ∷ [] } ∷ []; stop = None }
unfolding first_fault layout_of command_at fault_at
data_inside = refl

-- the sixth test
data_outside : seen (with_data 2) ≡ ends [] OutOfBounds 0
unfolding first_fault layout_of command_at fault_at
data_outside = refl
