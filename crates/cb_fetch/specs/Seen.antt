-- The commands of a ring as they are read, where a copy gives what memory holds at its number.
use Rattle.std.specs.Prelude.{◌≡◌, ℕ, ◌+◌, ◌-◌, ◌*◌, ◌/◌, ◌==◌, min, if◌then◌else◌, List, [], ◌∷◌, ◌++◌, length, Option, Some, None}
use Prim.Native.Nat.{zero, suc}
use Rattle.std.specs.Option.{unwrap_or}
use Rattle.gl_plain.specs.declared.commands.Malformed.{Malformed}
use Rattle.gl_plain.specs.declared.commands.Fetched.{Fetched}
use Rattle.cb_format.specs.declared.layouts.Plan.{Plan}
use Rattle.cb_format.specs.declared.layouts.Plan.TheVariants as plan
use Rattle.gl_plain.specs.declared.commands.Stop.{Stop}
use Rattle.gl_plain.specs.Bytes.{part, word_at, words_from}
use Rattle.cb_format.specs.Plans.{plan_of, data_count}
use Rattle.cb_format.specs.Ring.{number_in, size_in, first_fault, range_fault, next_get}
use Rattle.cb_shm.specs.declared.script.Script.{Script}
use Rattle.cb_shm.specs.Memory.{CopyEntry}
use Rattle.cb_shm.specs.Hostile.{script_sizes, bytes_at}
use Rattle.gl_base.specs.declared.limits.TheConstants.{COPY_LIMIT}
use Rattle.cb_fetch.specs.Begun.{word_count}

-- what a copy gives: by its number, its region, its offset and its count
abbrev pub Reads : Type 0
Reads = ℕ → ℕ → ℕ → ℕ → List ℕ

-- each copy, from this number on, gave what is read at its number
abbrev pub AreGiven : Reads → ℕ → List CopyEntry → Type 0
AreGiven reads n [] = Unit {0}
AreGiven reads n (c ∷ cs) = (reads n c.region c.offset (length c.bytes) ≡ c.bytes) × AreGiven reads (n + 1) cs

-- the header at get, which is copy n
abbrev pub header_read : Reads → ℕ → ℕ → ℕ
header_read reads n get = word_at (reads n 0 (4 * get) 4) 0

-- how many words are read
abbrev pub words_count : Reads → ℕ → ℕ → ℕ
words_count reads n get = word_count (header_read reads n get)

-- the words behind the header, all in the next copy
abbrev pub words_read : Reads → ℕ → ℕ → List ℕ
words_read reads n get = words_from (reads (n + 1) 0 (4 * (get + 1)) (4 * words_count reads n get)) 0 (words_count reads n get)

-- the range that the words name
abbrev pub plan_read : Reads → ℕ → ℕ → Plan
plan_read reads n get = plan_of (number_in (header_read reads n get)) (words_read reads n get)

-- the first k pieces of a range, from copy n on: 4,096 bytes each, and the last one shorter
abbrev pub pieces_read : Reads → ℕ → ℕ → ℕ → ℕ → ℕ → List ℕ
pieces_read reads n region offset count zero = []
pieces_read reads n region offset count (suc k) = pieces_read reads n region offset count k ++ reads (n + k) region (offset + COPY_LIMIT * k) (min COPY_LIMIT (count - COPY_LIMIT * k))

-- how many pieces so many bytes are
abbrev pub piece_count : ℕ → ℕ
piece_count count = (count + (COPY_LIMIT - 1)) / COPY_LIMIT

-- the data of a plan, from copy n on
abbrev pub data_read : Reads → ℕ → Plan → List ℕ
data_read reads n plan.Nothing = []
data_read reads n (plan.Read region offset count) = pieces_read reads n region offset count (piece_count count)
data_read reads n (plan.Write region offset count) = []

-- the command at get, whose header is copy n
unfoldable pub command_at : Reads → ℕ → ℕ → Fetched
command_at reads n get = record {
  number = number_in (header_read reads n get);
  words = record { items = words_read reads n get };
  payload = data_read reads (n + 2) (plan_read reads n get);
  place = get;
}

-- how many copies it takes: the header, the words if there are any, and the pieces of its data
abbrev pub copies_at : Reads → ℕ → ℕ → ℕ
copies_at reads n get = if words_count reads n get == 0 then 1 else 2 + piece_count (data_count (plan_read reads n get))

-- the first test that fails, if one does; the sixth is tried where the five before hold
abbrev pub first_of : Option Malformed → Option Malformed → Option Malformed
first_of (Some kind) sixth = Some kind
first_of None sixth = sixth

-- the first of the six tests that fails at the command at get
unfoldable pub fault_at : Reads → (ℕ → Option ℕ) → ℕ → ℕ → ℕ → ℕ → Option Malformed
fault_at reads sizes entries put n get = first_of (first_fault entries put get (header_read reads n get)) (range_fault sizes (plan_read reads n get))

-- commands as read, and the malformed one that ends the list, if any
pub record Seen : Type 0 where
  pub commands : List Fetched
  pub stop : Option Stop

-- no command, and no malformed one
abbrev pub none_seen : Seen
none_seen = record { commands = []; stop = None }

-- the list that begins with this command, or ends before it
abbrev pub seen_first : Option Malformed → Fetched → Seen → Seen
seen_first (Some kind) f rest = record { commands = []; stop = Some (record { kind = kind; place = f.place }) }
seen_first None f rest = record { commands = f ∷ rest.commands; stop = rest.stop }

-- the first k commands from get up to put, the first of them from copy n on, and then what is seen from the next copy on
abbrev pub seen_from : Reads → (ℕ → Option ℕ) → ℕ → ℕ → ℕ → ℕ → ℕ → (ℕ → Seen) → Seen
seen_from reads sizes entries put zero n get after = none_seen
seen_from reads sizes entries put (suc k) n get after =
    if get == put then after n
    else seen_first (fault_at reads sizes entries put n get) (command_at reads n get)
    (seen_from reads sizes entries put k (n + copies_at reads n get) (next_get entries get (size_in (header_read reads n get))) after)

-- the commands up to each put in order, which is taken when get has come to the put before; no more than the ring has entries fit
-- between two of them
abbrev pub seen_puts : Reads → (ℕ → Option ℕ) → ℕ → ℕ → ℕ → List ℕ → Seen
seen_puts reads sizes entries n get [] = none_seen
seen_puts reads sizes entries n get (put ∷ puts) = seen_from reads sizes entries put entries n get (λ m. seen_puts reads sizes entries m put puts)

-- what a copy of a script's memory gives
abbrev pub script_reads : Script → Reads
script_reads s n region offset count = part (unwrap_or (bytes_at s n region) []) offset count

-- all commands of a script, as read: the first is read from copy 0 on, at entry 0
abbrev pub seen : Script → Seen
seen s = seen_puts (script_reads s) (script_sizes s) s.entries 0 0 s.puts
