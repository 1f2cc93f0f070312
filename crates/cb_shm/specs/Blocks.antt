-- The bytes of regions, by number.
use Rattle.std.specs.Prelude.{ℕ, ◌+◌, List, [], length, Option, None, Some, nat_le, if◌then◌else◌}
use Rattle.std.specs.Option.{option_map, unwrap_or}
use Rattle.std.specs.Ordering.{nat_cmp}
use Rattle.std.specs.FinMap as map
use Rattle.gl_plain.specs.Bytes.{overwritten, part}

-- the bytes of each region that is there
abbrev pub Blocks : Type 0
Blocks = map.FinMap nat_cmp (List ℕ)

-- the size of each region
abbrev pub sizes_of : Blocks → ℕ → Option ℕ
sizes_of blocks region = option_map length (map.get blocks region)

-- the bytes of a region, none where it is absent
abbrev pub bytes_in : Blocks → ℕ → List ℕ
bytes_in blocks region = unwrap_or (map.get blocks region) []

-- the regions with bytes written over those of one of them
abbrev pub written : Blocks → ℕ → ℕ → List ℕ → Blocks
written blocks region offset bytes = map.insert blocks region (overwritten (bytes_in blocks region) offset bytes)

-- the bytes of a range that ends within these
abbrev pub part_of : Option (List ℕ) → ℕ → ℕ → Option (List ℕ)
part_of None offset count = None
part_of (Some bytes) offset count = if nat_le (offset + count) (length bytes) then Some (part bytes offset count) else None
