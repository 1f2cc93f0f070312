-- A memory of one block of bytes for each region, as shared memory.
use Rattle.std.specs.Prelude.{◌≡◌, ℕ, Bool, ◌+◌, nat_le, if◌then◌else◌, List, length, Option, None, Some, slice_get}
use Rattle.std.specs.Option.{option_map}
use Rattle.std.proofs.Common.{refl, ◌∙◌}
use Rattle.gl_plain.specs.Bytes.{part}
use Rattle.cb_shm.specs.Memory.{MemoryView}
use Rattle.embedding.specs.declared.memory.BlockMemory.{BlockMemory}

-- a range ends within these bytes
abbrev pub has_room : List ℕ → ℕ → ℕ → Bool
has_room bytes offset count = nat_le (offset + count) (length bytes)

-- the bytes of a range that ends within these
abbrev pub part_of : List ℕ → ℕ → ℕ → Option (List ℕ)
part_of bytes offset count = if has_room bytes offset count then Some (part bytes offset count) else None

-- the size of each region, by its place
abbrev pub sizes_of : List (List ℕ) → ℕ → Option ℕ
sizes_of blocks region = option_map length (slice_get blocks region)

-- what is seen of it as shared memory
abbrev pub memory_of : BlockMemory → MemoryView
memory_of m = record { sizes = sizes_of m.blocks.items; copies = m.history.copies; puts = m.history.puts }

-- the regions are of the same sizes
pub record HasSameSizes (a b : BlockMemory) : Type 0 where
  pub sizes : sizes_of b.blocks.items ≡ sizes_of a.blocks.items

pub same_sizes_itself : (a : BlockMemory) → HasSameSizes a a
same_sizes_itself a = record { sizes = refl }

pub same_sizes_further : (a b c : BlockMemory) → HasSameSizes a b → HasSameSizes b c → HasSameSizes a c
same_sizes_further a b c p q = record { sizes = q.sizes ∙ p.sizes }
