-- What contracts see of shared memory, and what calls do to it.
use Rattle.std.specs.Prelude.{ℕ, List, [], ◌∷◌, ◌++◌, length, Option}

-- a copy that was made: where, and the bytes that it gave
pub record CopyEntry : Type 0 where
  pub region : ℕ
  pub offset : ℕ
  pub bytes : List ℕ

-- bytes that the service put into a region, and how many copies were made before
pub record PutEntry : Type 0 where
  pub region : ℕ
  pub offset : ℕ
  pub bytes : List ℕ
  pub copies : ℕ

-- the size of each region that is there, the copies made so far, and the puts
pub record MemoryView : Type 0 where
  pub sizes : ℕ → Option ℕ
  pub copies : List CopyEntry
  pub puts : List PutEntry

-- the memory after one more copy, which gave these bytes
abbrev pub copied : MemoryView → ℕ → ℕ → List ℕ → MemoryView
copied m region offset bytes = record m { copies = m.copies ++ record { region = region; offset = offset; bytes = bytes } ∷ [] }

-- the memory after one more put of these bytes
abbrev pub stored : MemoryView → ℕ → ℕ → List ℕ → MemoryView
stored m region offset bytes = record m { puts = m.puts ++ record { region = region; offset = offset; bytes = bytes; copies = length m.copies } ∷ [] }
