-- Which script describes a memory.
use Rattle.std.specs.Prelude.{◌≡◌, ℕ, ◌+◌, ◌<◌, List, [], ◌∷◌, length, Some}
use Rattle.cb_shm.specs.declared.script.Script.{Script}
use Rattle.cb_shm.specs.declared.hostile.HostileMemory.{HostileMemory}
use Rattle.cb_shm.specs.Memory.{CopyEntry, MemoryView}
use Rattle.cb_shm.specs.Blocks.{sizes_of, part_of}
use Rattle.cb_shm.specs.Patched.{ArePatched}
use Rattle.cb_shm.specs.Hostile.{script_sizes, patches_at, bytes_at, at_number}
use Rattle.cb_shm.specs.Waiting.{bucket}
use Rattle.cb_shm.specs.Whole.{IsWholeScript}

-- a copy of this number gave the bytes that the script sets for it
abbrev pub IsScripted : Script → ℕ → CopyEntry → Type 0
IsScripted s n c = part_of (bytes_at s n c.region) c.offset (length c.bytes) ≡ Some c.bytes

-- so did all copies from this number on
abbrev pub AreScripted : Script → ℕ → List CopyEntry → Type 0
AreScripted s n [] = Unit {0}
AreScripted s n (c ∷ cs) = IsScripted s n c × AreScripted s (n + 1) cs

-- the script describes the memory: its regions, each copy so far, what the next copy meets, and what is still to be written
pub record IsMemoryOf (s : Script) (m : HostileMemory) : Type 0 where
  pub whole : IsWholeScript s
  pub copies_are : AreScripted s 0 m.history.copies
  pub regions_are : ArePatched (script_sizes s) (patches_at s (length m.history.copies)) m.regions
  pub waiting_is : (n : ℕ) → length m.history.copies < n → bucket m.waiting n ≡ at_number n s.timed

-- what is seen of it as shared memory
abbrev pub memory_of : HostileMemory → MemoryView
memory_of m = record { sizes = sizes_of m.regions; copies = m.history.copies; puts = m.history.puts }

-- the script that describes one describes the other
abbrev pub HasSameScript : HostileMemory → HostileMemory → Type 0
HasSameScript a b = (s : Script) → IsMemoryOf s a → IsMemoryOf s b

pub same_script_itself : (a : HostileMemory) → HasSameScript a a
same_script_itself a = λ s is. is

pub same_script_further : (a b c : HostileMemory) → HasSameScript a b → HasSameScript b c → HasSameScript a c
same_script_further a b c p q = λ s is. q s (p s is)
