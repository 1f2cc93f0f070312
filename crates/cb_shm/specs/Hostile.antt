-- The bytes that a script sets for each copy.
use Rattle.std.specs.Prelude.{ℕ, ◌*◌, List, [], ◌∷◌, ◌++◌, Option, None, Some, ◌==◌, if◌then◌else◌}
use Prim.Native.Nat.{zero, suc}
use Rattle.gl_plain.specs.declared.memory.Patch.{Patch}
use Rattle.gl_plain.specs.declared.memory.Region.{Region}
use Rattle.gl_plain.specs.declared.memory.Timed.{Timed}
use Rattle.cb_shm.specs.declared.script.Script.{Script}
use Rattle.cb_shm.specs.Patched.{bytes_over}

-- the size of a region of this list
abbrev pub listed_size : List Region → ℕ → Option ℕ
listed_size [] region = None
listed_size (r ∷ rs) region = if r.id == region then Some r.size else listed_size rs region

-- region 0 is the ring, of 4 bytes an entry; the others are those listed
abbrev pub script_sizes : Script → ℕ → Option ℕ
script_sizes s region = if region == 0 then Some (4 * s.entries) else listed_size s.regions region

-- what an overwrite writes, and where
abbrev pub patch_in : Timed → Patch
patch_in t = record { region = t.region; offset = t.offset; bytes = t.bytes }

-- the overwrites of this number, in line order
abbrev pub at_number : ℕ → List Timed → List Patch
at_number n [] = []
at_number n (t ∷ ts) = if t.copy == n then patch_in t ∷ at_number n ts else at_number n ts

-- the overwrites whose number is below this one, by number and then in line order
abbrev pub numbered_below : ℕ → List Timed → List Patch
numbered_below zero ts = []
numbered_below (suc n) ts = numbered_below n ts ++ at_number n ts

-- what was written before copy number n: the opening patches, and then each overwrite whose number is at most n
abbrev pub patches_at : Script → ℕ → List Patch
patches_at s n = s.opening ++ numbered_below (suc n) s.timed

-- the bytes of a region at copy number n: those patches, written over zeros
abbrev pub bytes_at : Script → ℕ → ℕ → Option (List ℕ)
bytes_at s n region = bytes_over (script_sizes s) (patches_at s n) region
