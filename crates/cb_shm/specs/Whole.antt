-- Which scripts describe a memory.
use Rattle.std.specs.Prelude.{◌≡◌, ℕ, ◌≤◌, List, [], ◌∷◌, length, None, Option}
use Rattle.std.specs.List.{AllByRecursion}
use Rattle.gl_plain.specs.declared.memory.Patch.{Patch}
use Rattle.gl_plain.specs.declared.memory.Region.{Region}
use Rattle.gl_plain.specs.declared.memory.Timed.{Timed}
use Rattle.cb_shm.specs.declared.script.Script.{Script}
use Rattle.gl_plain.specs.Regions.{IsInside}
use Rattle.cb_shm.specs.Hostile.{listed_size, script_sizes, patch_in}

-- a region besides the ring has a number from 1 to 255
abbrev pub HasNumber : Region → Type 0
HasNumber r = (1 ≤ r.id) × (r.id ≤ 255)

-- no two regions have one number
abbrev pub AreDistinct : List Region → Type 0
AreDistinct [] = Unit {0}
AreDistinct (r ∷ rs) = (listed_size rs r.id ≡ None) × AreDistinct rs

-- a patch lies in a region that is there
abbrev pub IsPatchInside : (ℕ → Option ℕ) → Patch → Type 0
IsPatchInside sizes p = IsInside sizes p.region p.offset (length p.bytes)

-- an overwrite lies in a region that is there
abbrev pub IsTimedInside : (ℕ → Option ℕ) → Timed → Type 0
IsTimedInside sizes t = IsPatchInside sizes (patch_in t)

-- the ring has 2 to 1,048,576 entries, the regions have numbers of their own, and what is written lies in them
pub record IsWholeScript (s : Script) : Type 0 where
  pub some_entries : 2 ≤ s.entries
  pub few_entries : s.entries ≤ 1048576
  pub numbers : AllByRecursion HasNumber s.regions
  pub distinct : AreDistinct s.regions
  pub opening : AllByRecursion (IsPatchInside (script_sizes s)) s.opening
  pub timed : AllByRecursion (IsTimedInside (script_sizes s)) s.timed
