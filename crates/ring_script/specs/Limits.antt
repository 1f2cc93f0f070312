-- How large the regions of a script may be.
use Rattle.std.specs.Prelude.{ℕ, ◌+◌, ◌*◌, ◌≤◌, List}
use Rattle.std.specs.List.{AllByRecursion, sum_by}
use Rattle.gl_base.specs.declared.limits.TheConstants.{DATA_LIMIT, TOTAL_LIMIT}
use Rattle.gl_plain.specs.declared.memory.Region.{Region}
use Rattle.cb_shm.specs.declared.script.Script.{Script}

-- the bytes of these regions together
abbrev pub listed_bytes : List Region → ℕ
listed_bytes regions = sum_by (λ (r : Region). r.size) regions

-- the bytes of the ring, 4 an entry, and of the regions together
abbrev pub total_bytes : Script → ℕ
total_bytes s = 4 * s.entries + listed_bytes s.regions

-- a region has at most 67,108,864 bytes
abbrev pub IsSmall : Region → Type 0
IsSmall r = r.size ≤ DATA_LIMIT

-- each region has at most 67,108,864 bytes, and all together with the ring have at most 268,435,456
pub record IsWithinLimits (s : Script) : Type 0 where
  pub each : AllByRecursion IsSmall s.regions
  pub total : total_bytes s ≤ TOTAL_LIMIT
