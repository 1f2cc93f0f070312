-- Ranges of shared memory.
use Rattle.std.specs.Prelude.{ℕ, Bool, false, ◌+◌, ◌≤◌, nat_le, Option, None, Some}

-- the range ends within this size; where there is none, nothing does
abbrev pub EndsWithin : Option ℕ → ℕ → ℕ → Type 0
EndsWithin None offset count = ⊥
EndsWithin (Some size) offset count = offset + count ≤ size

-- a range lies in a region that is there
abbrev pub IsInside : (ℕ → Option ℕ) → ℕ → ℕ → ℕ → Type 0
IsInside sizes region offset count = EndsWithin (sizes region) offset count

-- the same as a test
abbrev pub ends_within : Option ℕ → ℕ → ℕ → Bool
ends_within None offset count = false
ends_within (Some size) offset count = nat_le (offset + count) size

-- the same as a test
abbrev pub is_inside : (ℕ → Option ℕ) → ℕ → ℕ → ℕ → Bool
is_inside sizes region offset count = ends_within (sizes region) offset count
