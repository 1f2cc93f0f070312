-- Overwrites that wait for the copy of their number.
use Rattle.std.specs.Prelude.{ℕ, List, [], ◌∷◌, ◌++◌}
use Rattle.std.specs.Option.{unwrap_or}
use Rattle.std.specs.Ordering.{nat_cmp}
use Rattle.std.specs.FinMap as map
use Rattle.gl_plain.specs.declared.memory.Patch.{Patch}
use Rattle.gl_plain.specs.declared.memory.Timed.{Timed}
use Rattle.cb_shm.specs.Hostile.{patch_in}

-- patches by the number of their copy
abbrev pub Waiting : Type 0
Waiting = map.FinMap nat_cmp (List Patch)

-- the patches of a number
abbrev pub bucket : Waiting → ℕ → List Patch
bucket waiting number = unwrap_or (map.get waiting number) []

-- with one more behind those of its number
abbrev pub filed : Waiting → Timed → Waiting
filed waiting t = map.insert waiting t.copy (bucket waiting t.copy ++ patch_in t ∷ [])

-- with more in order
abbrev pub filed_all : List Timed → Waiting → Waiting
filed_all [] waiting = waiting
filed_all (t ∷ ts) waiting = filed_all ts (filed waiting t)
