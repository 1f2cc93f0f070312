-- What is made of regions by patches in order, and regions of zeros.
use Rattle.std.specs.Prelude.{ℕ, ◌*◌, List, [], ◌∷◌, length, if◌then◌else◌, replicate}
use Rattle.gl_plain.specs.Regions.{ends_within}
use Rattle.std.specs.FinMap as map
use Rattle.gl_plain.specs.declared.memory.Patch.{Patch}
use Rattle.gl_plain.specs.declared.memory.Region.{Region}
use Rattle.cb_shm.specs.Blocks.{Blocks, sizes_of, written}

-- the regions with a patch written over them where it is inside
abbrev pub written_within : Blocks → Patch → Blocks
written_within blocks p = if ends_within (sizes_of blocks p.region) p.offset (length p.bytes) then written blocks p.region p.offset p.bytes else blocks

-- the regions with patches written over them in order
abbrev pub applied : List Patch → Blocks → Blocks
applied [] blocks = blocks
applied (p ∷ ps) blocks = applied ps (written_within blocks p)

-- the regions with those of a list added, of zero bytes
abbrev pub added : List Region → Blocks → Blocks
added [] blocks = blocks
added (r ∷ rs) blocks = added rs (map.insert blocks r.id (replicate r.size 0))

-- the ring and the regions of a list, all zero
abbrev pub zero_blocks : ℕ → List Region → Blocks
zero_blocks entries regions = map.insert (added regions map.empty) 0 (replicate (4 * entries) 0)
