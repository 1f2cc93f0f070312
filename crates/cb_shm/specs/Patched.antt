-- Regions with patches written over them in order.
use Rattle.std.specs.Prelude.{◌≡◌, ℕ, List, [], ◌∷◌, Option, ◌==◌, if◌then◌else◌, replicate}
use Rattle.std.specs.Option.{option_map}
use Rattle.std.specs.FinMap as map
use Rattle.gl_plain.specs.declared.memory.Patch.{Patch}
use Rattle.gl_plain.specs.Bytes.{overwritten}
use Rattle.cb_shm.specs.Blocks.{Blocks, sizes_of}

-- the bytes of a region, with those of each patch to it written over them in order
abbrev pub patched : List Patch → ℕ → List ℕ → List ℕ
patched [] region bytes = bytes
patched (p ∷ ps) region bytes = patched ps region (if p.region == region then overwritten bytes p.offset p.bytes else bytes)

-- so many zeros, with the patches to the region written over them
abbrev pub patched_zeros : List Patch → ℕ → ℕ → List ℕ
patched_zeros patches region size = patched patches region (replicate size 0)

-- the bytes of a region that is there
abbrev pub bytes_over : (ℕ → Option ℕ) → List Patch → ℕ → Option (List ℕ)
bytes_over sizes patches region = option_map (patched_zeros patches region) (sizes region)

-- the regions have these sizes, and their bytes are zeros with the patches written over them
pub record ArePatched (sizes : ℕ → Option ℕ) (patches : List Patch) (blocks : Blocks) : Type 0 where
  pub sizes_are : (region : ℕ) → sizes_of blocks region ≡ sizes region
  pub bytes_are : (region : ℕ) → map.get blocks region ≡ bytes_over sizes patches region
