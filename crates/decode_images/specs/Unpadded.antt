-- Rows without padding.
use Prim.Native.Nat.{zero, suc}
use Rattle.std.specs.Prelude.{◌≡◌, ◌≤◌, ℕ, ◌+◌, ◌*◌, List, Option, None, Some}

-- the bytes that were copied, or those that were given
abbrev pub bytes_or : Option (List ℕ) → List ℕ → List ℕ
bytes_or (Some copied) bytes = copied
bytes_or None bytes = bytes

-- so many bytes are those of so many rows, the last one without padding
abbrev pub IsLongEnough : (height row step count : ℕ) → Type 0
IsLongEnough zero row step count = count ≡ 0
IsLongEnough (suc n) row step count = count ≡ n * step + row
