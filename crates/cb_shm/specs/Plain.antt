-- A memory that keeps what is put into it, as shared memory.
use Rattle.std.specs.Prelude.{◌≡◌, ℕ, List, []}
use Rattle.std.specs.Option.{unwrap_or}
use Rattle.std.proofs.Common.{refl, ◌∙◌}
use Rattle.cb_shm.specs.Memory.{MemoryView}
use Rattle.cb_shm.specs.PlainView.{PlainView, plain_size, bytes_after}

-- a memory of zeros, of which no copy was made
abbrev pub new_plain : ℕ → ℕ → PlainView
new_plain entries transfer = record { entries = entries; transfer = transfer; copies = []; puts = [] }

-- what is seen of it as shared memory
abbrev pub memory_of : PlainView → MemoryView
memory_of v = record { sizes = plain_size v.entries v.transfer; copies = v.copies; puts = v.puts }

-- the bytes of a region now
abbrev pub plain_bytes : PlainView → ℕ → List ℕ
plain_bytes v region = unwrap_or (bytes_after (plain_size v.entries v.transfer) v.puts region) []

-- the ring and the transfer bytes are of the same sizes
pub record HasSameSizes (a b : PlainView) : Type 0 where
  pub entries : b.entries ≡ a.entries
  pub transfer : b.transfer ≡ a.transfer

pub same_sizes_itself : (a : PlainView) → HasSameSizes a a
same_sizes_itself a = record { entries = refl; transfer = refl }

pub same_sizes_further : (a b c : PlainView) → HasSameSizes a b → HasSameSizes b c → HasSameSizes a c
same_sizes_further a b c p q = record { entries = q.entries ∙ p.entries; transfer = q.transfer ∙ p.transfer }
