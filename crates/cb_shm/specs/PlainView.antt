-- What is seen of a memory that keeps what is put into it.
use Rattle.std.specs.Prelude.{ℕ, ◌*◌, List, Option, None, Some, ◌==◌, if◌then◌else◌, map}
use Rattle.gl_plain.specs.declared.memory.Patch.{Patch}
use Rattle.cb_shm.specs.declared.plain.TheConstants.{RESULT_SIZE}
use Rattle.cb_shm.specs.Memory.{CopyEntry, PutEntry}
use Rattle.cb_shm.specs.Patched.{bytes_over}

-- how many entries its ring has, how many transfer bytes there are, the copies made so far, and the puts
pub record PlainView : Type 0 where
  pub entries : ℕ
  pub transfer : ℕ
  pub copies : List CopyEntry
  pub puts : List PutEntry

-- region 0 is the ring, of 4 bytes an entry, region 1 has the transfer bytes, and region 2 is for results
abbrev pub plain_size : ℕ → ℕ → ℕ → Option ℕ
plain_size entries transfer region =
    if region == 0 then Some (4 * entries)
    else if region == 1 then Some transfer
    else if region == 2 then Some RESULT_SIZE
    else None

-- the bytes that a put writes, and where
abbrev pub patch_of : PutEntry → Patch
patch_of p = record { region = p.region; offset = p.offset; bytes = p.bytes }

-- the bytes of a region of these sizes after the puts, zeros at first
abbrev pub bytes_after : (ℕ → Option ℕ) → List PutEntry → ℕ → Option (List ℕ)
bytes_after sizes puts region = bytes_over sizes (map patch_of puts) region
