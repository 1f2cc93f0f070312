-- The data of a command: the four words that say where it is, and its bytes.
use Rattle.std.specs.Prelude.{◌≡◌, ℕ, ℤ, Bool, ◌==◌, ◌&&◌, ◌||◌, nat_lt, if◌then◌else◌, List, [], length, replicate}
use Rattle.gl_base.specs.declared.limits.TheConstants.{DATA_LIMIT}
use Rattle.gl_plain.specs.declared.commands.DataWords.{DataWords}
use Rattle.gl_plain.specs.declared.calls.Payload.{Payload}
use Rattle.gl_plain.specs.declared.calls.Payload.TheVariants.{Absent, Here}
use Rattle.gl_plain.specs.Words.{is_negative, natural}

-- source 0 is no data, and the other words are 0
abbrev pub has_no_data : DataWords → Bool
has_no_data w = (w.source == 0) && (w.count == 0) && (w.a == 0) && (w.b == 0)

-- source 1 is data in shared memory, source 2 data in a bucket, of as many bytes as are needed
abbrev pub has_needed_data : DataWords → ℕ → Bool
has_needed_data w needed = ((w.source == 1) || (w.source == 2)) && (w.count == needed)

-- no data where none is needed, or as much as is needed
abbrev pub has_just_needed_data : DataWords → ℕ → Bool
has_just_needed_data w needed = (has_no_data w && (needed == 0)) || has_needed_data w needed

-- how many bytes are needed for a size: so many, or none where it is negative or above the limit
abbrev pub data_needed : ℤ → ℕ
data_needed size = if is_negative size || nat_lt DATA_LIMIT (natural size) then 0 else natural size

-- the bytes that come beside a command with these words: as many as the words count, and none where they name no source
pub record IsData (w : DataWords) (payload : List ℕ) : Type 0 where
  pub shared : w.source ≡ 1 → length payload ≡ w.count
  pub bucket : w.source ≡ 2 → length payload ≡ w.count
  pub none : w.source ≡ 0 → length payload ≡ 0

-- the data that a call is given: none where the words name no source
abbrev pub payload_of : DataWords → List ℕ → Payload
payload_of words payload = if words.source == 0 then Absent else Here payload

-- the bytes of the data: absent data is so many zeros
abbrev pub bytes_of : Payload → ℤ → List ℕ
bytes_of Absent size = replicate (natural size) 0
bytes_of (Here bytes) size = bytes

-- the data as it is: absent data has no bytes
abbrev pub data_in : Payload → List ℕ
data_in Absent = []
data_in (Here bytes) = bytes
