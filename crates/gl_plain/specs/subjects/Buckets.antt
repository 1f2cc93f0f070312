-- Buckets, where the service keeps data that is longer than a region.
use Rattle.std.specs.Prelude.{◌≡◌, ℕ, Bool, false, not, ◌+◌, ◌==◌, ◌&&◌, ◌||◌, nat_lt, if◌then◌else◌, List, [], ◌∷◌, length, replicate, slice_set, slice_index_or, Option, None, Some}
use Rattle.gl_base.specs.declared.limits.TheConstants.{DATA_LIMIT, LAST_BUCKET}
use Rattle.gl_plain.specs.declared.commands.BucketCommand.{BucketCommand}
use Rattle.gl_plain.specs.declared.commands.BucketCommand.TheVariants.{SetSize, SetData, GetStart, GetData}
use Rattle.gl_plain.specs.declared.commands.DataWords.{DataWords}
use Rattle.gl_plain.specs.declared.calls.Reply.{Reply}
use Rattle.gl_plain.specs.declared.calls.Reply.TheVariants as reply
use Rattle.gl_plain.specs.Bytes.{overwritten, part}
use Rattle.gl_plain.specs.Words.{as_word}

-- the bytes of the buckets 0 to 3
abbrev pub Buckets : Type 0
Buckets = List (List ℕ)

-- the buckets open empty
abbrev pub empty_buckets : Buckets
empty_buckets = [] ∷ [] ∷ [] ∷ [] ∷ []

-- the bytes of a bucket
abbrev pub bucket_at : Buckets → ℕ → List ℕ
bucket_at buckets bucket = slice_index_or buckets bucket []

-- a bucket has these bytes
abbrev pub with_bucket : Buckets → ℕ → List ℕ → Buckets
with_bucket buckets bucket bytes = slice_set buckets bucket bytes

-- the number is none of a bucket
abbrev pub is_no_bucket : ℕ → Bool
is_no_bucket bucket = nat_lt LAST_BUCKET bucket

-- the range leaves the bucket
abbrev pub is_past_bucket : Buckets → ℕ → ℕ → ℕ → Bool
is_past_bucket buckets bucket offset count = nat_lt (length (bucket_at buckets bucket)) (offset + count)

-- the argument rules: a bucket that is none; a size above the limit; data that is not in shared memory; a range that leaves the bucket
abbrev pub bucket_command_is_bad : Buckets → BucketCommand → Bool
bucket_command_is_bad buckets (SetSize bucket size) = is_no_bucket bucket || nat_lt DATA_LIMIT size
bucket_command_is_bad buckets (SetData bucket offset words) = is_no_bucket bucket || not (words.source == 1) || is_past_bucket buckets bucket offset words.count
bucket_command_is_bad buckets (GetStart bucket) = is_no_bucket bucket
bucket_command_is_bad buckets (GetData bucket offset count) = is_no_bucket bucket || is_past_bucket buckets bucket offset count

-- the bytes that come beside a command are those that its words name
abbrev pub IsBucketData : BucketCommand → List ℕ → Type 0
IsBucketData (SetSize bucket size) payload = Unit {0}
IsBucketData (SetData bucket offset words) payload = words.source ≡ 1 → length payload ≡ words.count
IsBucketData (GetStart bucket) payload = Unit {0}
IsBucketData (GetData bucket offset count) payload = Unit {0}

-- the buckets after a command
abbrev pub buckets_after : Buckets → BucketCommand → List ℕ → Buckets
buckets_after buckets (SetSize bucket size) payload = with_bucket buckets bucket (replicate size 0)
buckets_after buckets (SetData bucket offset words) payload = with_bucket buckets bucket (overwritten (bucket_at buckets bucket) offset payload)
buckets_after buckets (GetStart bucket) payload = buckets
buckets_after buckets (GetData bucket offset count) payload = buckets

-- the reply of a command
abbrev pub bucket_reply : Buckets → BucketCommand → Reply
bucket_reply buckets (SetSize bucket size) = reply.None
bucket_reply buckets (SetData bucket offset words) = reply.None
bucket_reply buckets (GetStart bucket) = reply.Word (as_word (length (bucket_at buckets bucket)))
bucket_reply buckets (GetData bucket offset count) = reply.Bytes (part (bucket_at buckets bucket) offset count)

-- Data in a bucket

-- source 2 names a bucket, with 0 behind it, and as many bytes as the bucket has
abbrev pub has_bucket : Buckets → DataWords → Bool
has_bucket buckets w = not (is_no_bucket w.a) && (w.b == 0) && (length (bucket_at buckets w.a) == w.count)

-- the words name a bucket, and break a rule of it
abbrev pub breaks_bucket_rule : Buckets → Option DataWords → Bool
breaks_bucket_rule buckets None = false
breaks_bucket_rule buckets (Some w) = (w.source == 2) && not (has_bucket buckets w)

-- the data of a command: the bytes of its bucket, or those that come beside it
abbrev pub data_given : Buckets → Option DataWords → List ℕ → List ℕ
data_given buckets None payload = payload
data_given buckets (Some w) payload = if w.source == 2 then bucket_at buckets w.a else payload

-- Replies in a bucket

-- the reply goes into a bucket, and there is none of this number
abbrev pub names_no_bucket : Option ℕ → Bool
names_no_bucket None = false
names_no_bucket (Some bucket) = is_no_bucket bucket

-- the bytes of a reply; a refused command has none
abbrev pub reply_bytes : Reply → List ℕ
reply_bytes reply.None = []
reply_bytes (reply.Word n) = []
reply_bytes (reply.Words words) = []
reply_bytes (reply.Names names) = []
reply_bytes (reply.Bytes bytes) = bytes
reply_bytes (reply.Error code) = []

-- a reply that goes into a bucket is all that the bucket has
abbrev pub with_reply : Buckets → Option ℕ → Reply → Buckets
with_reply buckets None r = buckets
with_reply buckets (Some bucket) r = with_bucket buckets bucket (reply_bytes r)
