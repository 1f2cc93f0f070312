-- What range of shared memory the words of a command plan to read or to write.
use Rattle.std.specs.Prelude.{◌≡◌, ℕ, ◌+◌, ◌*◌, ◌==◌, if◌then◌else◌, List, length, Option, None, Some, slice_index}
use Rattle.std.specs.Option.{IsSomeAnd}
use Rattle.cb_format.specs.declared.layouts.Layout.{Layout}
use Rattle.cb_format.specs.declared.layouts.Plan.{Plan}
use Rattle.cb_format.specs.declared.layouts.Plan.TheVariants.{Nothing, Read, Write}
use Rattle.gl_plain.specs.declared.numbers.TheConstants.{GET_BUCKET_DATA}
use Rattle.cb_format.specs.Layouts.{layout_of}

-- the number has a layout, and the words are as many as it says
abbrev pub IsLaidOut : ℕ → List ℕ → Type 0
IsLaidOut number words = IsSomeAnd (layout_of number) (λ l. length words ≡ l.words)

-- the words of data are a source, a count, and two more; source 1 is count bytes of the region that the third word names, from the offset
-- that the fourth gives, and other sources are not in shared memory
abbrev pub data_plan : ℕ → List ℕ → Plan
data_plan at words =
    if slice_index words at == 1 then Read (slice_index words (at + 2)) (slice_index words (at + 3)) (slice_index words (at + 1)) else Nothing

-- the words of a reply are a region and an offset, where four bytes go for the number of the reply's words, and four for each that it can have
abbrev pub reply_plan : ℕ → ℕ → List ℕ → Plan
reply_plan at most words = Write (slice_index words at) (slice_index words (at + 1)) (4 + 4 * most)

-- a command with data plans to read it, and one with a reply to write it
abbrev pub plan_by : Option ℕ → Option ℕ → ℕ → List ℕ → Plan
plan_by (Some at) reply most words = data_plan at words
plan_by None (Some at) most words = reply_plan at most words
plan_by None None most words = Nothing

-- the plan of a command with this layout
abbrev pub plan_in : Option Layout → List ℕ → Plan
plan_in (Some l) words = plan_by l.payload_at l.result_at l.result_words words
plan_in None words = Nothing

-- GetBucketData: the bucket, the offset in it, the count, the region, and the place in it, where so many bytes go
abbrev pub bucket_plan : List ℕ → Plan
bucket_plan words = Write (slice_index words 3) (slice_index words 4) (slice_index words 2)

-- the plan of a command's words: that of GetBucketData, or what the layout says
abbrev pub plan_of : ℕ → List ℕ → Plan
plan_of number words = if number == GET_BUCKET_DATA then bucket_plan words else plan_in (layout_of number) words

-- how many bytes of data a plan reads
abbrev pub data_count : Plan → ℕ
data_count Nothing = 0
data_count (Read region offset count) = count
data_count (Write region offset count) = 0
