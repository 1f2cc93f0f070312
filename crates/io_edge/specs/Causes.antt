-- When a count of faults rises.
use Rattle.std.specs.Prelude.{◌≡◌, ℕ, ◌+◌, ◌-◌, ◌^◌, ◌<◌, ◌≤◌, ◌⊎◌, nat_lt, if◌then◌else◌, Result, is_err, OnErr, OnOk}

-- one more than a count of 64 bits, which stands still at its last value
abbrev pub one_more : ℕ → ℕ
one_more count = if nat_lt count (2 ^ 64 - 1) then count + 1 else count

-- a count is one more after a call that failed, and else what it was
abbrev pub count_after : {T E : Type 0} → Result T E → ℕ → ℕ
count_after result count = if is_err result then one_more count else count

-- a count went up, or stands at its last value
abbrev pub Rose : ℕ → ℕ → Type 0
Rose before now = (before < now) ⊎ (2 ^ 64 - 1 ≤ now)

-- a count of faults does not fall; it rose where the call failed, and stands still where it did not
pub record HasCause {T E : Type 0} (before now : ℕ) (result : Result T E) : Type 0 where
  pub later : before ≤ now
  pub failed : OnErr result (Rose before now)
  pub kept : OnOk result (now ≡ before)
