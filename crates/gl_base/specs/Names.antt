-- Which words may name an object, and how many names a table may have.
use Rattle.std.specs.Prelude.{◌≡◌, ◌<◌, ℕ, ◌+◌, ◌^◌, Bool, ◌&&◌, nat_le, nat_lt, Some}
use Rattle.std.specs.Ordering.{nat_cmp}
use Rattle.std.specs.FinMap as map
use Rattle.gl_base.specs.declared.limits.TheConstants.{NAME_LIMIT, LAST_ORDINARY_NAME, FIRST_RESERVED_NAME, LAST_RESERVED_NAME}

-- the names that Gen and Create may give
abbrev pub is_ordinary : ℕ → Bool
is_ordinary id = nat_le 1 id && nat_le id LAST_ORDINARY_NAME

-- the buffer names that are kept for client arrays
abbrev pub is_reserved : ℕ → Bool
is_reserved id = nat_le FIRST_RESERVED_NAME id && nat_le id LAST_RESERVED_NAME

-- how many ordinary names a table has
abbrev pub ordinary_count : {T : Type 0} → map.FinMap nat_cmp T → ℕ
ordinary_count names = map.len (map.retain_keys names is_ordinary)

-- so many ordinary names more are too many for a table
abbrev pub is_over_limit : {T : Type 0} → map.FinMap nat_cmp T → ℕ → Bool
is_over_limit names more = nat_lt NAME_LIMIT (ordinary_count names + more)

-- each name is a word
abbrev pub AreWords : {T : Type 0} → map.FinMap nat_cmp T → Type 0
AreWords {T} names = (id : ℕ) (x : T) → map.get names id ≡ Some x → id < 2 ^ 32
