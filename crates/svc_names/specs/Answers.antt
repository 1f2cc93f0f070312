-- What adding a name to a table answers.
use Rattle.std.specs.Prelude.{◌≡◌, ℕ, Bool, true, false, None, Result, Ok, Err, ◌&&◌}
use Rattle.std.specs.Ordering.{nat_cmp}
use Rattle.std.specs.FinMap as map
use Rattle.gl_base.specs.Names.{is_ordinary, is_over_limit}
use Rattle.svc_names.specs.declared.table.NameRefusal.{NameRefusal}
use Rattle.svc_names.specs.declared.table.NameRefusal.TheVariants.{InUse, Full, NoMemory}

-- a table has no room for a name if the name is ordinary and one more ordinary name is too many
abbrev pub is_full_for : {T : Type 0} → map.FinMap nat_cmp T → ℕ → Bool
is_full_for names id = is_ordinary id && is_over_limit names 1

-- a name that is there is in use, a new one may find the table full, any other is added unless memory is wanting, and each refusal hands the value back
abbrev pub IsAnswer : {T : Type 0} → map.FinMap nat_cmp T → ℕ → T → Result (Unit {0}) (NameRefusal T) → Type 0
IsAnswer names id value (Ok done) = (map.get names id ≡ None) × (is_full_for names id ≡ false)
IsAnswer names id value (Err (InUse back)) = (map.contains_key names id ≡ true) × (back ≡ value)
IsAnswer names id value (Err (Full back)) = (map.get names id ≡ None) × (is_full_for names id ≡ true) × (back ≡ value)
IsAnswer names id value (Err (NoMemory back)) = (map.get names id ≡ None) × (is_full_for names id ≡ false) × (back ≡ value)
