-- Names of objects, in every name space (OpenGL ES 2.0.25, section 2.9 for buffers, and alike for the others).
use Rattle.std.specs.Prelude.{◌≡◌, ◌≢◌, ℕ, ℤ, Bool, true, false, not, ◌==◌, ◌&&◌, ◌||◌, if◌then◌else◌, List, [], ◌∷◌, Option, None, Some, IsSome, is_some, is_none}
use Prim.Native.Nat.{suc}
use Rattle.std.specs.Ordering.{nat_cmp}
use Rattle.std.specs.FinMap as map
use Rattle.std.specs.FinSet as set
use Rattle.gl_base.specs.Names.{is_ordinary, is_reserved, is_over_limit}
use Rattle.gl_plain.specs.declared.objects.Name.{Name}
use Rattle.gl_plain.specs.declared.errors.GlError.{GlError}
use Rattle.gl_plain.specs.declared.errors.GlError.TheVariants.{InvalidValue, OutOfMemory}
use Rattle.gl_plain.specs.Words.{is_negative, natural}

-- names in use
abbrev pub Names : Type 0
Names = map.FinMap nat_cmp Name

-- a name that was given a number, and whose object is not there yet
abbrev pub new_name : ℕ → Name
new_name number = record { number = number; is_object = false }

-- the name comes into use with this number
abbrev pub named : Names → ℕ → ℕ → Names
named names id number = map.insert names id (new_name number)

-- the names come into use, in order, with the first of these numbers
abbrev pub all_named : Names → List ℕ → (ℕ → ℕ) → Names
all_named names [] numbers = names
all_named names (id ∷ ids) numbers = all_named (named names id (numbers 0)) ids (λ k. numbers (suc k))

-- the object of the name is there from now on
abbrev pub made_object : Names → ℕ → Name → Names
made_object names id x = map.insert names id (record { number = x.number; is_object = true })

-- the number of what the table has of a name, or 0
abbrev pub number_named : Option Name → ℕ
number_named None = 0
number_named (Some x) = x.number

-- nothing is bound where this number was
abbrev pub unbound : ℕ → ℕ → ℕ
unbound number bound = if bound == number then 0 else bound

-- the driver gave the name, and it is still there
abbrev pub IsLive : Names → ℕ → Type 0
IsLive names name = IsSome (map.get names name)

-- a new name is not 0, and was never given before
pub record IsFresh (given : set.FinSet nat_cmp) (name : ℕ) : Type 0 where
  pub positive : name ≢ 0
  pub unused : set.contains given name ≡ false

-- a Gen brings an id into use that is ordinary and not in use
abbrev pub gen_is_bad : Names → ℕ → Bool
gen_is_bad names id = not (is_ordinary id) || is_some (map.get names id)

-- a Bind is of 0 or an ordinary id
abbrev pub bind_is_bad : ℕ → Bool
bind_is_bad id = not ((id == 0) || is_ordinary id)

-- GenX is refused for a negative count, and where there would be too many names
abbrev pub gen_refusal : Names → ℤ → Option GlError
gen_refusal names count =
    if is_negative count then Some InvalidValue
    else if is_over_limit names (natural count) then Some OutOfMemory else None

-- a bind would bring an ordinary name into use, and there are too many
abbrev pub is_bind_over_limit : Names → ℕ → Bool
is_bind_over_limit names id = is_none (map.get names id) && not (id == 0) && not (is_reserved id) && is_over_limit names 1

-- The client's names are one to one with the live driver names, which are the numbers.
pub record NamesAgree (w d : Names) (given : set.FinSet nat_cmp) : Type 0 where
  pub live : (id : ℕ) (x : Name) → map.get w id ≡ Some x → map.get d x.number ≡ Some x
  pub used : (n : ℕ) (x : Name) → map.get d n ≡ Some x → (id : ℕ) × (map.get w id ≡ Some x)
  pub one : (id other : ℕ) (x y : Name) → map.get w id ≡ Some x → map.get w other ≡ Some y → x.number ≡ y.number → id ≡ other
  pub own : (n : ℕ) (x : Name) → map.get d n ≡ Some x → x.number ≡ n
  pub given_once : (n : ℕ) (x : Name) → map.get d n ≡ Some x → set.contains given n ≡ true
  pub no_zero : map.get d 0 ≡ None
  pub no_zero_id : map.get w 0 ≡ None

-- the first of these names in use that has this number, or 0
abbrev pub name_among : List (ℕ × Name) → ℕ → ℕ
name_among [] number = 0
name_among (entry ∷ entries) number = if entry.1.number == number then entry.0 else name_among entries number

-- the name in use that has this number, or 0. A number is that of one name at most
abbrev pub name_of : Names → ℕ → ℕ
name_of names number = name_among (map.entries names) number
