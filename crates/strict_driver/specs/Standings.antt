-- The names and the objects of a name space, by what each name stands for.
use Rattle.std.specs.Prelude.{◌≡◌, ℕ, Bool, true, Option, None, Some, is_some, refl}
use Rattle.std.specs.Ordering.{nat_cmp}
use Rattle.std.specs.FinMap as map
use Rattle.std.specs.FinSet as set
use Rattle.std.specs.Coded.{Coded, code_by, coded×, coded_ℕ, coded_bool}
use Rattle.slab.specs.Slab as slab
use Rattle.gl_plain.specs.declared.objects.Name.{Name}
use Rattle.gl_plain.specs.subjects.Names.{Names, new_name}
use Rattle.strict_driver.specs.declared.name_space.Standing.{Standing}
use Rattle.strict_driver.specs.declared.name_space.Standing.TheVariants.{Unmade, Made, Gone}
use Rattle.strict_driver.specs.Tabulated.{tabulated}

-- the names in use, the objects by name, and the names that were ever given
pub record Space (T : Type 0) : Type 0 where
  pub names : Names
  pub objects : map.FinMap nat_cmp T
  pub given : set.FinSet nat_cmp

abbrev pub name_code : Coded Name
name_code = code_by (ℕ × Bool) (coded× coded_ℕ coded_bool) (λ x. (x.number, x.is_object)) (λ p. record { number = p.0; is_object = p.1 }) (λ _. refl)

-- a name space is stored as the tuple of its fields
abbrev pub space_code : {T : Type 0} → Coded T → Coded (Space T)
space_code {T} code =
    code_by
    (Names × (map.FinMap nat_cmp T × set.FinSet nat_cmp))
    (coded× (map.code coded_ℕ name_code) (coded× (map.code coded_ℕ code) (set.code coded_ℕ)))
    (λ s. (s.names, (s.objects, s.given)))
    (λ p. record { names = p.0; objects = p.1.0; given = p.1.1 })
    (λ _. refl)

-- no name was given
abbrev pub empty_space : {T : Type 0} → Space T
empty_space = record { names = map.empty; objects = map.empty; given = set.empty }

-- what a name is, by what it stands for
abbrev pub name_in : ℕ → Option Standing → Option Name
name_in name (Some Unmade) = Some (new_name name)
name_in name (Some (Made place)) = Some (record { number = name; is_object = true })
name_in name (Some Gone) = None
name_in name None = None

-- the place of a name's object, by what the name stands for
abbrev pub place_in : Option Standing → Option ℕ
place_in (Some Unmade) = None
place_in (Some (Made place)) = Some place
place_in (Some Gone) = None
place_in None = None

-- the object of what a name stands for
abbrev pub object_in : {T : Type 0} → slab.Slab T → Option Standing → Option T
object_in objects (Some (Made place)) = slab.get objects place
object_in objects (Some Unmade) = None
object_in objects (Some Gone) = None
object_in objects None = None

-- the name at a key
abbrev pub name_at : map.FinMap nat_cmp Standing → ℕ → Option Name
name_at standings name = name_in name (map.get standings name)

-- the object at a key
abbrev pub object_at : {T : Type 0} → map.FinMap nat_cmp Standing → slab.Slab T → ℕ → Option T
object_at standings objects name = object_in objects (map.get standings name)

-- the names in use
abbrev pub names_of : map.FinMap nat_cmp Standing → Names
names_of standings = tabulated (name_at standings) (map.keys standings)

-- the objects, by name
abbrev pub objects_of : {T : Type 0} → map.FinMap nat_cmp Standing → slab.Slab T → map.FinMap nat_cmp T
objects_of standings objects = tabulated (object_at standings objects) (map.keys standings)

-- the names that were ever given
abbrev pub given_of : map.FinMap nat_cmp Standing → set.FinSet nat_cmp
given_of standings = set.from_list (map.keys standings)

-- the name space
abbrev pub space_of : {T : Type 0} → map.FinMap nat_cmp Standing → slab.Slab T → Space T
space_of standings objects = record { names = names_of standings; objects = objects_of standings objects; given = given_of standings }

-- each place has an object, and no two names share one
pub record IsPlaced {T : Type 0} (standings : map.FinMap nat_cmp Standing) (objects : slab.Slab T) : Type 0 where
  pub full : (name place : ℕ) → map.get standings name ≡ Some (Made place) → is_some (slab.get objects place) ≡ true
  pub apart : (name other place : ℕ) → map.get standings name ≡ Some (Made place) → map.get standings other ≡ Some (Made place) → name ≡ other
