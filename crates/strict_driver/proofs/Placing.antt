-- How the names and the objects of a name space change with what a name stands for.
use Rattle.std.proofs.Common.{◌≡◌, ◌≢◌, ◌<◌, ℕ, Bool, true, false, List, length, get_or, refl, sym, ◌∙◌, ap, Option, None, Some, is_some, IsSome, IfSome, IfNone, subst, OnSome, cond, ◌||◌, inl, inr, get_or-set_same, get_or-set_other}
use Rattle.std.proofs.lemmas.Bool.{cases_lt}
use Rattle.std.proofs.lemmas.List.{get_or_past}
use Rattle.std.specs.Ordering.{nat_cmp, eq_by_cmp}
use Rattle.std.specs.Cmp.{nat_cmp_total}
use Rattle.std.specs.FinMap as map
use Rattle.std.specs.FinSet as set
use Rattle.slab.specs.Slab as slab
use Rattle.gl_base.proofs.Maps.{remove-absent}
use Rattle.gl_base.proofs.Found.{test, get-insert_here, get-insert_other, found-insert}
use Rattle.gl_plain.specs.declared.objects.Name.{Name}
use Rattle.gl_plain.specs.subjects.Names.{new_name}
use Rattle.strict_driver.specs.declared.name_space.Standing.{Standing}
use Rattle.strict_driver.specs.declared.name_space.Standing.TheVariants.{Unmade, Made, Gone}
use Rattle.strict_driver.specs.Standings.{Space, name_in, place_in, object_in, name_at, object_at, names_of, objects_of, given_of, space_of, IsPlaced}
use Rattle.strict_driver.proofs.Tabulated.{get_tabulated, tabulated-same, tabulated-insert, tabulated-remove}

abbrev Standings : Type 0
Standings = map.FinMap nat_cmp Standing

name_keys : (st : Standings) (q : ℕ) → map.get st q ≡ None → name_at st q ≡ None
name_keys st q none = ap (name_in q) none

pub get_name : (st : Standings) (q : ℕ) → map.get (names_of st) q ≡ name_at st q
get_name st q = get_tabulated st (name_at st) (name_keys st) q

-- a name stands for something else, and no other does
pub names-set : (st : Standings) (k : ℕ) (standing : Standing) (x : Name) → name_in k (Some standing) ≡ Some x → names_of (map.insert st k standing) ≡ map.insert (names_of st) k x
names-set st k standing x is = tabulated-insert st (map.insert st k standing) (name_at st) (name_at (map.insert st k standing)) (name_keys st) (name_keys (map.insert st k standing)) k x
    (ap (name_in k) (get-insert_here st k standing) ∙ is) (λ q apart. ap (name_in q) (get-insert_other st k standing q apart))

-- a name stands for nothing any more
pub names-gone : (st : Standings) (k : ℕ) → names_of (map.insert st k Gone) ≡ map.remove (names_of st) k
names-gone st k = tabulated-remove st (map.insert st k Gone) (name_at st) (name_at (map.insert st k Gone)) (name_keys st) (name_keys (map.insert st k Gone)) k
    (ap (name_in k) (get-insert_here st k Gone)) (λ q apart. ap (name_in q) (get-insert_other st k Gone q apart))

pub names-absent : (st : Standings) (k : ℕ) → map.get st k ≡ None → map.remove (names_of st) k ≡ names_of st
names-absent st k none = remove-absent (names_of st) k (get_name st k ∙ name_keys st k none)

abbrev is_made : Option Name → Bool
is_made None = false
is_made (Some x) = x.is_object

unmade_in : (k : ℕ) (o : Option Standing) → name_in k o ≡ Some (new_name k) → o ≡ Some Unmade
unmade_in k None h = cc
unmade_in k (Some Unmade) h = refl
unmade_in k (Some Gone) h = cc
unmade_in k (Some (Made place)) h = let is : true ≡ false = ap is_made h in cc

-- a name without an object is in the table
pub unmade : (st : Standings) (k : ℕ) → map.get (names_of st) k ≡ Some (new_name k) → map.get st k ≡ Some Unmade
unmade st k is = unmade_in k (map.get st k) (sym (get_name st k) ∙ is)

-- a name with a place stands for the object there
pub in_place : (o : Option Standing) (place : ℕ) → place_in o ≡ Some place → o ≡ Some (Made place)
in_place None place h = cc
in_place (Some Unmade) place h = cc
in_place (Some Gone) place h = cc
in_place (Some (Made there)) place h = cc

module _ {T : Type 0} where
  object_keys : (st : Standings) (s : slab.Slab T) (q : ℕ) → map.get st q ≡ None → object_at st s q ≡ None
  object_keys st s q none = ap (object_in s) none

  pub get_object : (st : Standings) (s : slab.Slab T) (q : ℕ) → map.get (objects_of st s) q ≡ object_at st s q
  get_object st s q = get_tabulated st (object_at st s) (object_keys st s) q

  pub objects-absent : (st : Standings) (s : slab.Slab T) (k : ℕ) → map.get st k ≡ None → map.remove (objects_of st s) k ≡ objects_of st s
  objects-absent st s k none = remove-absent (objects_of st s) k (get_object st s k ∙ object_keys st s k none)

  -- a name has an object where it has a place
  pub in_no_place : (s : slab.Slab T) (o : Option Standing) → place_in o ≡ None → object_in s o ≡ None
  in_no_place s None h = refl
  in_no_place s (Some Unmade) h = refl
  in_no_place s (Some Gone) h = refl
  in_no_place s (Some (Made place)) h = cc

  in_other : (s s2 : slab.Slab T) (o : Option Standing) → ((place : ℕ) → o ≡ Some (Made place) → slab.get s2 place ≡ slab.get s place) → object_in s2 o ≡ object_in s o
  in_other s s2 None h = refl
  in_other s s2 (Some Unmade) h = refl
  in_other s s2 (Some Gone) h = refl
  in_other s s2 (Some (Made place)) h = h place refl

  -- the objects of all names but one are where they were
  abbrev pub KeepsOthers : Standings → slab.Slab T → slab.Slab T → ℕ → Type 0
  KeepsOthers st s s2 k = (q place : ℕ) → q ≢ k → map.get st q ≡ Some (Made place) → slab.get s2 place ≡ slab.get s place

  other_object : (st st2 : Standings) (s s2 : slab.Slab T) (k : ℕ) → KeepsOthers st s s2 k → ((q : ℕ) → q ≢ k → map.get st2 q ≡ map.get st q) → (q : ℕ) → q ≢ k → object_at st2 s2 q ≡ object_at st s q
  other_object st st2 s s2 k kept others q apart = ap (object_in s2) (others q apart) ∙ in_other s s2 (map.get st q) (λ place at. kept q place apart at)

  -- the name has another object
  pub objects-set : (st st2 : Standings) (s s2 : slab.Slab T) (k : ℕ) (v : T) → KeepsOthers st s s2 k → ((q : ℕ) → q ≢ k → map.get st2 q ≡ map.get st q) → object_at st2 s2 k ≡ Some v → objects_of st2 s2 ≡ map.insert (objects_of st s) k v
  objects-set st st2 s s2 k v kept others is =
      tabulated-insert st st2 (object_at st s) (object_at st2 s2) (object_keys st s) (object_keys st2 s2) k v is (other_object st st2 s s2 k kept others)

  -- the name has no object any more
  pub objects-gone : (st st2 : Standings) (s s2 : slab.Slab T) (k : ℕ) → KeepsOthers st s s2 k → ((q : ℕ) → q ≢ k → map.get st2 q ≡ map.get st q) → object_at st2 s2 k ≡ None → objects_of st2 s2 ≡ map.remove (objects_of st s) k
  objects-gone st st2 s s2 k kept others is =
      tabulated-remove st st2 (object_at st s) (object_at st2 s2) (object_keys st s) (object_keys st2 s2) k is (other_object st st2 s s2 k kept others)

  -- a new name has no object
  pub objects-given : (st : Standings) (s : slab.Slab T) (k : ℕ) → map.get st k ≡ None → objects_of (map.insert st k Unmade) s ≡ objects_of st s
  objects-given st s k none = tabulated-same st (map.insert st k Unmade) (object_at st s) (object_at (map.insert st k Unmade) s) (object_keys st s) (object_keys (map.insert st k Unmade) s) (λ q. elim (test q k) [
    | inl p ↦ ap (λ n. object_in s (map.get (map.insert st k Unmade) n)) p.0 ∙ ap (object_in s) (get-insert_here st k Unmade) ∙ sym (ap (λ n. object_in s (map.get st n)) p.0 ∙ ap (object_in s) none)
    | inr p ↦ ap (object_in s) (get-insert_other st k Unmade q p.0)
  ])

module _ {T : Type 0} (st : Standings) (s s2 : slab.Slab T) (w : IsPlaced st s) where
  -- a place of another name is not this one
  vacant_is_other : (place : ℕ) → slab.get s place ≡ None → (q other : ℕ) → map.get st q ≡ Some (Made other) → other ≢ place
  vacant_is_other place vacant q other at is =
      let there : is_some (slab.get s other) ≡ true = w.full q other at in
      let none : is_some (slab.get s other) ≡ false = ap (λ p. is_some (slab.get s p)) is ∙ ap is_some vacant in
      cc

  -- an insert at a vacant place keeps all objects
  pub keeps-insert : (k place : ℕ) (slot : Option T) → slab.get s place ≡ None → slab.Updates s s2 place slot → KeepsOthers st s s2 k
  keeps-insert k place slot vacant u q other apart at = u.others other (vacant_is_other place vacant q other at)

  -- a change at the place of a name keeps the objects of the others
  pub keeps-change : (k place : ℕ) (slot : Option T) → map.get st k ≡ Some (Made place) → slab.Updates s s2 place slot → KeepsOthers st s s2 k
  keeps-change k place slot there u q other apart at = u.others other (λ is. apart (w.apart q k place (at ∙ ap (λ p. Some (Made p)) is) there))

  -- a name in the table stands for an object at a place of its own
  pub placed-made : (k place : ℕ) → slab.get s place ≡ None → KeepsOthers st s s2 k → is_some (slab.get s2 place) ≡ true → IsPlaced (map.insert st k (Made place)) s2
  placed-made k place vacant kept full = record {
    full = λ q p at. elim (found-insert st k (Made place) q (Made p) at) [
      | inl f ↦ let is : place ≡ p = cc in ap (λ n. is_some (slab.get s2 n)) (sym is) ∙ full
      | inr f ↦ ap is_some (kept q p f.0 f.1) ∙ w.full q p f.1
    ];
    apart = λ q r p at too. elim (found-insert st k (Made place) q (Made p) at) [
      | inl f ↦ elim (found-insert st k (Made place) r (Made p) too) [
        | inl g ↦ f.0 ∙ sym g.0
        | inr g ↦ let is : place ≡ p = cc in absurd (vacant_is_other place vacant r p g.1 (sym is))
      ]
      | inr f ↦ elim (found-insert st k (Made place) r (Made p) too) [
        | inl g ↦ let is : place ≡ p = cc in absurd (vacant_is_other place vacant q p f.1 (sym is))
        | inr g ↦ w.apart q r p f.1 g.1
      ]
    ];
  }

  -- a name in the table stands for nothing any more
  pub placed-gone : (k : ℕ) → KeepsOthers st s s2 k → IsPlaced (map.insert st k Gone) s2
  placed-gone k kept = record {
    full = λ q p at. elim (found-insert st k Gone q (Made p) at) [ inl f ↦ cc | inr f ↦ ap is_some (kept q p f.0 f.1) ∙ w.full q p f.1 ];
    apart = λ q r p at too. elim (found-insert st k Gone q (Made p) at) [
      | inl f ↦ cc
      | inr f ↦ elim (found-insert st k Gone r (Made p) too) [ inl g ↦ cc | inr g ↦ w.apart q r p f.1 g.1 ]
    ];
  }

  -- the objects of all names are somewhere, where only that of one changed
  pub placed-written : (k place : ℕ) → map.get st k ≡ Some (Made place) → KeepsOthers st s s2 k → is_some (slab.get s2 place) ≡ true → IsPlaced st s2
  placed-written k place there kept full = record {
    full = λ q p at. elim (test q k) [
      | inl f ↦ let here : map.get st k ≡ Some (Made p) = ap (map.get st) (sym f.0) ∙ at in let is : place ≡ p = cc in ap (λ n. is_some (slab.get s2 n)) (sym is) ∙ full
      | inr f ↦ ap is_some (kept q p f.0 at) ∙ w.full q p at
    ];
    apart = w.apart;
  }

module _ {T : Type 0} (st : Standings) (s : slab.Slab T) (w : IsPlaced st s) where
  pub placed-given : (k : ℕ) → IsPlaced (map.insert st k Unmade) s
  placed-given k = record {
    full = λ q p at. elim (found-insert st k Unmade q (Made p) at) [ inl f ↦ cc | inr f ↦ w.full q p f.1 ];
    apart = λ q r p at too. elim (found-insert st k Unmade q (Made p) at) [
      | inl f ↦ cc
      | inr f ↦ elim (found-insert st k Unmade r (Made p) too) [ inl g ↦ cc | inr g ↦ w.apart q r p f.1 g.1 ]
    ];
  }

some_here : {X : Type 0} (b : Bool) (x : X) (o : Option X) → is_some (cond b (Some x) o) ≡ (b || is_some o)
some_here true x o = refl
some_here false x o = refl

-- the names that were ever given are those that stand for something
given-has : (st : Standings) (q : ℕ) → set.contains (given_of st) q ≡ map.contains_key st q
given-has st q = set.contains-from_list nat_cmp_total (map.keys st) q ∙ sym (map.contains_key-keys st q)

none_of : {X : Type 0} (o : Option X) → is_some o ≡ false → o ≡ None
none_of None h = refl
none_of (Some x) h = cc

pub not-given : (st : Standings) (k : ℕ) → set.contains (given_of st) k ≡ false → map.get st k ≡ None
not-given st k new = none_of (map.get st k) (sym (given-has st k) ∙ new)

-- one more name was given
pub given-new : (st : Standings) (k : ℕ) (standing : Standing) → given_of (map.insert st k standing) ≡ set.insert (given_of st) k
given-new st k standing = set.same_set nat_cmp_total map.nat_cmp-IsAntisymmetric _ _ (λ q.
    given-has (map.insert st k standing) q ∙ ap is_some (map.get-insert nat_cmp_total st k standing q) ∙ some_here (eq_by_cmp nat_cmp q k) standing (map.get st q)
    ∙ sym (set.contains-insert nat_cmp_total (given_of st) k q ∙ ap (λ b. eq_by_cmp nat_cmp q k || b) (given-has st q)))

-- a name that was given stands for something else
pub given-kept : (st : Standings) (k : ℕ) (standing was : Standing) → map.get st k ≡ Some was → given_of (map.insert st k standing) ≡ given_of st
given-kept st k standing was there = set.same_set nat_cmp_total map.nat_cmp-IsAntisymmetric _ _ (λ q. given-has (map.insert st k standing) q ∙ same q ∙ sym (given-has st q)) where
  same : (q : ℕ) → is_some (map.get (map.insert st k standing) q) ≡ is_some (map.get st q)
  same q = elim (test q k) [
    | inl p ↦ ap (λ n. is_some (map.get (map.insert st k standing) n)) p.0 ∙ ap is_some (get-insert_here st k standing) ∙ sym (ap (λ n. is_some (map.get st n)) p.0 ∙ ap is_some there)
    | inr p ↦ ap is_some (get-insert_other st k standing q p.0)
  ]

pub given-empty : given_of map.empty ≡ set.empty
given-empty = set.same_set nat_cmp_total map.nat_cmp-IsAntisymmetric _ _ (λ q. given-has map.empty q ∙ ap is_some (map.get-empty {X = Standing} nat_cmp q) ∙ sym (set.contains-empty nat_cmp q))

own_in : (k : ℕ) (o : Option Standing) → IfSome (name_in k o) (λ (x : Name). x.number ≡ k)
own_in k None = tt
own_in k (Some Unmade) = refl
own_in k (Some Gone) = tt
own_in k (Some (Made place)) = refl

-- a name is its own number
pub own_number : (st : Standings) (k : ℕ) → IfSome (map.get (names_of st) k) (λ (x : Name). x.number ≡ k)
own_number st k = rw (get_name st k) (own_in k (map.get st k))

module _ {T : Type 0} where
  -- the space without a name
  abbrev pub without_name : Space T → ℕ → Space T
  without_name s k = record s { names = map.remove s.names k; objects = map.remove s.objects k }

  -- a name that was given stands for nothing any more
  pub space-gone : (st : Standings) (s s2 : slab.Slab T) (k : ℕ) (was : Standing) → map.get st k ≡ Some was → KeepsOthers st s s2 k → space_of (map.insert st k Gone) s2 ≡ without_name (space_of st s) k
  space-gone st s s2 k was there kept = λ i. record {
    names = names-gone st k i;
    objects = objects-gone st (map.insert st k Gone) s s2 k kept (λ q apart. get-insert_other st k Gone q apart) (ap (object_in s2) (get-insert_here st k Gone)) i;
    given = given-kept st k Gone was there i;
  }

  -- a name that was never given
  space-absent : (st : Standings) (s : slab.Slab T) (k : ℕ) → map.get st k ≡ None → space_of st s ≡ without_name (space_of st s) k
  space-absent st s k none = λ i. record { names = sym (names-absent st k none) i; objects = sym (objects-absent st s k none) i; given = given_of st }

  -- what a name without an object leaves
  pub left_without_object : (st st2 : Standings) (s : slab.Slab T) (k : ℕ) (was : Option Standing) → IsPlaced st s → map.get st k ≡ was → OnSome was (st2 ≡ map.insert st k Gone) → IfNone was (st2 ≡ st)
      → IsPlaced st2 s × (space_of st2 s ≡ without_name (space_of st s) k)
  left_without_object st st2 s k None w there replaced absent = rw absent (w, space-absent st s k there)
  left_without_object st st2 s k (Some was) w there replaced absent = rw replaced (placed-gone st s s w k (λ q place apart at. refl), space-gone st s s k was there (λ q place apart at. refl))

pub placed-empty : {T : Type 0} (s : slab.Slab T) → IsPlaced map.empty s
placed-empty s = record {
  full = λ q p at. let none = map.get-empty {X = Standing} nat_cmp q in cc;
  apart = λ q r p at too. let none = map.get-empty {X = Standing} nat_cmp q in cc;
}

pub names-empty : names_of map.empty ≡ map.empty
names-empty = map.same_map nat_cmp_total map.nat_cmp-IsAntisymmetric _ _ (λ q. get_name map.empty q ∙ ap (name_in q) (map.get-empty nat_cmp q) ∙ sym (map.get-empty nat_cmp q))

pub objects-empty : {T : Type 0} (s : slab.Slab T) → objects_of map.empty s ≡ map.empty
objects-empty s = map.same_map nat_cmp_total map.nat_cmp-IsAntisymmetric _ _ (λ q. get_object map.empty s q ∙ ap (object_in s) (map.get-empty nat_cmp q) ∙ sym (map.get-empty nat_cmp q))

in_range : {T : Type 0} (xs : List (Option T)) (i : ℕ) → is_some (get_or xs i None) ≡ true → i < length xs
in_range xs i h = elim (cases_lt i (length xs)) [ inl p ↦ p | inr p ↦ let none : is_some (get_or xs i None) ≡ false = ap is_some (get_or_past xs i None p) in cc ]

pub updates-with_value : {T : Type 0} (s : slab.Slab T) (place : ℕ) (v : T) → is_some (slab.get s place) ≡ true → slab.Updates s (slab.with_value s place v) place (Some v)
updates-with_value s place v there =
    let within : place < length s.slots = in_range s.slots place there in
    record { changed = rw get_or-set_same refl; others = λ other apart. rw get_or-set_other refl }

-- a name that has an object has one
module _ {T : Type 0} (st : Standings) (s : slab.Slab T) (placed : IsPlaced st s) (name : ℕ) where
  there_by : (o : Option Standing) → map.get st name ≡ o → IfSome (name_in name o) (λ x. x.is_object ≡ true → IsSome (map.get (objects_of st s) name))
  there_by None e = tt
  there_by (Some Gone) e = tt
  there_by (Some Unmade) e = λ is. absurd (cc)
  there_by (Some (Made place)) e = λ is. ap is_some (get_object st s name ∙ ap (object_in s) e) ∙ placed.full name place e

  pub there : (found : Option Name) → found ≡ map.get (names_of st) name → IfSome found (λ x. x.is_object ≡ true → IsSome (map.get (objects_of st s) name))
  there found is = subst (λ (o : Option Name). IfSome o (λ x. x.is_object ≡ true → IsSome (map.get (objects_of st s) name))) (sym (is ∙ get_name st name)) (there_by (map.get st name) refl)
