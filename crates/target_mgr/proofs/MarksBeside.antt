-- Renderbuffers beside the tables: what tables have of them, and which were written, also after one is made, replaced or deleted.
use Rattle.std.proofs.Common.{◌≡◌, ℕ, Bool, true, false, ◌==◌, if◌then◌else◌, Option, None, Some, IsSome, refl, sym, ap, subst, ◌∙◌, inl, inr, arith}
use Rattle.std.proofs.lemmas.Bool.{ne_eqb}
use Rattle.std.proofs.lemmas.Bool.Decides.{nat_tests}
use Rattle.std.specs.FinMap as map
use Rattle.std.specs.Ordering.{nat_cmp}
use Rattle.std.specs.Option.{option_map}
use Rattle.gl_base.proofs.Found.{test, get-insert_here, get-insert_other, get-remove_here, get-remove_other, insert-same}
use Rattle.gl_plain.specs.declared.objects.Name.{Name}
use Rattle.gl_plain.specs.declared.targets.Renderbuffer as plain
use Rattle.gl_plain.specs.subjects.Names.{made_object}
use Rattle.gl_plain.specs.subjects.Targets.{BoundObjects, no_objects, binding, bind_by, bind_effect, delete_by, delete_effect}
use Rattle.gl_plain.specs.subjects.Images.{Marks, no_marks, with_mark}
use Rattle.gl_plain.specs.object.Covers.{deleted_marks}
use Rattle.target_mgr.specs.declared.renderbuffers.Renderbuffer.{Renderbuffer}
use Rattle.target_mgr.specs.MappedValues.{map_values}
use Rattle.target_mgr.specs.Named.{with_entry}
use Rattle.target_mgr.specs.Marked.{image_of, unmarked, mark_of, marks_of}
use Rattle.target_mgr.proofs.MappedValues.{get-map_values, map_values-insert, map_values-remove, map_values-empty}

-- The marks of a map

pub marks-insert : (m : map.FinMap nat_cmp Renderbuffer) (k : ℕ) (x : Renderbuffer) → marks_of (map.insert m k x) ≡ with_mark (marks_of m) k x.written
marks-insert m k x i n = at i where
  at : marks_of (map.insert m k x) n ≡ with_mark (marks_of m) k x.written n
  at = elim (test n k) [
    | inl p ↦
        ap mark_of (ap (map.get (map.insert m k x)) p.0 ∙ get-insert_here m k x)
        ∙ ap (λ b. if b then x.written else marks_of m n) (let t : true ≡ (k == n) = sym (grind (arith, nat_tests, p.0)) in t)
    | inr p ↦ ap mark_of (get-insert_other m k x n p.0) ∙ ap (λ b. if b then x.written else marks_of m n) (sym (ne_eqb k n (λ e. p.0 (sym e))))
  ]

marks-remove : (m : map.FinMap nat_cmp Renderbuffer) (k : ℕ) → marks_of (map.remove m k) ≡ with_mark (marks_of m) k false
marks-remove m k i n = at i where
  at : marks_of (map.remove m k) n ≡ with_mark (marks_of m) k false n
  at = elim (test n k) [
    | inl p ↦
        ap mark_of (ap (map.get (map.remove m k)) p.0 ∙ get-remove_here m k)
        ∙ ap (λ b. if b then false else marks_of m n) (let t : true ≡ (k == n) = sym (grind (arith, nat_tests, p.0)) in t)
    | inr p ↦ ap mark_of (get-remove_other m k n p.0) ∙ ap (λ b. if b then false else marks_of m n) (sym (ne_eqb k n (λ e. p.0 (sym e))))
  ]

pub marks-empty : marks_of map.empty ≡ no_marks
marks-empty i n = ap mark_of (map.get-empty nat_cmp n) i

-- A renderbuffer of the tables, and one of the service

module _ (m : map.FinMap nat_cmp Renderbuffer) (number : ℕ) where
  pub seen_there : (x : Renderbuffer) → Some x ≡ map.get m number → map.get (map_values image_of m) number ≡ Some (image_of x)
  seen_there x is = get-map_values image_of m number ∙ ap (option_map image_of) (sym is)

  pub seen_missing : None ≡ map.get m number → map.get (map_values image_of m) number ≡ None
  seen_missing is = get-map_values image_of m number ∙ ap (option_map image_of) (sym is)

  by_option : (o : Option Renderbuffer) → IsSome (option_map image_of o) → IsSome o
  by_option None there = there
  by_option (Some x) there = there

  pub there_beside : IsSome (map.get (map_values image_of m) number) → IsSome (map.get m number)
  there_beside there = by_option (map.get m number) (subst IsSome (get-map_values image_of m number) there)

-- The tables

pub unmarked-empty : unmarked no_objects ≡ no_objects
unmarked-empty i = record { names = map.empty; objects = map_values-empty image_of i; bound = 0 }

module _ (t : BoundObjects Renderbuffer) where
  pub unmarked-entry : (number : ℕ) (x : Renderbuffer) → unmarked (with_entry t number x) ≡ with_entry (unmarked t) number (image_of x)
  unmarked-entry number x i = record { names = t.names; objects = map_values-insert image_of t.objects number x i; bound = t.bound }

  -- a renderbuffer is replaced by one of the same image
  pub unmarked-same : (number : ℕ) (was now : Renderbuffer) → Some was ≡ map.get t.objects number → image_of now ≡ image_of was → unmarked (with_entry t number now) ≡ unmarked t
  unmarked-same number was now there same i = record {
    names = t.names;
    objects = (map_values-insert image_of t.objects number now ∙ ap (map.insert (map_values image_of t.objects) number) same ∙ insert-same (map_values image_of t.objects) number (image_of was) (seen_there t.objects number was there)) i;
    bound = t.bound;
  }

  module _ (id : ℕ) where
    bound_if : (x : Renderbuffer) (n : Name) (b : Bool)
        → unmarked (binding (if b then t else record { names = made_object t.names id n; objects = map.insert t.objects n.number x; bound = t.bound }) n.number)
        ≡ binding (if b then unmarked t else record { names = made_object t.names id n; objects = map.insert (map_values image_of t.objects) n.number (image_of x); bound = t.bound }) n.number
    bound_if x n true = refl
    bound_if x n false = λ i. record { names = made_object t.names id n; objects = map_values-insert image_of t.objects n.number x i; bound = n.number }

    bound_by : (x : Renderbuffer) (o : Option Name) → unmarked (bind_by x t id o) ≡ bind_by (image_of x) (unmarked t) id o
    bound_by x None = refl
    bound_by x (Some n) = bound_if x n n.is_object

    pub unmarked-bind : (x : Renderbuffer) → unmarked (bind_effect x t id) ≡ bind_effect (image_of x) (unmarked t) id
    unmarked-bind x = bound_by x (map.get t.names id)

    deleted_by : (o : Option Name) → unmarked (delete_by t id o) ≡ delete_by (unmarked t) id o
    deleted_by None = refl
    deleted_by (Some n) = λ i. record { names = (delete_by t id (Some n)).names; objects = map_values-remove image_of t.objects n.number i; bound = (delete_by t id (Some n)).bound }

    pub unmarked-delete : unmarked (delete_effect t id) ≡ delete_effect (unmarked t) id
    unmarked-delete = deleted_by (map.get t.names id)

    -- The marks after the object of a name is made or deleted

    marks_if : (x : Renderbuffer) (n : Name) → x.written ≡ false → (b : Bool)
        → marks_of (binding (if b then t else record { names = made_object t.names id n; objects = map.insert t.objects n.number x; bound = t.bound }) n.number).objects
        ≡ (if b then marks_of t.objects else with_mark (marks_of t.objects) n.number false)
    marks_if x n none true = refl
    marks_if x n none false = marks-insert t.objects n.number x ∙ ap (with_mark (marks_of t.objects) n.number) none

    pub marks-bind : (x : Renderbuffer) (n : Name) → x.written ≡ false → map.get t.names id ≡ Some n
        → marks_of (bind_effect x t id).objects ≡ (if n.is_object then marks_of t.objects else with_mark (marks_of t.objects) n.number false)
    marks-bind x n none there = ap (λ o. marks_of (bind_by x t id o).objects) there ∙ marks_if x n none n.is_object

    marks_by : (o : Option Name) → marks_of (delete_by t id o).objects ≡ deleted_marks (marks_of t.objects) o
    marks_by None = refl
    marks_by (Some n) = marks-remove t.objects n.number

    pub marks-delete : marks_of (delete_effect t id).objects ≡ deleted_marks (marks_of t.objects) (map.get t.names id)
    marks-delete = marks_by (map.get t.names id)
