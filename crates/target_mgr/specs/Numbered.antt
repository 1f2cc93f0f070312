-- The numbers of objects.
use Rattle.std.specs.Prelude.{◌≡◌, ◌≢◌, ℕ, None, Some}
use Rattle.std.specs.Ordering.{nat_cmp}
use Rattle.std.specs.FinMap as map
use Rattle.gl_plain.specs.declared.objects.Name.{Name}
use Rattle.gl_plain.specs.subjects.Names.{Names}

-- no name has the number 0, which stands for nothing, and no object does
pub record AreNumbered {X : Type 0} (names : Names) (objects : map.FinMap nat_cmp X) : Type 0 where
  pub named : (id : ℕ) (x : Name) → map.get names id ≡ Some x → x.number ≢ 0
  pub zero : map.get objects 0 ≡ None
