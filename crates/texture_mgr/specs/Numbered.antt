-- The numbers of the objects that names have.
use Rattle.std.specs.Prelude.{◌≡◌, ◌≢◌, ℕ, Some}
use Rattle.std.specs.FinMap as map
use Rattle.gl_plain.specs.declared.objects.Name.{Name}
use Rattle.gl_plain.specs.subjects.Names.{Names}

-- no name has the number 0, which is that of the default textures
abbrev pub AreNumbered : Names → Type 0
AreNumbered names = (id : ℕ) (x : Name) → map.get names id ≡ Some x → x.number ≢ 0
