-- What texture units bind.
use Rattle.std.specs.Prelude.{ℕ, Bool}
use Rattle.gl_plain.specs.subjects.Textures.{TextureObjects, IsOfKind, texture_at, bound_in, unit_at}

-- what a unit binds is there, and of its kind
abbrev pub AreBound : TextureObjects → Type 0
AreBound t = (unit : ℕ) (cube : Bool) → IsOfKind cube (texture_at t (bound_in (unit_at t.units unit) cube) cube)
