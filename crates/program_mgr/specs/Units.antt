-- The texture units of the samplers of the executable that is in use (OpenGL ES 2.0.25, section 2.10.4).
use Prim.Native.Nat.{zero, suc}
use Rattle.std.specs.Prelude.{ℕ, ◌+◌, ◌||◌, if◌then◌else◌, List, [], ◌∷◌, ◌++◌, Option, None, Some}
use Rattle.gl_base.specs.declared.enums.TheConstants.{SAMPLER_2D, SAMPLER_CUBE}
use Rattle.gl_base.specs.declared.limits.TheConstants.{LAST_UNIT}
use Rattle.gl_plain.specs.declared.programs.Executable.{Executable}
use Rattle.gl_plain.specs.subjects.Draws.{names_unit}
use Rattle.program_mgr.specs.declared.units.UnitUse.{UnitUse}

-- which samplers name the unit
abbrev pub unit_use : Executable → ℕ → UnitUse
unit_use e unit = record { unit = unit; flat = names_unit SAMPLER_2D unit e.answer.uniforms e.values; cube = names_unit SAMPLER_CUBE unit e.answer.uniforms e.values }

-- a unit that no sampler names is left out
abbrev pub if_named : UnitUse → List UnitUse
if_named used = if used.flat || used.cube then used ∷ [] else []

-- the units below this one that samplers name, in ascending order
abbrev pub uses_below : Executable → ℕ → List UnitUse
uses_below e zero = []
uses_below e (suc n) = uses_below e n ++ if_named (unit_use e n)

-- the units that the samplers of what is in use name; a value that is no unit, which Uniform stores nowhere, counts for nothing
abbrev pub samplers_in : Option Executable → List UnitUse
samplers_in None = []
samplers_in (Some e) = uses_below e (LAST_UNIT + 1)
