use Rattle.std.proofs.Common.{◌≡◌, ◌++◌, take, drop}
use Rattle.std.specs.Prelude.{map}
use Rattle.gl_plain.specs.subjects.Textures.{unit_unbound}
use Rattle.gl_plain.proofs.textures.TextureUnits.unbind.Given as goal

-- the units so far bind other numbers, and those ahead are as they were
abbrev pub invariant-loop-index : goal.invariant-loop-index
invariant-loop-index l = l.self ≡ record l.initial.self { units = map (unit_unbound l.number) (take l.index l.initial.self.units) ++ drop l.index l.initial.self.units }
