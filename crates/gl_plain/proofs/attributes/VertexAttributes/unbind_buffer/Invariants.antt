use Rattle.std.proofs.Common.{◌≡◌, ◌++◌, take, drop}
use Rattle.std.specs.Prelude.{map}
use Rattle.gl_plain.specs.subjects.Attributes.{outside}
use Rattle.gl_plain.proofs.attributes.VertexAttributes.unbind_buffer.Given as goal

-- the attributes so far lie in other buffers, and those ahead are as they were
abbrev pub invariant-loop-index : goal.invariant-loop-index
invariant-loop-index l = l.self.attributes ≡ map (outside l.object) (take l.index l.initial.self.attributes) ++ drop l.index l.initial.self.attributes
