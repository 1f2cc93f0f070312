use Rattle.std.proofs.Common.{◌≡◌, drop}
use Rattle.gl_plain.specs.subjects.Programs.{shader_of_kind}
use Rattle.program_mgr.specs.Tables.{tables}
use Rattle.program_mgr.proofs.programs.Programs.shader_of_kind.Given as goal

abbrev pub invariant-loop-number : goal.invariant-loop-number
invariant-loop-number l = shader_of_kind (tables l.self).shaders l.kind (drop l.number-index l.numbers) ≡ shader_of_kind (tables l.self).shaders l.kind l.numbers
