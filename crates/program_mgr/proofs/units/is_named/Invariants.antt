use Rattle.std.proofs.Common.{◌≡◌, length, drop}
use Rattle.gl_plain.specs.subjects.Links.{words_in}
use Rattle.gl_plain.specs.subjects.Draws.{names_unit}
use Rattle.program_mgr.proofs.units.is_named.Given as goal

abbrev pub invariant-loop-uniform : goal.invariant-loop-uniform
invariant-loop-uniform l = record {
  rest : names_unit l.kind l.unit (drop l.uniform-index l.uniforms) l.rest ≡ names_unit l.kind l.unit l.uniforms l.values;
  size : length l.rest ≡ words_in (drop l.uniform-index l.uniforms);
}
