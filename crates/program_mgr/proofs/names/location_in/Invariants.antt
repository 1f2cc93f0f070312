use Rattle.std.proofs.Common.{◌≡◌, ◌+◌, drop}
use Rattle.gl_plain.specs.subjects.Links.{elements_in}
use Rattle.program_mgr.specs.Names.{location_from}
use Rattle.program_mgr.proofs.names.location_in.Given as goal

abbrev pub invariant-loop-uniform : goal.invariant-loop-uniform
invariant-loop-uniform l = record {
  rest : location_from (drop l.uniform-index l.uniforms) l.name l.first ≡ location_from l.uniforms l.name 0;
  elements : l.first + elements_in (drop l.uniform-index l.uniforms) ≡ elements_in l.uniforms;
}
