use Rattle.std.proofs.Common.{◌≡◌, ◌+◌, ◌++◌, drop}
use Rattle.gl_plain.specs.subjects.Links.{words_in}
use Rattle.program_mgr.specs.Places.{table_from}
use Rattle.program_mgr.proofs.places.table_of.Given as goal

abbrev pub invariant-loop-index : goal.invariant-loop-index
invariant-loop-index l = record {
  rest : l.places.items ++ table_from (drop l.index l.uniforms) l.index l.words ≡ table_from l.uniforms 0 0;
  words : l.words + words_in (drop l.index l.uniforms) ≡ words_in l.uniforms;
}
