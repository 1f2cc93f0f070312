use Rattle.std.proofs.Common.{◌≡◌, ◌≤◌, ◌+◌, ◌++◌, drop}
use Rattle.gl_base.specs.declared.limits.TheConstants.{UNIFORM_LIMIT}
use Rattle.gl_plain.specs.subjects.Links.{elements_in}
use Rattle.gl_plain.specs.subjects.ProgramQueries as d
use Rattle.decode_query.proofs.bytes.push_uniforms.Given as goal

abbrev pub invariant-loop-uniform : goal.invariant-loop-uniform
invariant-loop-uniform l = (l.bytes.items ++ d.uniform_entries l.location (drop l.uniform-index l.uniforms) ≡ l.fn.bytes.items ++ d.uniform_entries 0 l.uniforms)
    × (l.location + elements_in (drop l.uniform-index l.uniforms) ≤ UNIFORM_LIMIT)
