use Rattle.std.proofs.Common.{◌≡◌, ◌<◌, ◌^◌, drop, max}
use Rattle.gl_plain.specs.subjects.ProgramQueries as d
use Rattle.decode_query.proofs.programs.longest_uniform.Given as goal

-- the longest name so far, or a longer one of those that are left
abbrev pub invariant-loop-uniform : goal.invariant-loop-uniform
invariant-loop-uniform l = (max l.longest (d.longest_uniform (drop l.uniform-index l.uniforms)) ≡ d.longest_uniform l.uniforms) × (l.longest < 2 ^ 63)
