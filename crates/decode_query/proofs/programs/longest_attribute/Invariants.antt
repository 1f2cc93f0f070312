use Rattle.std.proofs.Common.{◌≡◌, ◌<◌, ◌^◌, drop, max}
use Rattle.gl_plain.specs.subjects.ProgramQueries as d
use Rattle.decode_query.proofs.programs.longest_attribute.Given as goal

-- the longest name so far, or a longer one of those that are left
abbrev pub invariant-loop-attribute : goal.invariant-loop-attribute
invariant-loop-attribute l = (max l.longest (d.longest_attribute (drop l.attribute-index l.attributes)) ≡ d.longest_attribute l.attributes) × (l.longest < 2 ^ 63)
