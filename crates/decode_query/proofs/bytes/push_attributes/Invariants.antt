use Rattle.std.proofs.Common.{◌≡◌, ◌++◌, drop}
use Rattle.gl_plain.specs.subjects.ProgramQueries as d
use Rattle.decode_query.proofs.bytes.push_attributes.Given as goal

abbrev pub invariant-loop-attribute : goal.invariant-loop-attribute
invariant-loop-attribute l = l.bytes.items ++ d.attribute_entries (drop l.attribute-index l.attributes) ≡ l.fn.bytes.items ++ d.attribute_entries l.attributes
