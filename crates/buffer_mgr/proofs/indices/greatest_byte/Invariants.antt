use Rattle.std.proofs.Common.{◌≡◌, drop, max}
use Rattle.gl_plain.specs.subjects.Draws as d
use Rattle.buffer_mgr.proofs.indices.greatest_byte.Given as goal

abbrev pub invariant-loop-byte : goal.invariant-loop-byte
invariant-loop-byte l = max l.greatest (d.greatest (drop l.byte-index l.bytes)) ≡ d.greatest l.bytes
