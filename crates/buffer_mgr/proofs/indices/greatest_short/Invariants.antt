use Rattle.std.proofs.Common.{◌≡◌, ◌*◌, ◌-◌, ◌/◌, length, max}
use Rattle.gl_base.specs.declared.enums.TheConstants.{UNSIGNED_SHORT}
use Rattle.gl_plain.specs.subjects.Draws as d
use Rattle.buffer_mgr.proofs.indices.greatest_short.Given as goal

abbrev pub invariant-loop-pair : goal.invariant-loop-pair
invariant-loop-pair l =
    max l.greatest (d.greatest (d.indices l.bytes UNSIGNED_SHORT (2 * l.pair) (length l.bytes / 2 - l.pair))) ≡ d.greatest (d.indices l.bytes UNSIGNED_SHORT 0 (length l.bytes / 2))
