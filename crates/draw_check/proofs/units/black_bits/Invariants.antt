use Rattle.std.proofs.Common.{◌≡◌, ◌+◌, ◌^◌, ◌<◌, drop}
use Rattle.gl_plain.specs.subjects.Draws as d
use Rattle.draw_check.proofs.units.black_bits.Given as goal

abbrev pub invariant-loop-unit : goal.invariant-loop-unit
invariant-loop-unit l = record {
  so_far : l.black + d.black_bits l.bit (drop l.unit-index l.units) ≡ d.black_bits 1 l.units;
  below : l.black < l.bit;
  doubled : l.bit ≡ 2 ^ l.unit-index;
}
