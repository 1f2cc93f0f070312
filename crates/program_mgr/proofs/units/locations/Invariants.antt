use Rattle.std.proofs.Common.{◌≡◌, ◌^◌, ◌<◌}
use Rattle.gl_plain.specs.subjects.Draws as d
use Rattle.program_mgr.proofs.units.locations.Given as goal

abbrev pub invariant-loop-location : goal.invariant-loop-location
invariant-loop-location l = record {
  so_far : l.bits ≡ d.bits_below (d.is_used l.attributes) l.location;
  below : l.bits < l.bit;
  doubled : l.bit ≡ 2 ^ l.location;
}
