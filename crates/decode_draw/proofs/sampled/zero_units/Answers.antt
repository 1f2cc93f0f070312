-- That each turn of the loop makes whole what the next unit samples.
use Rattle.std.proofs.Common.{◌<◌, ◌+◌, length, get_or, drop, arith}
use Rattle.gl_plain.specs.subjects.Draws.{unit_places, places_from}
use Rattle.texture_mgr.specs.Tables.{tables}
use Rattle.whole_images.proofs.MadeWhole.{may_in, makes_in, stops_in}
use Rattle.decode_draw.proofs.SampledUnits.{no_unit, next_unit}
use Rattle.decode_draw.proofs.sampled.zero_units.Goals as goal

pub zero_unit-requires-clause-may : goal.zero_unit-requires-clause-may
zero_unit-requires-clause-may g c =
    let within : c.loop-unit.unit < length c.args.units.now = omega arith in
    may_in (unit_places (tables c.loop-unit.textures).objects c.loop-unit.unit (get_or c.args.units.now c.loop-unit.unit no_unit)) (places_from (tables c.args.textures.now).objects (c.loop-unit.unit + 1) (drop (c.loop-unit.unit + 1) c.args.units.now))
    (next_unit (tables c.args.textures.now) (tables c.loop-unit.textures) c.loop-unit.invariant.tables_are c.args.units.now c.loop-unit.unit no_unit within) c.loop-unit.invariant c.requires.may

pub returns-in_err-zero_unit : goal.returns-in_err-zero_unit
returns-in_err-zero_unit g c =
    let within : c.loop-unit.unit < length c.args.units.now = omega arith in
    stops_in (unit_places (tables c.loop-unit.textures).objects c.loop-unit.unit (get_or c.args.units.now c.loop-unit.unit no_unit)) (places_from (tables c.args.textures.now).objects (c.loop-unit.unit + 1) (drop (c.loop-unit.unit + 1) c.args.units.now))
    (next_unit (tables c.args.textures.now) (tables c.loop-unit.textures) c.loop-unit.invariant.tables_are c.args.units.now c.loop-unit.unit no_unit within) c.loop-unit.invariant g.met.D.Driver.grown_further c.from_residual.result c.from_residual.ensures.1 c.in_err-zero_unit.ensures

pub loop-unit-preserved : goal.loop-unit-preserved
loop-unit-preserved g c =
    let within : c.loop-unit.unit < length c.args.units.now = omega arith in
    makes_in (unit_places (tables c.loop-unit.textures).objects c.loop-unit.unit (get_or c.args.units.now c.loop-unit.unit no_unit)) (places_from (tables c.args.textures.now).objects (c.loop-unit.unit + 1) (drop (c.loop-unit.unit + 1) c.args.units.now))
    (next_unit (tables c.args.textures.now) (tables c.loop-unit.textures) c.loop-unit.invariant.tables_are c.args.units.now c.loop-unit.unit no_unit within) c.loop-unit.invariant g.met.D.Driver.grown_further c.in_ok-zero_unit.ensures
