-- That each turn of the loop makes the next level whole.
use Rattle.std.proofs.Common.{◌<◌, ◌+◌, ◌-◌, [], ◌∷◌, arith}
use Rattle.gl_plain.specs.subjects.Completeness.{level_places}
use Rattle.whole_images.proofs.MadeWhole.{next_level, may_in, makes_in, stops_in}
use Rattle.whole_images.proofs.levels.zero_levels.Goals as goal

pub zero_level-requires : goal.zero_level-requires
zero_level-requires g c =
    let within : c.loop-level.level < c.args.levels = omega arith in
    may_in (record { texture = c.args.number; face = c.args.face; level = c.loop-level.level } ∷ []) (level_places c.args.number c.args.face (c.loop-level.level + 1) (c.args.levels - (c.loop-level.level + 1)))
    (next_level c.args.number c.args.face c.loop-level.level c.args.levels within) c.loop-level.invariant c.requires

pub returns-in_err-zero_level : goal.returns-in_err-zero_level
returns-in_err-zero_level g c =
    let within : c.loop-level.level < c.args.levels = omega arith in
    stops_in (record { texture = c.args.number; face = c.args.face; level = c.loop-level.level } ∷ []) (level_places c.args.number c.args.face (c.loop-level.level + 1) (c.args.levels - (c.loop-level.level + 1)))
    (next_level c.args.number c.args.face c.loop-level.level c.args.levels within) c.loop-level.invariant g.met.D.Driver.grown_further c.from_residual.result c.from_residual.ensures.1 c.in_err-zero_level.ensures

pub loop-level-preserved : goal.loop-level-preserved
loop-level-preserved g c =
    let within : c.loop-level.level < c.args.levels = omega arith in
    makes_in (record { texture = c.args.number; face = c.args.face; level = c.loop-level.level } ∷ []) (level_places c.args.number c.args.face (c.loop-level.level + 1) (c.args.levels - (c.loop-level.level + 1)))
    (next_level c.args.number c.args.face c.loop-level.level c.args.levels within) c.loop-level.invariant g.met.D.Driver.grown_further c.in_ok-zero_level.ensures
