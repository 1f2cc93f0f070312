-- That each turn of the loop makes the next face whole.
use Rattle.std.proofs.Common.{◌<◌, ◌+◌, ◌-◌, arith}
use Rattle.gl_plain.specs.subjects.Completeness.{level_places, face_places}
use Rattle.whole_images.proofs.MadeWhole.{all_faces, begins_in, next_face, may_in, makes_in, stops_in}
use Rattle.whole_images.proofs.levels.zero_faces.Goals as goal

pub loop-face-init : goal.loop-face-init
loop-face-init g c = begins_in (all_faces c.args.number c.args.levels c.args.cube c.face_numbers-first.result.0 c.face_numbers-first.result.1 c.face_numbers-first.ensures.first c.face_numbers-first.ensures.end) g.met.D.Driver.grown_itself c.args.driver.now

pub zero_levels-requires : goal.zero_levels-requires
zero_levels-requires g c =
    let within : c.loop-face.face < c.face_numbers-first.result.1 = omega arith in
    may_in (level_places c.args.number (record { 0 = c.loop-face.face }) 0 c.args.levels) (face_places c.args.number c.args.levels (c.loop-face.face + 1) (c.face_numbers-first.result.1 - (c.loop-face.face + 1)))
    (next_face c.args.number c.args.levels c.loop-face.face c.face_numbers-first.result.1 within) c.loop-face.invariant c.requires

pub returns-in_err-zero_levels : goal.returns-in_err-zero_levels
returns-in_err-zero_levels g c =
    let within : c.loop-face.face < c.face_numbers-first.result.1 = omega arith in
    stops_in (level_places c.args.number (record { 0 = c.loop-face.face }) 0 c.args.levels) (face_places c.args.number c.args.levels (c.loop-face.face + 1) (c.face_numbers-first.result.1 - (c.loop-face.face + 1)))
    (next_face c.args.number c.args.levels c.loop-face.face c.face_numbers-first.result.1 within) c.loop-face.invariant g.met.D.Driver.grown_further c.from_residual.result c.from_residual.ensures.1 c.in_err-zero_levels.ensures

pub loop-face-preserved : goal.loop-face-preserved
loop-face-preserved g c =
    let within : c.loop-face.face < c.face_numbers-first.result.1 = omega arith in
    makes_in (level_places c.args.number (record { 0 = c.loop-face.face }) 0 c.args.levels) (face_places c.args.number c.args.levels (c.loop-face.face + 1) (c.face_numbers-first.result.1 - (c.loop-face.face + 1)))
    (next_face c.args.number c.args.levels c.loop-face.face c.face_numbers-first.result.1 within) c.loop-face.invariant g.met.D.Driver.grown_further c.in_ok-zero_levels.ensures
