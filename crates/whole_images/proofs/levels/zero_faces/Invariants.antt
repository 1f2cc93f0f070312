-- The faces so far are whole.
use Rattle.std.proofs.Common.{◌-◌}
use Rattle.gl_plain.specs.subjects.Completeness.{face_places, first_face}
use Rattle.gl_plain.specs.subjects.Levels.{face_count}
use Rattle.whole_images.proofs.MadeWhole.{WholeIn}
use Rattle.whole_images.proofs.levels.zero_faces.Given as goal

abbrev pub invariant-loop-face : goal.invariant-loop-face
invariant-loop-face g l = WholeIn g.D.Driver.history g.D.Driver.grown l.fn.driver l.driver l.fn.textures l.textures (face_places l.number l.levels (first_face l.cube).0 (face_count l.cube)) (face_places l.number l.levels l.face (l.end - l.face))
