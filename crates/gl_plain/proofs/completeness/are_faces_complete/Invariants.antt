use Rattle.std.proofs.Common.{◌≡◌}
use Rattle.gl_plain.specs.subjects.Completeness as d
use Rattle.gl_plain.specs.subjects.Viewed.{texture_viewed}
use Rattle.gl_plain.proofs.completeness.are_faces_complete.Given as goal

abbrev pub invariant-loop-face : goal.invariant-loop-face
invariant-loop-face l = l.complete ≡ d.are_faces_complete (texture_viewed l.view) l.base l.face
