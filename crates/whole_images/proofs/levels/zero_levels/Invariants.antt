-- The levels so far are whole.
use Rattle.std.proofs.Common.{◌-◌}
use Rattle.gl_plain.specs.subjects.Completeness.{level_places}
use Rattle.whole_images.proofs.MadeWhole.{WholeIn}
use Rattle.whole_images.proofs.levels.zero_levels.Given as goal

abbrev pub invariant-loop-level : goal.invariant-loop-level
invariant-loop-level g l = WholeIn g.D.Driver.history g.D.Driver.grown l.fn.driver l.driver l.fn.textures l.textures (level_places l.number l.face 0 l.levels) (level_places l.number l.face l.level (l.levels - l.level))
