use Rattle.std.proofs.Common.{◌≡◌, length, take}
use Rattle.std.specs.Prelude.{map}
use Rattle.gl_plain.specs.subjects.Draws.{array_view}
use Rattle.buffer_mgr.specs.Tables.{tables}
use Rattle.decode_draw.proofs.views.array_views.Given as goal

-- the views so far are those of the arrays
abbrev pub invariant-loop-index : goal.invariant-loop-index
invariant-loop-index l = (length l.views ≡ 16) × (take l.index l.views ≡ map (array_view (tables l.buffers).objects) (take l.index l.attributes))
