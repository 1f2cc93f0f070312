-- That a draw of elements is written with its numbers as they are.
use Rattle.std.proofs.lemmas.Int.{to_z-of_z}
use Rattle.report_text.specs.Calls.{drawing_text}
use Rattle.report_text.proofs.calls.write_draw_elements.Goals as goal

pub returns : goal.returns
unfolding drawing_text
returns c = let count = c.ranges.count in simp to_z-of_z at (rw (c.from.ensures, c.from-2.ensures) at c.write_named.ensures)
