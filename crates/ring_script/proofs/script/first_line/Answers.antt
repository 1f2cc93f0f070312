use Rattle.std.proofs.Common.{sym}
use Rattle.ring_script.proofs.TextLines.{line_cut, line_last}
use Rattle.ring_script.proofs.script.first_line.Goals as goal

pub returns-in-Some : goal.returns-in-Some
returns-in-Some c =
    let cut = line_cut c.args.text.now c.in-Some.parts.0.now c.in-Some.parts.1.now (sym c.in-Some.ensures) in
    record { lines = cut.0; shorter = cut.1 }

pub returns-in-None-clause-lines : goal.returns-in-None-clause-lines
returns-in-None-clause-lines c = line_last c.args.text.now c.requires (sym c.in-None.ensures)
