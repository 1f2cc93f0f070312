use Rattle.std.proofs.Common.{arith}
use Rattle.program_mgr.proofs.Given.{is_unit}
use Rattle.program_mgr.proofs.element.has_no_unit.Goals as goal

pub loop-i-preserved : goal.loop-i-preserved
loop-i-preserved c = is_unit c.args.bytes.now c.loop-i.i c.args.count _ c.loop-i-test.true (omega (arith, c.word.ensures)) c.loop-i.invariant
