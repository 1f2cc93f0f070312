use Rattle.std.proofs.Common.{arith}
use Rattle.gles2_run.proofs.Lines.{lines_are_few}
use Rattle.gles2_run.proofs.working.run_text.Goals as goal

pub read_script-requires : goal.read_script-requires
read_script-requires c = omega (arith, lines_are_few c.deref.result.now, c.deref.ensures, c.requires.short)
