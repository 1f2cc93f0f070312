use Rattle.std.proofs.Common.{arith, sym}
use Rattle.gl_plain.proofs.Digits.{too_large_after}
use Rattle.gl_plain.proofs.fields.digits.Goals as goal

pub returns-then-value : goal.returns-then-value
returns-then-value c =
    too_large_after c.args.base c.loop-c.value c.loop-c.c-index c.in_ok-digit.digit c.args.text.now (omega arith)
    (sym c.in_ok-digit.ensures) c.requires.low (omega arith) c.loop-c.invariant.same
