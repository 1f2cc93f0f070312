use Rattle.report_text.proofs.HexDigits.{AreWritten}
use Rattle.report_text.proofs.values.place_digits.Given as goal

abbrev pub invariant-digits : goal.invariant-digits
invariant-digits l = AreWritten l.value l.first l.rest l.digits

abbrev pub decreases-digits : goal.decreases-digits
decreases-digits l = l.first
