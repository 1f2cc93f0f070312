use Rattle.std.proofs.Common.{◌∷◌, List, ℕ, ap, arith}
use Rattle.report_text.proofs.HexDigits.{none_written, one_more, all_padded}
use Rattle.report_text.proofs.values.place_digits.Goals as goal

pub digits-init : goal.digits-init
digits-init c = none_written c.args.value c.args.digits.now (omega arith) c.requires.zeros

pub digits-preserved : goal.digits-preserved
digits-preserved c = one_more _ _ _ _ c.upper_digit.ensures _ c.digits.invariant c.if-rest-eq0.false

pub returns-clause-digits : goal.returns-clause-digits
returns-clause-digits c =
    ap (λ (ds : List ℕ). 48 ∷ 120 ∷ ds) (rw c.min.ensures (all_padded _ _ _ _ c.upper_digit.ensures _ _ c.digits.invariant c.if-rest-eq0.true c.requires.narrow))
