-- That no entries are the empty map, and no other map has none.
use Rattle.std.proofs.Common.{◌≡◌, arith, ◌∙◌, ap, sym}
use Rattle.std.proofs.lemmas.Bool.Decides.{nat_tests}
use Rattle.std.specs.Ordering.{nat_cmp}
use Rattle.std.specs.FinMap as map
use Rattle.gl_base.proofs.number_map.NumberMap.is_empty.Goals as goal

pub returns : goal.returns
returns g c = (
  λ zero_long. map.empty_of_len _ (sym c.len.ensures ∙ grind (arith, nat_tests)),
  λ empty. let none : c.len.result ≡ 0 = c.len.ensures ∙ ap map.len empty ∙ map.len-empty nat_cmp _ in grind (arith, nat_tests),
)
