-- That a search in a list that does not fall finds what is in it.
use Rattle.std.proofs.Common.{◌∙◌, sym, ap, arith}
use Rattle.std.proofs.lemmas.List.Sorted.{searched}
use Rattle.std.specs.List.{list_any}
use Rattle.std.specs.Prelude.{◌==◌}
use Rattle.strict_driver.proofs.Among.{found_is_among, none_at}
use Rattle.strict_driver.proofs.strict.is_among.Goals as goal

pub returns-in-Ok : goal.returns-in-Ok
returns-in-Ok c =
    c.is_ok.ensures.value
    ∙ found_is_among c.args.sorted.now c.in-Ok.number c.binary_search.result (searched c.args.sorted.now c.in-Ok.number c.binary_search.result c.binary_search.ensures.position (λ i j le within. c.requires i j 0 le within))
    ∙ ap (λ x. list_any (λ n. n == x) c.args.sorted.now) c.in-Ok.ensures.1

pub returns-in-Err : goal.returns-in-Err
returns-in-Err c = sym (none_at c.args.sorted.now c.args.number (λ k within is. c.in-Err.ensures (omega (arith, c.type_inv.sorted k))))
