-- That the entries of std's map are those of the finite map.
use Rattle.std.proofs.Common.{◌≡◌, Some, ◌∙◌, sym, subst}
use Rattle.std.specs.List.{All}
use Rattle.std.specs.FinMap as map
use Rattle.gl_base.proofs.Maps.{entries-from_entries, lookup_is_get}
use Rattle.gl_base.proofs.number_map.NumberMap.iter.Goals as goal

pub returns-clause-rest : goal.returns-clause-rest
returns-clause-rest g c = c.iter.ensures.rest ∙ entries-from_entries _ _ c.self.view_is c.iter.ensures.ordered

pub returns-clause-found : goal.returns-clause-found
returns-clause-found g c =
    subst (All (λ e. map.get c.args.self.now e.0 ≡ Some e.1)) (entries-from_entries _ _ c.self.view_is c.iter.ensures.ordered)
    (λ k d h. sym (lookup_is_get _ _ _ _ c.self.view_is (sym (c.iter.ensures.found k d h))))
