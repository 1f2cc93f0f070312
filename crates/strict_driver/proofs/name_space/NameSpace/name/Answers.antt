-- That a name is what it stands for, and has its object.
use Rattle.std.proofs.Common.{◌≡◌, true, IfSome, IsSome, sym, ◌∙◌, ap, subst}
use Rattle.std.specs.FinMap as map
use Rattle.strict_driver.specs.Standings.{Space, name_in}
use Rattle.strict_driver.proofs.Placing.{get_name, there}
use Rattle.strict_driver.proofs.name_space.NameSpace.name.Goals as goal

pub returns-clause-value : goal.returns-clause-value
returns-clause-value g c =
    c.standing_name.ensures.value ∙ ap (name_in c.args.name) (c.copied.ensures ∙ c.get.ensures)
    ∙ sym (get_name c.self.inside.standings c.args.name) ∙ ap (λ (s : Space g.row.T.Denot). map.get s.names c.args.name) c.self.view_is

pub returns-clause-there : goal.returns-clause-there
returns-clause-there g c =
    let st = c.self.inside.standings in
    let named = c.standing_name.ensures.value ∙ ap (name_in c.args.name) (c.copied.ensures ∙ c.get.ensures) ∙ sym (get_name st c.args.name) in
    subst (λ (s : Space g.row.T.Denot). IfSome c.standing_name.result (λ found. found.is_object ≡ true → IsSome (map.get s.objects c.args.name))) c.self.view_is (there st c.self.inside.objects c.self.invariant c.args.name c.standing_name.result named)
