-- That the name is in use from then on.
use Rattle.std.proofs.Common.{◌≡◌, refl, ◌∙◌, ap, None}
use Rattle.std.specs.FinMap as map
use Rattle.std.specs.FinSet as set
use Rattle.gl_plain.specs.subjects.Names.{new_name, named}
use Rattle.strict_driver.specs.declared.name_space.Standing.TheVariants.{Unmade}
use Rattle.strict_driver.specs.Standings.{Space}
use Rattle.strict_driver.proofs.Placing.{placed-given, names-set, objects-given, given-new, not-given}
use Rattle.strict_driver.proofs.name_space.NameSpace.give.Goals as goal

pub invariant_of-self-2 : goal.invariant_of-self-2
invariant_of-self-2 g c = rw c.in_ok-insert.ensures.ok (placed-given c.self.inside.standings c.self.inside.objects c.self.invariant c.args.name)

pub returns-clause-ok : goal.returns-clause-ok
returns-clause-ok g c =
    let none : map.get c.self.inside.standings c.args.name ≡ None = not-given c.self.inside.standings c.args.name (ap (λ (s : Space g.row.T.Denot). set.contains s.given c.args.name) c.self.view_is ∙ c.requires) in
    rw c.in_ok-insert.ensures.ok (
    (λ i. record {
      names = names-set c.self.inside.standings c.args.name Unmade (new_name c.args.name) refl i;
      objects = objects-given c.self.inside.standings c.self.inside.objects c.args.name none i;
      given = given-new c.self.inside.standings c.args.name Unmade i;
    })
    ∙ ap (λ (s : Space g.row.T.Denot). record s { names = named s.names c.args.name c.args.name; given = set.insert s.given c.args.name }) c.self.view_is
    )
