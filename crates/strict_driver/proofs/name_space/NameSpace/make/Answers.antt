-- That a name has an object from then on.
use Rattle.std.proofs.Common.{◌≡◌, true, refl, ◌∙◌, ap, is_some}
use Rattle.std.specs.FinMap as map
use Rattle.gl_base.proofs.Found.{get-insert_here, get-insert_other}
use Rattle.gl_plain.specs.subjects.Names.{new_name, made_object}
use Rattle.strict_driver.specs.declared.name_space.Standing.TheVariants.{Unmade, Made}
use Rattle.strict_driver.specs.Standings.{Space, object_in}
use Rattle.strict_driver.proofs.Placing.{unmade, placed-made, names-set, objects-set, keeps-insert, given-kept}
use Rattle.strict_driver.proofs.name_space.NameSpace.make.Goals as goal

pub invariant_of-self-2 : goal.invariant_of-self-2
invariant_of-self-2 g c =
    let st = c.self.inside.standings in
    let insert = c.in_ok-place.ensures in
    let there = unmade st c.args.name (ap (λ (s : Space g.row.T.Denot). map.get s.names c.args.name) c.self.view_is ∙ c.requires) in
    let replaced : c.replace-unmade.new.self ≡ map.insert st c.args.name (Made c.in_ok-place.place) = rw (c.replace-unmade.ensures.before ∙ there) at c.replace-unmade.ensures.replaced in
    let kept = keeps-insert st c.self.inside.objects c.insert.new.self c.self.invariant c.args.name c.in_ok-place.place _ insert.was_vacant insert.updates in
    rw replaced (placed-made st c.self.inside.objects c.insert.new.self c.self.invariant c.args.name c.in_ok-place.place insert.was_vacant kept (ap is_some insert.updates.changed))

pub returns-clause-ok : goal.returns-clause-ok
returns-clause-ok g c =
    let st = c.self.inside.standings in
    let insert = c.in_ok-place.ensures in
    let there = unmade st c.args.name (ap (λ (s : Space g.row.T.Denot). map.get s.names c.args.name) c.self.view_is ∙ c.requires) in
    let replaced : c.replace-unmade.new.self ≡ map.insert st c.args.name (Made c.in_ok-place.place) = rw (c.replace-unmade.ensures.before ∙ there) at c.replace-unmade.ensures.replaced in
    let kept = keeps-insert st c.self.inside.objects c.insert.new.self c.self.invariant c.args.name c.in_ok-place.place _ insert.was_vacant insert.updates in
    rw replaced (
    (λ i. record {
      names = names-set st c.args.name (Made c.in_ok-place.place) (record { number = c.args.name; is_object = true }) refl i;
      objects = objects-set st (map.insert st c.args.name (Made c.in_ok-place.place)) c.self.inside.objects c.insert.new.self c.args.name c.args.object kept (λ q apart. get-insert_other st c.args.name (Made c.in_ok-place.place) q apart)
          (ap (object_in c.insert.new.self) (get-insert_here st c.args.name (Made c.in_ok-place.place)) ∙ insert.updates.changed) i;
      given = given-kept st c.args.name (Made c.in_ok-place.place) Unmade there i;
    })
    ∙ ap (λ (s : Space g.row.T.Denot). record s { names = made_object s.names c.args.name (new_name c.args.name); objects = map.insert s.objects c.args.name c.args.object }) c.self.view_is
    )
