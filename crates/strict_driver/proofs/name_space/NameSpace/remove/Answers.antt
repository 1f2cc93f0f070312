-- That a name is gone with its object.
use Rattle.std.proofs.Common.{◌≡◌, sym, ◌∙◌, ap, Some, None}
use Rattle.std.specs.FinMap as map
use Rattle.strict_driver.specs.declared.name_space.Standing.TheVariants.{Made, Gone}
use Rattle.strict_driver.specs.Standings.{Space, object_in}
use Rattle.strict_driver.proofs.Placing.{keeps-change, placed-gone, get_object, space-gone, in_place, in_no_place, left_without_object, own_number, without_name}
use Rattle.strict_driver.proofs.name_space.NameSpace.remove.Goals as goal

pub returns-in_err-place-clause-own : goal.returns-in_err-place-clause-own
returns-in_err-place-clause-own g c = rw (← c.self.view_is) (own_number c.self.inside.standings c.args.name)

pub returns-in_err-place-clause-object : goal.returns-in_err-place-clause-object
returns-in_err-place-clause-object g c =
    let objects = c.self.inside.objects in
    let none = sym (in_no_place objects c.replace.result (sym c.in_err-place.ensures)) in
    rw c.from_residual.ensures (none ∙ ap (object_in objects) c.replace.ensures.before ∙ sym (get_object c.self.inside.standings objects c.args.name) ∙ ap (λ (s : Space g.row.T.Denot). map.get s.objects c.args.name) c.self.view_is)

pub invariant_of-self : goal.invariant_of-self
invariant_of-self g c =
    (left_without_object c.self.inside.standings c.replace.new.self c.self.inside.objects c.args.name c.replace.result c.self.invariant (sym c.replace.ensures.before) c.replace.ensures.replaced c.replace.ensures.absent).0

pub returns-in_err-place-clause-rest : goal.returns-in_err-place-clause-rest
returns-in_err-place-clause-rest g c =
    (left_without_object c.self.inside.standings c.replace.new.self c.self.inside.objects c.args.name c.replace.result c.self.invariant (sym c.replace.ensures.before) c.replace.ensures.replaced c.replace.ensures.absent).1
    ∙ ap (λ (s : Space g.row.T.Denot). without_name s c.args.name) c.self.view_is

pub returns-clause-own : goal.returns-clause-own
returns-clause-own g c = rw (← c.self.view_is) (own_number c.self.inside.standings c.args.name)

pub invariant_of-self-2 : goal.invariant_of-self-2
invariant_of-self-2 g c =
    let st = c.self.inside.standings in
    let objects = c.self.inside.objects in
    let made = in_place c.replace.result c.in_ok-place.place (sym c.in_ok-place.ensures) in
    let there : map.get st c.args.name ≡ Some (Made c.in_ok-place.place) = sym c.replace.ensures.before ∙ made in
    let replaced : c.replace.new.self ≡ map.insert st c.args.name Gone = rw made at c.replace.ensures.replaced in
    rw replaced (placed-gone st objects c.try_remove.new.self c.self.invariant c.args.name (keeps-change st objects c.try_remove.new.self c.self.invariant c.args.name c.in_ok-place.place None there c.try_remove.ensures.updates))

pub returns-clause-object : goal.returns-clause-object
returns-clause-object g c =
    let objects = c.self.inside.objects in
    let there = sym c.replace.ensures.before ∙ in_place c.replace.result c.in_ok-place.place (sym c.in_ok-place.ensures) in
    c.try_remove.ensures.value ∙ sym (ap (object_in objects) there) ∙ sym (get_object c.self.inside.standings objects c.args.name) ∙ ap (λ (s : Space g.row.T.Denot). map.get s.objects c.args.name) c.self.view_is

pub returns-clause-rest : goal.returns-clause-rest
returns-clause-rest g c =
    let st = c.self.inside.standings in
    let objects = c.self.inside.objects in
    let made = in_place c.replace.result c.in_ok-place.place (sym c.in_ok-place.ensures) in
    let there : map.get st c.args.name ≡ Some (Made c.in_ok-place.place) = sym c.replace.ensures.before ∙ made in
    let replaced : c.replace.new.self ≡ map.insert st c.args.name Gone = rw made at c.replace.ensures.replaced in
    rw replaced (
    space-gone st objects c.try_remove.new.self c.args.name (Made c.in_ok-place.place) there (keeps-change st objects c.try_remove.new.self c.self.invariant c.args.name c.in_ok-place.place None there c.try_remove.ensures.updates)
    ∙ ap (λ (s : Space g.row.T.Denot). without_name s c.args.name) c.self.view_is
    )
