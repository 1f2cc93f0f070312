-- That a write through the borrow changes one object alone.
use Rattle.std.proofs.Common.{◌≡◌, refl, sym, ◌∙◌, ap, inl, inr, Some}
use Rattle.std.specs.FinMap as map
use Rattle.slab.specs.Slab as slab
use Rattle.strict_driver.specs.declared.name_space.Standing.TheVariants.{Made}
use Rattle.strict_driver.specs.Standings.{Space, object_in, names_of, given_of}
use Rattle.strict_driver.proofs.Placing.{get_object, in_no_place, in_place, objects-set, keeps-change, updates-with_value}
use Rattle.strict_driver.proofs.name_space.NameSpace.object_mut.Goals as goal

pub returns-in_err-place : goal.returns-in_err-place
returns-in_err-place g c =
    let there = c.copied.ensures ∙ c.get.ensures in
    let none = sym (in_no_place c.self.inside.objects c.copied.result (sym c.in_err-place.ensures)) in
    rw c.from_residual.ensures (
      ap inr c.self.view_is,
      record {
        writes_back = tt;
        value = none ∙ ap (object_in c.self.inside.objects) there ∙ sym (get_object c.self.inside.standings c.self.inside.objects c.args.name) ∙ ap (λ (s : Space g.row.T.Denot). map.get s.objects c.args.name) c.self.view_is;
      },
    )

pub returns-in-Some : goal.returns-in-Some
returns-in-Some g c =
    let st = c.self.inside.standings in
    let objects = c.self.inside.objects in
    let place = c.in_ok-place.place in
    let found = c.copied.ensures ∙ c.get.ensures in
    let there : map.get st c.args.name ≡ Some (Made place) = sym found ∙ in_place c.copied.result place (sym c.in_ok-place.ensures) in
    let full = c.self.invariant.full c.args.name place there in (
      (λ i. inl (
        c.in-Some.object.ghost_name,
        λ w. (
            (λ j. record {
              names = names_of st;
              objects = objects-set st st objects (slab.with_value objects place w) c.args.name w (keeps-change st objects (slab.with_value objects place w) c.self.invariant c.args.name place (Some w) there (updates-with_value objects place w full))
                  (λ q apart. refl) (ap (object_in (slab.with_value objects place w)) there ∙ (updates-with_value objects place w full).changed) j;
              given = given_of st;
            })
            ∙ ap (λ (s : Space g.row.T.Denot). record s { objects = map.insert s.objects c.args.name w }) c.self.view_is
            ) i,
      )),
      record {
        writes_back = tt;
        value = c.in-Some.ensures.value ∙ sym (ap (object_in objects) there) ∙ sym (get_object st objects c.args.name) ∙ ap (λ (s : Space g.row.T.Denot). map.get s.objects c.args.name) c.self.view_is;
      },
    )

pub returns-in-None : goal.returns-in-None
returns-in-None g c =
    let objects = c.self.inside.objects in
    let found = c.copied.ensures ∙ c.get.ensures in
    let there : map.get c.self.inside.standings c.args.name ≡ Some (Made c.in_ok-place.place) = sym found ∙ in_place c.copied.result c.in_ok-place.place (sym c.in_ok-place.ensures) in (
      ap inr c.self.view_is,
      record {
        writes_back = tt;
        value = c.in-None.ensures.value ∙ sym (ap (object_in objects) there) ∙ sym (get_object c.self.inside.standings objects c.args.name) ∙ ap (λ (s : Space g.row.T.Denot). map.get s.objects c.args.name) c.self.view_is;
      },
    )
