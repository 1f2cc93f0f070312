-- That a write through the borrow is an insert at the key, and that what is lent is what the finite map has.
use Rattle.std.proofs.Common.{◌∙◌, ap, refl, inl, inr}
use Rattle.std.specs.FinMap as map
use Rattle.gl_base.proofs.Maps.{lookup_is_get, from_entries-insert}
use Rattle.gl_base.proofs.number_map.NumberMap.get_mut.Goals as goal

pub returns-in-Some : goal.returns-in-Some
returns-in-Some g c = (
  (λ i. inl (
    c.in-Some.value.ghost_name,
    λ w. from_entries-insert _ _ _ _ w c.self.view_is ((c.get_mut.follows.holds w).3 (rw (← c.in-Some.ensures.value) refl)).0 i,
  )),
  record { writes_back = tt; value = lookup_is_get _ _ _ _ c.self.view_is c.in-Some.ensures.value },
)

pub returns-in-None : goal.returns-in-None
returns-in-None g c = (
  ap inr (ap (λ m. map.from_entries m.entries) c.get_mut.follows.holds-at-none ∙ c.self.view_is),
  record { writes_back = tt; value = lookup_is_get _ _ _ _ c.self.view_is c.in-None.ensures.value },
)
