use Rattle.std.proofs.Common.{◌≡◌, ◌+◌, ◌*◌, ◌-◌, ◌++◌}
use Rattle.program_mgr.specs.Places.{element_places}
use Rattle.program_mgr.proofs.places.add_elements.Given as goal

abbrev pub invariant-loop-element : goal.invariant-loop-element
invariant-loop-element l = record {
  rest : l.places.items ++ element_places l.uniform l.step l.element l.next (l.size - l.element) ≡ l.fn.places.items ++ element_places l.uniform l.step 0 l.word l.size;
  next : l.next ≡ l.word + l.element * l.step;
}
