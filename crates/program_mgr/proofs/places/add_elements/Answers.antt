use Rattle.std.proofs.Common.{arith}
use Rattle.program_mgr.proofs.Locations.{elements_more, next_is, next_fits}
use Rattle.program_mgr.proofs.places.add_elements.Goals as goal

pub overflow_add-next : goal.overflow_add-next
overflow_add-next c = omega (arith, next_fits c.args.word c.args.step c.loop-element.element c.args.size c.loop-element.next 16384 c.loop-element-test.true c.loop-element.invariant.next c.requires)

pub loop-element-preserved : goal.loop-element-preserved
loop-element-preserved c = record {
  rest = elements_more c.loop-element.places.items _ _ c.args.uniform c.args.step c.loop-element.element c.loop-element.next c.args.size c.loop-element-test.true c.in_ok-push.ensures.items c.loop-element.invariant.rest;
  next = next_is c.args.word c.args.step c.loop-element.element c.loop-element.next c.loop-element.invariant.next;
}
