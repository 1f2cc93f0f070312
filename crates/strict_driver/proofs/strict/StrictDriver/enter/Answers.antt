-- That one more call leaves the driver as its journal says.
use Rattle.std.proofs.Common.{refl}
use Rattle.strict_driver.proofs.Entering.{tables_allow, tables_answer, tables_follow, strict_entered, counted_entered, step_entered, served_entered}
use Rattle.strict_driver.proofs.strict.StrictDriver.enter.Goals as goal

pub apply-requires-clause-allowed : goal.apply-requires-clause-allowed
apply-requires-clause-allowed c = rw c.as_slice.ensures (tables_allow c.self.inside c.args.self.now c.self.view_is c.self.invariant c.args.call c.args.answer c.requires.going c.requires.allowed c.requires.next)

pub apply-requires-clause-answered : goal.apply-requires-clause-answered
apply-requires-clause-answered c = rw c.as_slice.ensures (tables_answer c.self.inside c.args.self.now c.self.view_is c.self.invariant c.args.call c.args.answer c.requires.going c.requires.allowed c.requires.next)

pub apply-requires-clause-follow : goal.apply-requires-clause-follow
apply-requires-clause-follow c = rw c.as_slice.ensures (tables_follow c.self.inside c.args.self.now c.self.view_is c.self.invariant c.args.call c.args.answer c.requires.going c.requires.allowed c.requires.next)

pub invariant_of-self-2 : goal.invariant_of-self-2
invariant_of-self-2 c =
    let counted = c.in-Some.ensures.some c.self.inside.loaded in
    record {
      journal = strict_entered c.self.inside c.args.self.now c.self.view_is c.self.invariant c.args.call c.args.answer c.requires.going c.requires.allowed c.requires.next c.push.new.self c.in-Ok-push.ensures.ok c.apply.new.self.surface c.in-Ok.ensures.surface c.requires.within;
      counted = counted_entered c.self.inside c.args.self.now c.self.view_is c.self.invariant c.args.call c.args.answer c.requires.going c.requires.allowed c.requires.next c.push.new.self c.in-Ok-push.ensures.ok c.in-Some.counts counted;
      in_step = λ still.
          step_entered c.self.inside c.args.self.now c.self.view_is c.self.invariant c.args.call c.args.answer c.requires.going c.requires.allowed c.requires.next c.push.new.self c.in-Ok-push.ensures.ok c.in-Some.counts counted c.apply.new.self (rw c.as_slice.ensures at c.in-Ok.ensures.ok) c.in-Ok.ensures.surface;
    }

pub returns-clause-served : goal.returns-clause-served
returns-clause-served c =
    served_entered c.self.inside c.args.self.now c.self.view_is c.self.invariant c.args.call c.args.answer c.requires.going c.requires.allowed c.requires.next c.push.new.self c.in-Ok-push.ensures.ok _ refl refl c.in-Ok.ensures.surface refl refl
    c.ooms_after-ooms.ensures.rises c.ooms_after-ooms.ensures.still
