-- That a new driver keeps what it promises.
use Rattle.std.proofs.Common.{refl}
use Rattle.gl_base.specs.declared.limits.TheConstants.{DEFAULT_SURFACE}
use Rattle.gl_plain.specs.Oracle.{no_answers}
use Rattle.strict_driver.proofs.Entering.{strict_opening, counted_opening, none_sorted, step_opening}
use Rattle.strict_driver.proofs.strict.StrictDriver.new.Goals as goal

pub invariant_of-result : goal.invariant_of-result
invariant_of-result c = rw (c.new-2.ensures, c.new-3.ensures, c.new-4.ensures) (record {
  journal = strict_opening c.new.result.surface no_answers;
  counted = counted_opening no_answers none_sorted refl;
  in_step = λ going. step_opening c.new.result DEFAULT_SURFACE c.new.ensures.state c.new.ensures.surface;
})
