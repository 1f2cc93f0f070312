-- That a new service and a new driver agree.
use Rattle.std.proofs.Common.{sym, subst}
use Rattle.gl_base.specs.declared.limits.TheConstants.{DEFAULT_SURFACE}
use Rattle.gl_plain.specs.Agreement.{Agrees}
use Rattle.gl_plain.specs.State.{WireState, opening_driver}
use Rattle.gl_plain.proofs.Opening.{opening_agrees}
use Rattle.embedding.proofs.execute.Goals as goal

pub work-end-requires : goal.work-end-requires
work-end-requires c = record {
  agrees = λ going. rw c.new-driver.ensures (subst (λ (w : WireState). Agrees w (opening_driver DEFAULT_SURFACE)) (sym c.in_ok-service.ensures.opening) (opening_agrees DEFAULT_SURFACE));
}
