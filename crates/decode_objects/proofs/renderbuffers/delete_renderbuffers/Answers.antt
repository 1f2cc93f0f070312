use Rattle.std.proofs.Common.{refl, ap, ℕ, []}
use Rattle.gl_plain.specs.declared.driver_calls.DriverCall.TheVariants.{Object}
use Rattle.gl_plain.specs.declared.driver_calls.ObjectDriver.TheVariants.{DeleteRenderbuffer}
use Rattle.gl_plain.specs.subjects.Targets.{delete_calls}
use Rattle.gl_plain.specs.Oracle.{default_answers}
use Rattle.gl_driver.proofs.Exits.{passes_stop}
use Rattle.decode_objects.proofs.renderbuffers.delete_renderbuffers.Goals as goal

pub delete_renderbuffer-requires : goal.delete_renderbuffer-requires
delete_renderbuffer-requires g c = c.requires.may default_answers [] (Object (DeleteRenderbuffer c.in-Some.name.number)) [] tt (ap (delete_calls (λ (n : ℕ). Object (DeleteRenderbuffer n))) c.in-Some.ensures)

pub returns-in_err-delete_renderbuffer : goal.returns-in_err-delete_renderbuffer
returns-in_err-delete_renderbuffer g c =
    passes_stop c.from_residual.result c.from_residual.ensures.1 c.in_err-delete_renderbuffer.ensures.served c.in_err-delete_renderbuffer.ensures.cause (λ s. refl) (λ s. ap (delete_calls (λ (n : ℕ). Object (DeleteRenderbuffer n))) c.in-Some.ensures)
