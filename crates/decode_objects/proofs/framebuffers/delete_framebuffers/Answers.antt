use Rattle.std.proofs.Common.{refl, ap, ℕ, []}
use Rattle.gl_plain.specs.declared.driver_calls.DriverCall.TheVariants.{Object}
use Rattle.gl_plain.specs.declared.driver_calls.ObjectDriver.TheVariants.{DeleteFramebuffer}
use Rattle.gl_plain.specs.subjects.Targets.{delete_calls}
use Rattle.gl_plain.specs.Oracle.{default_answers}
use Rattle.gl_driver.proofs.Exits.{passes_stop}
use Rattle.decode_objects.proofs.framebuffers.delete_framebuffers.Goals as goal

pub delete_framebuffer-requires : goal.delete_framebuffer-requires
delete_framebuffer-requires g c = c.requires.may default_answers [] (Object (DeleteFramebuffer c.in-Some.name.number)) [] tt (ap (delete_calls (λ (n : ℕ). Object (DeleteFramebuffer n))) c.in-Some.ensures)

pub returns-in_err-delete_framebuffer : goal.returns-in_err-delete_framebuffer
returns-in_err-delete_framebuffer g c =
    passes_stop c.from_residual.result c.from_residual.ensures.1 c.in_err-delete_framebuffer.ensures.served c.in_err-delete_framebuffer.ensures.cause (λ s. refl) (λ s. ap (delete_calls (λ (n : ℕ). Object (DeleteFramebuffer n))) c.in-Some.ensures)
