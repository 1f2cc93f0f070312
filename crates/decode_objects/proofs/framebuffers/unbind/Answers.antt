use Rattle.std.proofs.Common.{refl, []}
use Rattle.gl_plain.specs.object.Calls.{bind_framebuffer_call}
use Rattle.gl_driver.proofs.Exits.{passes_stop}
use Rattle.decode_objects.proofs.framebuffers.unbind.Goals as goal

pub returns-in_err-bind_framebuffer : goal.returns-in_err-bind_framebuffer
returns-in_err-bind_framebuffer g c =
    passes_stop c.from_residual.result {next = bind_framebuffer_call 0} {more = []} c.from_residual.ensures.1 c.in_err-bind_framebuffer.ensures.served c.in_err-bind_framebuffer.ensures.cause (λ s. refl) (λ s. rw c.requires.unknown refl)
