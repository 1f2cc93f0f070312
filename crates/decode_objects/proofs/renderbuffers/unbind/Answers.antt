use Rattle.std.proofs.Common.{refl, []}
use Rattle.gl_plain.specs.object.Calls.{bind_renderbuffer_call}
use Rattle.gl_driver.proofs.Exits.{passes_stop}
use Rattle.decode_objects.proofs.renderbuffers.unbind.Goals as goal

pub returns-in_err-bind_renderbuffer : goal.returns-in_err-bind_renderbuffer
returns-in_err-bind_renderbuffer g c =
    passes_stop c.from_residual.result {next = bind_renderbuffer_call 0} {more = []} c.from_residual.ensures.1 c.in_err-bind_renderbuffer.ensures.served c.in_err-bind_renderbuffer.ensures.cause (λ s. refl) (λ s. rw c.requires.unknown refl)
