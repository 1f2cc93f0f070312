use Rattle.std.proofs.Common.{refl, []}
use Rattle.gl_plain.specs.Oracle.{default_answers}
use Rattle.gl_plain.specs.object.Calls.{bind_framebuffer_call}
use Rattle.gl_driver.proofs.Exits.{passes_stop, passes_short}
use Rattle.decode_objects.proofs.framebuffers.bind_known.Goals as goal

pub returns-in_err-bind_framebuffer : goal.returns-in_err-bind_framebuffer
returns-in_err-bind_framebuffer g c =
    passes_stop c.from_residual.result {next = bind_framebuffer_call c.args.name.number} {more = []} c.from_residual.ensures.1 c.in_err-bind_framebuffer.ensures.served c.in_err-bind_framebuffer.ensures.cause (λ s. refl) (λ s. rw c.requires.known refl)

pub returns-in_err-bind_framebuffer-2 : goal.returns-in_err-bind_framebuffer-2
returns-in_err-bind_framebuffer-2 g c =
    passes_short c.from_residual-in_err-bind_framebuffer-2.result c.from_residual-in_err-bind_framebuffer-2.ensures.1 c.in_ok-bind_framebuffer.ensures.served (λ s. refl) (λ s. (default_answers, [], rw c.requires.known refl))
