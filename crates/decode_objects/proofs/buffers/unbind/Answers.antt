use Rattle.std.proofs.Common.{refl, []}
use Rattle.gl_plain.specs.object.Calls.{bind_buffer_call}
use Rattle.gl_driver.proofs.Exits.{passes_stop}
use Rattle.decode_objects.proofs.buffers.unbind.Goals as goal

pub returns-in_err-bind_buffer : goal.returns-in_err-bind_buffer
returns-in_err-bind_buffer g c =
    passes_stop c.from_residual.result {next = bind_buffer_call c.args.target 0} {more = []} c.from_residual.ensures.1 c.in_err-bind_buffer.ensures.served c.in_err-bind_buffer.ensures.cause (λ s. refl) (λ s. rw c.requires.unknown refl)
