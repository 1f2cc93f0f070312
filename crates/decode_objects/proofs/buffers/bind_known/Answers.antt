use Rattle.std.proofs.Common.{refl, []}
use Rattle.gl_plain.specs.Oracle.{default_answers}
use Rattle.gl_plain.specs.object.Calls.{bind_buffer_call}
use Rattle.gl_driver.proofs.Exits.{passes_stop, passes_short}
use Rattle.decode_objects.proofs.buffers.bind_known.Goals as goal

pub returns-in_err-bind_buffer : goal.returns-in_err-bind_buffer
returns-in_err-bind_buffer g c =
    passes_stop c.from_residual.result {next = bind_buffer_call c.args.target c.args.name.number} {more = []} c.from_residual.ensures.1 c.in_err-bind_buffer.ensures.served c.in_err-bind_buffer.ensures.cause (λ s. refl) (λ s. rw c.requires.known refl)

pub returns-in_err-bind : goal.returns-in_err-bind
returns-in_err-bind g c =
    passes_short c.from_residual-in_err-bind.result c.from_residual-in_err-bind.ensures.1 c.in_ok-bind_buffer.ensures.served (λ s. refl) (λ s. (default_answers, [], rw c.requires.known refl))
