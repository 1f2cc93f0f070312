use Rattle.std.proofs.Common.{refl, ap, []}
use Rattle.gl_plain.specs.declared.driver_calls.DriverCall.TheVariants.{Object}
use Rattle.gl_plain.specs.declared.driver_calls.ObjectDriver.TheVariants.{DeleteBuffer}
use Rattle.gl_plain.specs.subjects.Buffers.{delete_buffers_calls}
use Rattle.gl_plain.specs.Oracle.{default_answers}
use Rattle.gl_driver.proofs.Exits.{passes_stop}
use Rattle.decode_objects.proofs.buffers.delete_buffers.Goals as goal

pub delete_buffer-requires : goal.delete_buffer-requires
delete_buffer-requires g c = c.requires.may default_answers [] (Object (DeleteBuffer c.in-Some.name.number)) [] tt (ap delete_buffers_calls c.in-Some.ensures)

pub returns-in_err-delete_buffer : goal.returns-in_err-delete_buffer
returns-in_err-delete_buffer g c =
    passes_stop c.from_residual.result c.from_residual.ensures.1 c.in_err-delete_buffer.ensures.served c.in_err-delete_buffer.ensures.cause (λ s. refl) (λ s. ap delete_buffers_calls c.in-Some.ensures)
