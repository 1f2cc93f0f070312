use Rattle.std.proofs.Common.{refl}
use Rattle.gl_driver.proofs.Exits.{passes_stop}
use Rattle.decode_objects.proofs.buffers.buffer_sub_data.Goals as goal

pub returns-in_err-buffer_sub_data : goal.returns-in_err-buffer_sub_data
returns-in_err-buffer_sub_data g c size words =
    passes_stop c.from_residual.result c.from_residual.ensures.1 c.in_err-buffer_sub_data.ensures.served c.in_err-buffer_sub_data.ensures.cause (λ s. refl) (λ s. refl)
