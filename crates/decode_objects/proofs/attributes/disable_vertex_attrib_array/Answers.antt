use Rattle.std.proofs.Common.{refl}
use Rattle.gl_driver.proofs.Exits.{passes_stop}
use Rattle.decode_objects.proofs.attributes.disable_vertex_attrib_array.Goals as goal

pub returns-in_err-set_array : goal.returns-in_err-set_array
returns-in_err-set_array g c = passes_stop c.from_residual.result c.from_residual.ensures.1 c.in_err-set_array.ensures.served c.in_err-set_array.ensures.cause (λ s. refl) (λ s. refl)
