use Rattle.std.proofs.Common.{refl}
use Rattle.gl_driver.proofs.Exits.{passes_stop}
use Rattle.decode_objects.proofs.attributes.vertex_attrib_pointer.Goals as goal

pub returns-in_err-vertex_attrib_pointer : goal.returns-in_err-vertex_attrib_pointer
returns-in_err-vertex_attrib_pointer g c = passes_stop c.from_residual.result c.from_residual.ensures.1 c.in_err-vertex_attrib_pointer.ensures.served c.in_err-vertex_attrib_pointer.ensures.cause (λ s. refl) (λ s. refl)
