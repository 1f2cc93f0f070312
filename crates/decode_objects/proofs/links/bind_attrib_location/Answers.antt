use Rattle.std.proofs.Common.{refl}
use Rattle.gl_driver.proofs.Exits.{passes_stop}
use Rattle.decode_objects.proofs.links.bind_attrib_location.Goals as goal

pub returns-in_err-bind_attrib_location : goal.returns-in_err-bind_attrib_location
returns-in_err-bind_attrib_location g c words =
    passes_stop c.from_residual.result c.from_residual.ensures.1 c.in_err-bind_attrib_location.ensures.served c.in_err-bind_attrib_location.ensures.cause (λ s. refl) (λ s. refl)
