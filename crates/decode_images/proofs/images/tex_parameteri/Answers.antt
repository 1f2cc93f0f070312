use Rattle.std.proofs.Common.{refl}
use Rattle.gl_driver.proofs.Exits.{passes_stop}
use Rattle.decode_images.proofs.images.tex_parameteri.Goals as goal

pub returns-in_err-tex_parameter : goal.returns-in_err-tex_parameter
returns-in_err-tex_parameter g c payload targets raster errors =
    passes_stop c.from_residual.result c.from_residual.ensures.1 c.in_err-tex_parameter.ensures.served c.in_err-tex_parameter.ensures.cause (λ s. refl) (λ s. refl)
