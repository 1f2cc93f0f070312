use Rattle.std.proofs.Common.{refl}
use Rattle.gl_driver.proofs.Exits.{passes_stop}
use Rattle.decode_images.proofs.storage.renderbuffer_storage.Goals as goal

pub returns-in_err-renderbuffer_storage : goal.returns-in_err-renderbuffer_storage
returns-in_err-renderbuffer_storage g c target payload textures raster =
    passes_stop c.from_residual.result c.from_residual.ensures.1 c.in_err-renderbuffer_storage.ensures.served c.in_err-renderbuffer_storage.ensures.cause (λ s. refl) (λ s. refl)
