use Rattle.std.proofs.Common.{refl}
use Rattle.gl_driver.proofs.Exits.{passes_stop}
use Rattle.decode_draw.proofs.units.active_texture.Goals as goal

pub returns-in_err-active_texture : goal.returns-in_err-active_texture
returns-in_err-active_texture g c =
    passes_stop c.from_residual.result c.from_residual.ensures.1 c.in_err-active_texture.ensures.served c.in_err-active_texture.ensures.cause (λ s. refl) (λ s. refl)
