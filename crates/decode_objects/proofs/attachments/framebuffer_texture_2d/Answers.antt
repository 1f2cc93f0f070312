use Rattle.std.proofs.Common.{refl}
use Rattle.gl_driver.proofs.Exits.{passes_stop}
use Rattle.decode_objects.proofs.attachments.framebuffer_texture_2d.Goals as goal

pub returns-in_err-framebuffer_texture : goal.returns-in_err-framebuffer_texture
returns-in_err-framebuffer_texture g c target level =
    passes_stop c.from_residual.result c.from_residual.ensures.1 c.in_err-framebuffer_texture.ensures.served c.in_err-framebuffer_texture.ensures.cause (λ s. refl) (λ s. refl)
