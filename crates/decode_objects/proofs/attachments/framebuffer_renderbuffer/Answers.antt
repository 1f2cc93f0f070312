use Rattle.std.proofs.Common.{refl}
use Rattle.gl_driver.proofs.Exits.{passes_stop}
use Rattle.decode_objects.proofs.attachments.framebuffer_renderbuffer.Goals as goal

pub returns-in_err-framebuffer_renderbuffer : goal.returns-in_err-framebuffer_renderbuffer
returns-in_err-framebuffer_renderbuffer g c target rbtarget =
    passes_stop c.from_residual.result c.from_residual.ensures.1 c.in_err-framebuffer_renderbuffer.ensures.served c.in_err-framebuffer_renderbuffer.ensures.cause (λ s. refl) (λ s. refl)
