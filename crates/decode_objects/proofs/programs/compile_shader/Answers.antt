use Rattle.std.proofs.Common.{refl}
use Rattle.gl_driver.proofs.Exits.{passes_stop}
use Rattle.decode_objects.proofs.programs.compile_shader.Goals as goal

pub returns-in_err-ok : goal.returns-in_err-ok
returns-in_err-ok g c = passes_stop c.from_residual.result c.from_residual.ensures.1 c.in_err-ok.ensures.served c.in_err-ok.ensures.cause (λ s. refl) (λ s. refl)
