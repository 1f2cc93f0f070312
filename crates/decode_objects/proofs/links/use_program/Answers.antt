use Rattle.std.proofs.Common.{refl}
use Rattle.gl_driver.proofs.Exits.{passes_stop}
use Rattle.decode_objects.proofs.links.use_program.Goals as goal

pub returns-in_err-use_program : goal.returns-in_err-use_program
returns-in_err-use_program g c = passes_stop c.from_residual.result c.from_residual.ensures.1 c.in_err-use_program.ensures.served c.in_err-use_program.ensures.cause (λ s. refl) (λ s. refl)
