use Rattle.std.proofs.Common.{refl}
use Rattle.gl_driver.proofs.Exits.{passes_stop, passes_at_once}
use Rattle.decode_objects.proofs.programs.shader_source.Goals as goal

pub returns-in_err-source : goal.returns-in_err-source
returns-in_err-source g c words = passes_at_once g.met.D.Driver.grown_itself c.from_residual.result c.from_residual.ensures.1

pub returns-in_err-shader_source : goal.returns-in_err-shader_source
returns-in_err-shader_source g c words =
    passes_stop c.from_residual-in_err-shader_source.result c.from_residual-in_err-shader_source.ensures.1 c.in_err-shader_source.ensures.served c.in_err-shader_source.ensures.cause (λ s. refl) (λ s. refl)
