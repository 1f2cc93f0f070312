use Rattle.std.proofs.Common.{refl, [], ◌∷◌}
use Rattle.gl_plain.specs.declared.driver_calls.DriverCall.TheVariants.{Program}
use Rattle.gl_plain.specs.declared.driver_calls.ProgramDriver.TheVariants.{AttachShader}
use Rattle.gl_plain.specs.Oracle.{default_answers}
use Rattle.gl_driver.proofs.Exits.{passes_stop, passes_short}
use Rattle.decode_objects.proofs.links.attach_shader.Goals as goal

pub returns-in_err-attach_shader : goal.returns-in_err-attach_shader
returns-in_err-attach_shader g c = passes_stop c.from_residual.result c.from_residual.ensures.1 c.in_err-attach_shader.ensures.served c.in_err-attach_shader.ensures.cause (λ s. refl) (λ s. refl)

pub returns-in_err-attach : goal.returns-in_err-attach
returns-in_err-attach g c = passes_short c.from_residual-in_err-attach.result c.from_residual-in_err-attach.ensures.1 c.in_ok-attach_shader.ensures.served (λ s. refl)
    (λ s. (default_answers, [], λ i. Program (AttachShader (c.number.ensures i) (c.number-2.ensures i)) ∷ []))
