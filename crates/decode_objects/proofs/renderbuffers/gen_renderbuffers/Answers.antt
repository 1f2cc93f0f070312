use Rattle.std.proofs.Common.{refl, []}
use Rattle.gl_plain.specs.Oracle.{default_answers}
use Rattle.gl_driver.proofs.Exits.{passes_stop, passes_short}
use Rattle.decode_objects.proofs.renderbuffers.gen_renderbuffers.Goals as goal

pub returns-in_err-number : goal.returns-in_err-number
returns-in_err-number g c = passes_stop c.from_residual.result c.from_residual.ensures.1 c.in_err-number.ensures.served c.in_err-number.ensures.cause (λ s. refl) (λ s. refl)

pub returns-in_err-add_name : goal.returns-in_err-add_name
returns-in_err-add_name g c = passes_short c.from_residual-in_err-add_name.result c.from_residual-in_err-add_name.ensures.1 c.in_ok-number.ensures.served (λ s. refl) (λ s. (default_answers, [], refl))
