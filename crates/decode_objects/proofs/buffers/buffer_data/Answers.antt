use Rattle.std.proofs.Common.{◌∙◌, refl, ap, List, ℕ, [], ◌∷◌}
use Rattle.gl_plain.specs.declared.driver_calls.DriverCall.TheVariants.{Object}
use Rattle.gl_plain.specs.declared.driver_calls.ObjectDriver.TheVariants.{BufferData}
use Rattle.gl_plain.specs.Oracle.{default_answers}
use Rattle.gl_driver.proofs.Exits.{passes_stop, passes_short}
use Rattle.decode_objects.proofs.buffers.buffer_data.Goals as goal

pub returns-in_err-buffer_data : goal.returns-in_err-buffer_data
returns-in_err-buffer_data g c size words payload is =
    passes_stop c.from_residual.result c.from_residual.ensures.1 c.in_err-buffer_data.ensures.served c.in_err-buffer_data.ensures.cause (λ s. refl) (λ s. refl)

pub returns-in_err-store-in-Done : goal.returns-in_err-store-in-Done
returns-in_err-store-in-Done g c size words payload is = passes_short c.from_residual-in_err-store-in-Done.result c.from_residual-in_err-store-in-Done.ensures.1 c.in_ok-buffer_data.ensures.served (λ s. refl)
    (λ s. (default_answers, [], ap (λ (bytes : List ℕ). Object (BufferData c.args.target bytes c.args.usage) ∷ []) (c.as_slice.ensures ∙ is)))
