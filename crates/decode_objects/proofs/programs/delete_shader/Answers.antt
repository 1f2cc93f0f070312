use Rattle.std.proofs.Common.{◌∙◌, ℕ, [], ◌∷◌, refl, ap}
use Rattle.gl_plain.specs.declared.driver_calls.DriverCall.TheVariants.{Program}
use Rattle.gl_plain.specs.declared.driver_calls.ProgramDriver.TheVariants.{DeleteShader}
use Rattle.gl_plain.specs.Oracle.{default_answers}
use Rattle.gl_driver.proofs.Exits.{ends_alone, passes_stop}
use Rattle.program_mgr.specs.Tables.{tables}
use Rattle.decode_objects.proofs.Uncalled.{deletion_makes}
use Rattle.decode_objects.proofs.programs.delete_shader.Goals as goal

pub delete_shader-requires : goal.delete_shader-requires
delete_shader-requires g c = c.requires.may default_answers [] (Program (DeleteShader c.number-number.result)) [] tt
    (ap (λ (n : ℕ). Program (DeleteShader n) ∷ []) c.number-number.ensures ∙ deletion_makes (λ n. Program (DeleteShader n)) (tables c.args.programs.now) c.args.shader c.if-shader-eq0.false)

pub returns-in_err-delete_shader : goal.returns-in_err-delete_shader
returns-in_err-delete_shader g c =
    passes_stop c.from_residual.result c.from_residual.ensures.1 c.in_err-delete_shader.ensures.served c.in_err-delete_shader.ensures.cause (λ s. refl)
    (λ s. deletion_makes (λ n. Program (DeleteShader n)) (tables c.args.programs.now) c.args.shader c.if-shader-eq0.false)

pub returns-then-shader-eq0 : goal.returns-then-shader-eq0
returns-then-shader-eq0 g c = rw c.if-shader-eq0.true (ends_alone g.met.D.Driver.grown_itself (λ s. refl) (λ s o. refl) (λ s o. refl))
