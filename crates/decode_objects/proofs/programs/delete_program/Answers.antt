use Rattle.std.proofs.Common.{◌∙◌, ℕ, [], ◌∷◌, refl, ap}
use Rattle.gl_plain.specs.declared.driver_calls.DriverCall.TheVariants.{Program}
use Rattle.gl_plain.specs.declared.driver_calls.ProgramDriver.TheVariants.{DeleteProgram}
use Rattle.gl_plain.specs.Oracle.{default_answers}
use Rattle.gl_driver.proofs.Exits.{ends_alone, passes_stop}
use Rattle.program_mgr.specs.Tables.{tables}
use Rattle.decode_objects.proofs.Uncalled.{deletion_makes}
use Rattle.decode_objects.proofs.programs.delete_program.Goals as goal

pub delete_program-requires : goal.delete_program-requires
delete_program-requires g c = c.requires.may default_answers [] (Program (DeleteProgram c.number-number.result)) [] tt
    (ap (λ (n : ℕ). Program (DeleteProgram n) ∷ []) c.number-number.ensures ∙ deletion_makes (λ n. Program (DeleteProgram n)) (tables c.args.programs.now) c.args.program c.if-program-eq0.false)

pub returns-in_err-delete_program : goal.returns-in_err-delete_program
returns-in_err-delete_program g c =
    passes_stop c.from_residual.result c.from_residual.ensures.1 c.in_err-delete_program.ensures.served c.in_err-delete_program.ensures.cause (λ s. refl)
    (λ s. deletion_makes (λ n. Program (DeleteProgram n)) (tables c.args.programs.now) c.args.program c.if-program-eq0.false)

pub returns-then-program-eq0 : goal.returns-then-program-eq0
returns-then-program-eq0 g c = rw c.if-program-eq0.true (ends_alone g.met.D.Driver.grown_itself (λ s. refl) (λ s o. refl) (λ s o. refl))
