use Rattle.std.proofs.Common.{◌∙◌, ℕ, [], ◌∷◌, refl, ap}
use Rattle.gl_plain.specs.declared.driver_calls.DriverCall.TheVariants.{Program}
use Rattle.gl_plain.specs.declared.driver_calls.ProgramDriver.TheVariants.{ValidateProgram}
use Rattle.gl_plain.specs.subjects.Programs.{ProgramTables, number_of, program_at, validate_unlinked_effect}
use Rattle.gl_plain.specs.Oracle.{default_answers}
use Rattle.gl_driver.proofs.Exits.{ends_alone, passes_stop}
use Rattle.program_mgr.specs.Tables.{tables}
use Rattle.decode_objects.specs.States.{programs_in}
use Rattle.decode_objects.proofs.Uncalled.{validation_makes, validation_makes_none, validation_fails}
use Rattle.decode_objects.proofs.links.validate_program.Goals as goal

pub returns-then-not-is_linked : goal.returns-then-not-is_linked
returns-then-not-is_linked g c =
    let t : ProgramTables = tables c.args.programs.now in
    ends_alone g.met.D.Driver.grown_itself (λ s. refl) (λ s o. validation_makes_none t (number_of t c.args.program) (program_at t c.args.program) c.if-not-is_linked.ensures)
    (λ s o. validation_fails (programs_in c.args.programs.now s) c.args.program c.requires.taken (tables c.set_invalid.new.self) o c.if-not-is_linked.ensures (c.set_invalid.ensures ∙ ap (validate_unlinked_effect t) c.number-number.ensures))

pub validate_program-requires : goal.validate_program-requires
validate_program-requires g c =
    let t : ProgramTables = tables c.args.programs.now in
    c.requires.may default_answers [] (Program (ValidateProgram c.number-number.result)) [] tt
    (ap (λ (n : ℕ). Program (ValidateProgram n) ∷ []) c.number-number.ensures ∙ validation_makes t (number_of t c.args.program) (program_at t c.args.program) c.if-not-is_linked.ensures)

pub returns-in_err-ok : goal.returns-in_err-ok
returns-in_err-ok g c =
    let t : ProgramTables = tables c.args.programs.now in
    passes_stop c.from_residual.result c.from_residual.ensures.1 c.in_err-ok.ensures.served c.in_err-ok.ensures.cause (λ s. refl)
    (λ s. validation_makes t (number_of t c.args.program) (program_at t c.args.program) c.if-not-is_linked.ensures)
