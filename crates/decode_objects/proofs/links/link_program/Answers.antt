use Rattle.std.proofs.Common.{◌∙◌, ℕ, [], ◌∷◌, refl, ap}
use Rattle.gl_plain.specs.declared.driver_calls.DriverCall.TheVariants.{Program}
use Rattle.gl_plain.specs.declared.driver_calls.ProgramDriver.TheVariants.{LinkProgram}
use Rattle.gl_plain.specs.subjects.Programs.{ProgramTables, number_of, program_at}
use Rattle.gl_plain.specs.Oracle.{default_answers}
use Rattle.gl_driver.proofs.Exits.{ends_alone, passes_stop, passes_short, passes_at_once}
use Rattle.program_mgr.specs.Tables.{tables}
use Rattle.decode_objects.specs.States.{programs_in}
use Rattle.decode_objects.proofs.Uncalled.{link_makes, link_makes_none, link_fails}
use Rattle.decode_objects.proofs.links.link_program.Goals as goal

pub returns-in_err-set_link : goal.returns-in_err-set_link
returns-in_err-set_link g c = passes_at_once g.met.D.Driver.grown_itself c.from_residual.result c.from_residual.ensures.1

pub returns-then-not-can_link : goal.returns-then-not-can_link
returns-then-not-can_link g c =
    let t : ProgramTables = tables c.args.programs.now in
    ends_alone g.met.D.Driver.grown_itself (λ s. refl) (λ s o. link_makes_none t (number_of t c.args.program) (program_at t c.args.program) c.if-not-can_link.ensures)
    (λ s o. link_fails (programs_in c.args.programs.now s) c.args.program c.requires.taken (tables c.set_link.new.programs) o c.failed_link.result c.failed_link.ensures c.if-not-can_link.ensures c.in_ok-set_link.ensures.ok)

pub link_program-requires : goal.link_program-requires
link_program-requires g c =
    let t : ProgramTables = tables c.args.programs.now in
    c.requires.may default_answers [] (Program (LinkProgram c.number.result)) [] tt
    (ap (λ (n : ℕ). Program (LinkProgram n) ∷ []) c.number.ensures ∙ link_makes t (number_of t c.args.program) (program_at t c.args.program) c.if-not-can_link.ensures)

pub returns-in_err-answer : goal.returns-in_err-answer
returns-in_err-answer g c =
    let t : ProgramTables = tables c.args.programs.now in
    passes_stop c.from_residual-in_err-answer.result c.from_residual-in_err-answer.ensures.1 c.in_err-answer.ensures.served c.in_err-answer.ensures.cause (λ s. refl)
    (λ s. link_makes t (number_of t c.args.program) (program_at t c.args.program) c.if-not-can_link.ensures)

pub returns-in_err-set_link-2 : goal.returns-in_err-set_link-2
returns-in_err-set_link-2 g c =
    let t : ProgramTables = tables c.args.programs.now in
    passes_short c.from_residual-in_err-set_link-2.result c.from_residual-in_err-set_link-2.ensures.1 c.in_ok-answer.ensures.served (λ s. refl)
    (λ s. (default_answers, [], ap (λ (n : ℕ). Program (LinkProgram n) ∷ []) c.number.ensures ∙ link_makes t (number_of t c.args.program) (program_at t c.args.program) c.if-not-can_link.ensures))
