use Rattle.std.proofs.Common.{refl, sym, ap, ◌∙◌, false}
use Rattle.std.specs.Option.{option_copied_mut}
use Rattle.gl_plain.specs.declared.programs.Program.{Program}
use Rattle.program_mgr.proofs.Uses.{changed_program}
use Rattle.program_mgr.proofs.programs.Programs.set_invalid.Goals as goal

pub returns-in-Some : goal.returns-in-Some
returns-in-Some c =
    changed_program c.args.self.now c.args.number (λ (p : Program). record p { is_valid = false }) _ _ (sym c.get_mut.ensures.value ∙ ap option_copied_mut c.in-Some.is) c.set_invalid.ensures refl
