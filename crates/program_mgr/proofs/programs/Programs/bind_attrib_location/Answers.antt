use Rattle.std.proofs.Common.{refl, sym, ap, ◌∙◌, ◌++◌, ◌∷◌, []}
use Rattle.std.specs.Option.{option_copied_mut}
use Rattle.gl_plain.specs.declared.programs.Program.{Program}
use Rattle.program_mgr.proofs.Uses.{changed_program}
use Rattle.program_mgr.proofs.programs.Programs.bind_attrib_location.Goals as goal

pub returns-in-Some : goal.returns-in-Some
returns-in-Some c =
    changed_program c.args.self.now c.args.number (λ (p : Program). record p { bound = p.bound ++ record { name = c.args.name.now; index = c.args.index } ∷ [] }) _ _ (sym c.get_mut.ensures.value ∙ ap option_copied_mut c.in-Some.is) c.ask.ensures refl
