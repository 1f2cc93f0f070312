use Rattle.std.proofs.Common.{refl, sym, ap, ◌∙◌}
use Rattle.std.specs.Option.{option_copied_mut}
use Rattle.gl_plain.specs.declared.programs.Program.{Program}
use Rattle.gl_plain.specs.subjects.Programs.{without}
use Rattle.program_mgr.proofs.Uses.{changed_program}
use Rattle.program_mgr.proofs.programs.Programs.detach_from.Goals as goal

pub returns-in-Some : goal.returns-in-Some
returns-in-Some c = changed_program c.args.self.now c.args.program (λ (p : Program). record p { attached = without p.attached c.args.shader }) _ _ (sym c.get_mut.ensures.value ∙ ap option_copied_mut c.in-Some.is) c.detach.ensures refl
