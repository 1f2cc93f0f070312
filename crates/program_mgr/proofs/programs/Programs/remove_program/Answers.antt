use Rattle.std.proofs.Common.{◌≡◌, ◌∙◌, ap, sym}
use Rattle.std.specs.FinMap as map
use Rattle.gl_plain.specs.subjects.Programs.{ProgramTables, all_released, unnamed, without_program_by}
use Rattle.program_mgr.specs.declared.programs.Programs.{Programs}
use Rattle.program_mgr.specs.Tables.{tables, in_use}
use Rattle.program_mgr.proofs.Uses.{use_without}
use Rattle.program_mgr.proofs.programs.Programs.remove_program.Goals as goal

pub returns : goal.returns
returns c =
    let s : Programs = c.args.self.now in
    let removed : tables (record s { programs = c.remove.new.self }) ≡ record (tables s) { programs = map.remove s.programs c.args.number } = (λ i. record (tables s) {
      programs = c.remove.ensures.rest i;
      installed = (ap (λ m. in_use s.is_used m s.current s.kept) c.remove.ensures.rest ∙ use_without s.programs c.args.number s.current s.is_used s.kept (λ e. c.requires (sym e))) i;
    }) in
    c.release_all.ensures
    ∙ (λ i. all_released ((c.unname.ensures ∙ ap (λ (t : ProgramTables). unnamed t c.args.number) removed) i) ((c.as_slice.ensures.value ∙ c.into_attached-attached.ensures) i))
    ∙ sym (ap (without_program_by (tables s) c.args.number) (sym c.remove.ensures.value ∙ c.in-Some.is))
