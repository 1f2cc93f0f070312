use Rattle.std.proofs.Common.{◌∙◌, ap, sym, None, Some}
use Rattle.std.specs.FinMap as map
use Rattle.gl_plain.specs.subjects.Programs.{object_name}
use Rattle.program_mgr.specs.declared.programs.Programs.{Programs}
use Rattle.program_mgr.specs.Tables.{tables, kept_after}
use Rattle.program_mgr.proofs.Uses.{made_program, nothing_kept, removed_again}
use Rattle.program_mgr.proofs.programs.Programs.create_program.Goals as goal

pub returns-in-Some-clause-ok : goal.returns-in-Some-clause-ok
returns-in-Some-clause-ok c =
    let s : Programs = c.args.self.now in
    ap tables (c.keep.ensures ∙ (λ i. record s {
      names = c.in_ok-add.ensures.ok i;
      ids = c.in-Ok.ensures.named i;
      programs = (c.in-Ok.ensures.added ∙ ap (map.insert s.programs c.args.number) c.new-program.ensures) i;
      kept = kept_after s.current c.args.number (c.into_executable.ensures i) s.kept;
    }))
    ∙ made_program s c.args.id c.args.number (Some c.in-Some.before) (sym c.in-Ok.ensures.before ∙ c.in-Some.is)

pub returns-in_default-clause-ok : goal.returns-in_default-clause-ok
returns-in_default-clause-ok c =
    let s : Programs = c.args.self.now in
    (λ i. tables (record s {
      names = c.in_ok-add.ensures.ok i;
      ids = c.in-Ok.ensures.named i;
      programs = (c.in-Ok.ensures.added ∙ ap (map.insert s.programs c.args.number) c.new-program.ensures) i;
      kept = sym (nothing_kept s.programs c.args.number s.current s.kept) i;
    }))
    ∙ made_program s c.args.id c.args.number None (sym c.in-Ok.ensures.before ∙ c.in_default.is)

pub returns-in-Err-clause-err : goal.returns-in-Err-clause-err
returns-in-Err-clause-err c =
    let s : Programs = c.args.self.now in
    (λ i. tables (record s {
      names = (c.remove.ensures.rest ∙ ap (λ m. map.remove m c.args.id) c.in_ok-add.ensures.ok ∙ removed_again s.names c.args.id (object_name c.args.number) c.in_ok-add.ensures.cause.0) i;
      ids = c.in-Err.ensures.unnamed i;
      programs = c.in-Err.ensures.unchanged i;
    }))
