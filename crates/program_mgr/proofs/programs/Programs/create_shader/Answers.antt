use Rattle.std.proofs.Common.{◌∙◌, ap}
use Rattle.std.specs.FinMap as map
use Rattle.gl_plain.specs.subjects.Programs.{object_name}
use Rattle.program_mgr.specs.declared.programs.Programs.{Programs}
use Rattle.program_mgr.specs.Tables.{tables}
use Rattle.program_mgr.proofs.Uses.{removed_again}
use Rattle.program_mgr.proofs.programs.Programs.create_shader.Goals as goal

pub returns-clause-err : goal.returns-clause-err
returns-clause-err c =
    let s : Programs = c.args.self.now in
    (λ i. tables (record s {
      names = (c.remove.ensures.rest ∙ ap (λ m. map.remove m c.args.id) c.in_ok-add.ensures.ok ∙ removed_again s.names c.args.id (object_name c.args.number) c.in_ok-add.ensures.cause.0) i;
      ids = c.in-Err.ensures.unnamed i;
      shaders = c.in-Err.ensures.unchanged i;
    }))
