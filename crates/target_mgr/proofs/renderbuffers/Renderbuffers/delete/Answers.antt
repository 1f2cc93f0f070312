use Rattle.std.proofs.Common.{ap, ◌∙◌}
use Rattle.gl_plain.specs.subjects.Targets.{BoundObjects}
use Rattle.target_mgr.specs.declared.renderbuffers.Renderbuffer.{Renderbuffer}
use Rattle.target_mgr.specs.Objects.{table_of}
use Rattle.target_mgr.specs.Marked.{unmarked, marks_of}
use Rattle.target_mgr.proofs.MarksBeside.{unmarked-delete, marks-delete}
use Rattle.target_mgr.proofs.renderbuffers.Renderbuffers.delete.Goals as goal

pub returns-clause-tables : goal.returns-clause-tables
returns-clause-tables c = ap unmarked c.delete.ensures.rest ∙ unmarked-delete (table_of c.args.self.now.objects) c.args.id

pub returns-clause-marks : goal.returns-clause-marks
returns-clause-marks c = ap (λ (t : BoundObjects Renderbuffer). marks_of t.objects) c.delete.ensures.rest ∙ marks-delete (table_of c.args.self.now.objects) c.args.id
