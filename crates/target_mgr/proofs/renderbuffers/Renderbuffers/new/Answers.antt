use Rattle.std.proofs.Common.{ap, ◌∙◌}
use Rattle.gl_plain.specs.subjects.Targets.{BoundObjects}
use Rattle.target_mgr.specs.declared.renderbuffers.Renderbuffer.{Renderbuffer}
use Rattle.target_mgr.specs.Marked.{unmarked, marks_of}
use Rattle.target_mgr.proofs.MarksBeside.{unmarked-empty, marks-empty}
use Rattle.target_mgr.proofs.renderbuffers.Renderbuffers.new.Goals as goal

pub returns-clause-tables : goal.returns-clause-tables
returns-clause-tables c = ap unmarked c.new.ensures ∙ unmarked-empty

pub returns-clause-marks : goal.returns-clause-marks
returns-clause-marks c = ap (λ (t : BoundObjects Renderbuffer). marks_of t.objects) c.new.ensures ∙ marks-empty
