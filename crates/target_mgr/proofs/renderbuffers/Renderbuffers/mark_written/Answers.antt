use Rattle.std.proofs.Common.{ap, refl, ◌∙◌}
use Rattle.gl_plain.specs.subjects.Targets.{BoundObjects}
use Rattle.target_mgr.specs.declared.renderbuffers.Renderbuffer.{Renderbuffer}
use Rattle.target_mgr.specs.Objects.{table_of}
use Rattle.target_mgr.specs.Marked.{unmarked, marks_of}
use Rattle.target_mgr.proofs.Numbers.{not_there}
use Rattle.target_mgr.proofs.MarksBeside.{marks-insert, unmarked-same, seen_missing}
use Rattle.target_mgr.proofs.renderbuffers.Renderbuffers.mark_written.Goals as goal

pub returns-in-Some-clause-tables : goal.returns-in-Some-clause-tables
returns-in-Some-clause-tables c = ap unmarked c.replace.ensures ∙ unmarked-same (table_of c.args.self.now.objects) c.args.number c.in-Some.entry _ c.in-Some.ensures refl

pub returns-in-Some-clause-marks : goal.returns-in-Some-clause-marks
returns-in-Some-clause-marks c = ap (λ (t : BoundObjects Renderbuffer). marks_of t.objects) c.replace.ensures ∙ marks-insert c.args.self.now.objects.objects c.args.number _

pub returns-in_default-clause-marks : goal.returns-in_default-clause-marks
returns-in_default-clause-marks c = absurd (not_there _ (seen_missing c.args.self.now.objects.objects c.args.number c.in_default.ensures) c.requires)
