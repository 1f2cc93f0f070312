use Rattle.std.proofs.Common.{ap, refl, ◌∙◌}
use Rattle.std.proofs.lemmas.Result.{on_ok_weaker}
use Rattle.gl_plain.specs.subjects.Targets.{BoundObjects}
use Rattle.target_mgr.specs.declared.renderbuffers.Renderbuffer.{Renderbuffer}
use Rattle.target_mgr.specs.Objects.{table_of}
use Rattle.target_mgr.specs.Marked.{unmarked, marks_of}
use Rattle.target_mgr.proofs.MarksBeside.{unmarked-bind, marks-bind}
use Rattle.target_mgr.proofs.renderbuffers.Renderbuffers.bind.Goals as goal

pub returns-clause-ok : goal.returns-clause-ok
returns-clause-ok c = on_ok_weaker c.bind.result (λ e. ap unmarked e ∙ unmarked-bind (table_of c.args.self.now.objects) c.args.id _) c.bind.ensures.ok

pub returns-clause-made : goal.returns-clause-made
returns-clause-made c = on_ok_weaker c.bind.result (λ e o. ap (λ (t : BoundObjects Renderbuffer). marks_of t.objects) e ∙ marks-bind (table_of c.args.self.now.objects) c.args.id _ c.args.name refl c.requires) c.bind.ensures.ok
