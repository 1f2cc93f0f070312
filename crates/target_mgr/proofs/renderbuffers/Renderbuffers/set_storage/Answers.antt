use Rattle.std.proofs.Common.{ap, sym, subst, ◌∙◌, IsSome, Some, false}
use Rattle.std.specs.FinMap as map
use Rattle.gl_plain.specs.subjects.Targets.{BoundObjects}
use Rattle.gl_plain.specs.subjects.Images.{with_mark}
use Rattle.target_mgr.specs.declared.renderbuffers.Renderbuffer.{Renderbuffer}
use Rattle.target_mgr.specs.Named.{with_entry}
use Rattle.target_mgr.specs.Objects.{table_of}
use Rattle.target_mgr.specs.Marked.{unmarked, marks_of}
use Rattle.target_mgr.proofs.MarksBeside.{marks-insert, unmarked-entry, there_beside}
use Rattle.target_mgr.proofs.renderbuffers.Renderbuffers.set_storage.Goals as goal

pub replace-requires : goal.replace-requires
replace-requires c = subst (λ n. IsSome (map.get c.args.self.now.objects.objects n)) (sym c.bound-bound.ensures) (there_beside c.args.self.now.objects.objects c.args.self.now.objects.bound c.requires)

pub returns-clause-tables : goal.returns-clause-tables
returns-clause-tables c =
    ap unmarked c.replace.ensures
    ∙ unmarked-entry (table_of c.args.self.now.objects) c.bound-bound.result _
    ∙ ap (λ n. with_entry (unmarked (table_of c.args.self.now.objects)) n (record { image = Some c.args.view })) c.bound-bound.ensures

pub returns-clause-marks : goal.returns-clause-marks
returns-clause-marks c =
    ap (λ (t : BoundObjects Renderbuffer). marks_of t.objects) c.replace.ensures
    ∙ marks-insert c.args.self.now.objects.objects c.bound-bound.result _
    ∙ ap (λ n. with_mark (marks_of c.args.self.now.objects.objects) n false) c.bound-bound.ensures
