use Rattle.std.proofs.Common.{ap, sym, ◌∙◌}
use Rattle.gl_plain.specs.subjects.Targets as plain
use Rattle.target_mgr.proofs.MarksBeside.{seen_there, seen_missing}
use Rattle.target_mgr.proofs.renderbuffers.Renderbuffers.attach_view.Goals as goal

pub returns-in_default : goal.returns-in_default
returns-in_default c = sym (ap plain.renderbuffer_view (seen_missing c.args.self.now.objects.objects c.args.number c.in_default.ensures))

pub returns-in-Some-image : goal.returns-in-Some-image
returns-in-Some-image c = sym (ap plain.renderbuffer_view (seen_there c.args.self.now.objects.objects c.args.number c.in-Some.entry c.in-Some.ensures) ∙ ap plain.storage_viewed c.in-Some-image.is)

pub returns-in-None : goal.returns-in-None
returns-in-None c = sym (ap plain.renderbuffer_view (seen_there c.args.self.now.objects.objects c.args.number c.in-Some.entry c.in-Some.ensures) ∙ ap plain.storage_viewed c.in-None.is)
