use Rattle.std.proofs.Common.{ap, sym, ◌∙◌}
use Rattle.gl_plain.specs.subjects.Targets as plain
use Rattle.target_mgr.proofs.MarksBeside.{seen_there, seen_missing}
use Rattle.target_mgr.proofs.renderbuffers.Renderbuffers.storage.Goals as goal

pub returns-in-Some : goal.returns-in-Some
returns-in-Some c = sym (ap plain.renderbuffer_image (seen_there c.args.self.now.objects.objects c.args.number c.in-Some.entry c.in-Some.ensures))

pub returns-in-None : goal.returns-in-None
returns-in-None c = sym (ap plain.renderbuffer_image (seen_missing c.args.self.now.objects.objects c.args.number c.in-None.ensures))
