use Rattle.std.proofs.Common.{ap, ◌∙◌}
use Rattle.gl_plain.specs.subjects.Completeness.{is_complete}
use Rattle.texture_mgr.proofs.texture.Texture.is_complete.Goals as goal

pub returns : goal.returns
returns c = c.complete_of.ensures ∙ ap (λ levels. is_complete (record c.args.self.now.table { levels = levels })) c.as_slice.ensures
