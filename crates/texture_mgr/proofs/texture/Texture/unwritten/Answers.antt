use Rattle.std.proofs.Common.{ap, ◌∙◌}
use Rattle.texture_mgr.specs.Kept.{written_in}
use Rattle.texture_mgr.proofs.Places.{rest_is}
use Rattle.texture_mgr.proofs.texture.Texture.unwritten.Goals as goal

pub returns-in-Some-clause-parts : goal.returns-in-Some-clause-parts
returns-in-Some-clause-parts c = c.rest.ensures.parts ∙ rest_is _ c.in-Some.cover _ c.in-Some.ensures.sides (ap written_in c.in-Some.ensures.cover)
