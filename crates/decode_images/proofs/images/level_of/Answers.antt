use Rattle.std.proofs.Common.{◌≡◌, rules, of_z, to_z}
use Rattle.std.specs.Int.{w32}
use Rattle.gl_laws.proofs.Images.{fine_image, level_within}
use Rattle.decode_images.proofs.images.level_of.Goals as goal

pub returns-clause-limit : goal.returns-clause-limit
returns-clause-limit c =
    let level : to_z w32 (of_z w32 c.args.image.level) ≡ c.args.image.level = search rules in rw (c.natural.ensures, level) (level_within c.args.image (fine_image c.args.image c.requires))
