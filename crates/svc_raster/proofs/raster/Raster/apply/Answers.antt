use Rattle.svc_raster.proofs.Aligned.{length_of}
use Rattle.svc_raster.proofs.raster.Raster.apply.Goals as goal

pub set_alignment-requires : goal.set_alignment-requires
set_alignment-requires c = length_of c.args.number c.args.kept.now c.requires
