use Rattle.texture_mgr.proofs.CoversBeside.{covers_opening}
use Rattle.texture_mgr.proofs.objects.Objects.new.Goals as goal

pub returns-clause-covers : goal.returns-clause-covers
returns-clause-covers c = covers_opening (record { by_number = c.new-3.result; flat = c.in_ok-flat.flat; cube = c.in_ok-cube.cube }) c.new-3.ensures c.in_ok-flat.ensures.covers c.in_ok-cube.ensures.covers
