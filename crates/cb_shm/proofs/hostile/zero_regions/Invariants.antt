use Rattle.std.proofs.Common.{◌≡◌, drop}
use Rattle.std.specs.FinMap as map
use Rattle.cb_shm.specs.Applied.{added}
use Rattle.cb_shm.proofs.hostile.zero_regions.Given as goal

abbrev pub invariant-loop-region : goal.invariant-loop-region
invariant-loop-region l = added (drop l.region-index l.listed) l.regions ≡ added l.listed map.empty
