use Rattle.std.proofs.Common.{◌≡◌, drop}
use Rattle.cb_shm.specs.Hostile.{listed_size}
use Rattle.ring_script.proofs.draft.listed_size.Given as goal

-- none of the regions before has the number
abbrev pub invariant-loop-region : goal.invariant-loop-region
invariant-loop-region l = listed_size (drop l.region-index l.regions) l.id ≡ listed_size l.regions l.id
