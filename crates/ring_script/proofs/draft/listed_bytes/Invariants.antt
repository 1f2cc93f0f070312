use Rattle.std.proofs.Common.{◌≡◌, take}
use Rattle.ring_script.specs.Limits.{listed_bytes}
use Rattle.ring_script.proofs.draft.listed_bytes.Given as goal

-- the bytes of the regions before
abbrev pub invariant-loop-region : goal.invariant-loop-region
invariant-loop-region l = l.bytes ≡ listed_bytes (take l.region-index l.regions)
