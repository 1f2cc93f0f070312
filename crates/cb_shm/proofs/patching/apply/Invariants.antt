use Rattle.std.proofs.Common.{◌≡◌, drop}
use Rattle.cb_shm.specs.Applied.{applied}
use Rattle.cb_shm.proofs.patching.apply.Given as goal

abbrev pub invariant-loop-patch : goal.invariant-loop-patch
invariant-loop-patch l = applied (drop l.patch-index l.patches) l.regions ≡ applied l.patches l.fn.regions
