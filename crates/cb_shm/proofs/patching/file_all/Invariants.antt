use Rattle.std.proofs.Common.{◌≡◌, drop}
use Rattle.std.specs.FinMap as map
use Rattle.cb_shm.specs.Waiting.{filed_all}
use Rattle.cb_shm.proofs.patching.file_all.Given as goal

abbrev pub invariant-loop-one : goal.invariant-loop-one
invariant-loop-one l = filed_all (drop l.one-index l.timed) l.waiting ≡ filed_all l.timed map.empty
