use Rattle.std.proofs.Common.{◌≡◌, drop}
use Rattle.gl_plain.specs.subjects.Links.{is_one_of}
use Rattle.svc_raster.proofs.rules.is_none_of.Given as goal

abbrev pub invariant-loop-one : goal.invariant-loop-one
invariant-loop-one l = is_one_of (record { 0 = l.word }) (drop l.one-index l.enums) ≡ is_one_of (record { 0 = l.word }) l.enums
