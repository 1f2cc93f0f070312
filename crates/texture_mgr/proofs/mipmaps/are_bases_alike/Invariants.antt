use Rattle.std.proofs.Common.{◌≡◌}
use Rattle.gl_plain.specs.subjects.Mipmaps as mipmaps
use Rattle.texture_mgr.proofs.mipmaps.are_bases_alike.Given as goal

abbrev pub invariant-loop-face : goal.invariant-loop-face
invariant-loop-face l = l.alike ≡ mipmaps.are_bases_alike l.table l.base l.face
