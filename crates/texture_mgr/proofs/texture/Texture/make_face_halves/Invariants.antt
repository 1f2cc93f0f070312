use Rattle.std.proofs.Common.{◌≡◌, ◌+◌, ◌-◌}
use Rattle.gl_base.specs.declared.limits.TheConstants.{LAST_LEVEL}
use Rattle.gl_plain.specs.subjects.Mipmaps.{with_halves}
use Rattle.texture_mgr.specs.Covered.{cover_of}
use Rattle.texture_mgr.specs.Halves.{halves_written}
use Rattle.texture_mgr.proofs.texture.Texture.make_face_halves.Given as goal

-- with the levels that are left, the texture comes to the same
abbrev pub invariant-loop-level : goal.invariant-loop-level
invariant-loop-level l = record {
  kind : l.self.table.cube ≡ l.fn.self.table.cube;
  table : with_halves l.self.table l.face l.last l.level (LAST_LEVEL + 1 - l.level) ≡ with_halves l.fn.self.table l.face l.fn.base 1 LAST_LEVEL;
  covers : halves_written (cover_of l.self) l.face l.last l.level (LAST_LEVEL + 1 - l.level) ≡ halves_written (cover_of l.fn.self) l.face l.fn.base 1 LAST_LEVEL;
}
