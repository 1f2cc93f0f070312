use Rattle.std.proofs.Common.{◌≡◌, ◌+◌, ◌-◌}
use Rattle.gl_plain.specs.subjects.Mipmaps.{with_all_halves}
use Rattle.texture_mgr.specs.Covered.{cover_of}
use Rattle.texture_mgr.specs.Halves.{all_halves_written}
use Rattle.texture_mgr.proofs.texture.Texture.make_all_halves.Given as goal

-- with the faces that are left, the texture comes to the same
abbrev pub invariant-loop-index : goal.invariant-loop-index
invariant-loop-index l = record {
  kind : l.self.table.cube ≡ l.fn.self.table.cube;
  table : with_all_halves l.self.table l.base (l.first + l.index) (l.count - l.index) ≡ with_all_halves l.fn.self.table l.base l.first l.count;
  covers : all_halves_written (cover_of l.self) l.base (l.first + l.index) (l.count - l.index) ≡ all_halves_written (cover_of l.fn.self) l.base l.first l.count;
}
