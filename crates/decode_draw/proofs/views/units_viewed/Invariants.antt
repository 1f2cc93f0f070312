use Rattle.std.proofs.Common.{◌≡◌, ◌++◌, length, take, drop}
use Rattle.gl_plain.specs.subjects.Draws.{with_textures}
use Rattle.texture_mgr.specs.Tables.{tables}
use Rattle.decode_draw.proofs.views.units_viewed.Given as goal

-- the units so far are viewed, and with those that are left they are all
abbrev pub invariant-loop-unit : goal.invariant-loop-unit
invariant-loop-unit l = record {
  count : length l.units ≡ 8;
  so_far : take l.unit l.units ++ with_textures (tables l.textures).objects l.target l.unit (drop l.unit l.units) ≡ with_textures (tables l.textures).objects l.target 0 l.initial.units;
}
