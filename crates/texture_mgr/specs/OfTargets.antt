-- The targets of the default textures.
use Rattle.std.specs.Prelude.{◌≡◌, true, false}
use Rattle.texture_mgr.specs.declared.objects.Objects.{Objects}

-- each default texture is one of its target
pub record AreOfTargets (o : Objects) : Type 0 where
  pub flat : o.flat.table.cube ≡ false
  pub cube : o.cube.table.cube ≡ true
