use Rattle.std.proofs.Common.{◌≤◌, arith, ap, sym, subst, ◌∙◌}
use Rattle.gl_base.specs.declared.limits.TheConstants.{LAST_UNIT}
use Rattle.gl_plain.specs.declared.textures.TextureUnits.{TextureUnits}
use Rattle.gl_plain.specs.subjects.Textures.{TextureObjects, no_bindings}
use Rattle.texture_mgr.specs.Objects.{objects_of}
use Rattle.texture_mgr.proofs.Numbers.{numbered-empty}
use Rattle.texture_mgr.proofs.textures.Textures.new.Goals as goal

pub invariant_of-result : goal.invariant_of-result
invariant_of-result c = record {
  numbered = numbered-empty c.new-2.result c.new-2.ensures;
  of_targets = record {
    flat = ap (λ (t : TextureObjects). t.flat.cube) (c.in_ok-objects.ensures.tables no_bindings);
    cube = ap (λ (t : TextureObjects). t.cube.cube) (c.in_ok-objects.ensures.tables no_bindings);
  };
  active = subst (λ (u : TextureUnits). u.active ≤ LAST_UNIT) (sym c.new-3.ensures) (omega arith);
}

pub returns-clause-tables : goal.returns-clause-tables
returns-clause-tables c = λ i. record { names = c.new-2.ensures i; objects = (ap (objects_of c.in_ok-objects.objects) c.new-3.ensures ∙ c.in_ok-objects.ensures.tables no_bindings) i }
