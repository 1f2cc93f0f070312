-- That each turn of the loop takes the number from one more unit.
use Rattle.std.proofs.Common.{ap, ◌∙◌, arith, slice_set}
use Rattle.gl_plain.proofs.Edits.{written}
use Rattle.gl_plain.specs.declared.textures.TextureUnits.{TextureUnits}
use Rattle.gl_plain.specs.subjects.Textures.{unit_unbound}
use Rattle.gl_plain.proofs.textures.TextureUnits.unbind.Goals as goal

pub loop-index-preserved : goal.loop-index-preserved
loop-index-preserved c = λ k. record {
  units = (ap (slice_set c.loop-index.self.units c.loop-index.index) c.without.ensures
      ∙ written (unit_unbound c.args.number) c.args.self.now.units c.loop-index.self.units c.loop-index.index _ (omega arith) (omega arith) (ap (λ (s : TextureUnits). s.units) c.loop-index.invariant)) k;
  active = ap (λ (s : TextureUnits). s.active) c.loop-index.invariant k;
}
