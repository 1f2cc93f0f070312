-- That one more face leaves what all faces make.
use Rattle.std.proofs.Common.{◌≡◌, ◌+◌, ◌-◌, sym, ◌∙◌, ap, arith}
use Rattle.gl_base.specs.declared.limits.TheConstants.{LAST_LEVEL}
use Rattle.gl_plain.specs.subjects.Mipmaps.{with_all_halves, with_halves}
use Rattle.strict_driver.proofs.Halves.{faces_next}
use Rattle.strict_driver.proofs.mipmaps.put_on_faces.Goals as goal

pub loop-index-preserved : goal.loop-index-preserved
loop-index-preserved c =
    let index = c.loop-index.index in
    let base = c.args.base in
    let below = c.loop-index-test.true in
    let face : c.args.first + (index + 1) ≡ c.args.first + index + 1 = omega arith in
    let left : c.args.count - index ≡ c.args.count - (index + 1) + 1 = omega arith in
    rw (c.put_halves.ensures, face) (sym (faces_next c.loop-index.texture base (c.args.first + index) (c.args.count - index) (c.args.count - (index + 1)) left) ∙ c.loop-index.invariant)
