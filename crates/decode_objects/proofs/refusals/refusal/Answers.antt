use Rattle.std.proofs.Common.{◌≡◌, ℤ, false, length, rules, of_z, to_z, sym, subst}
use Rattle.std.specs.Int.{w32}
use Rattle.gl_plain.specs.subjects.Data.{IsData}
use Rattle.gl_plain.specs.subjects.Uniforms.{uniform_needed, uniform_is_bad}
use Rattle.decode_objects.proofs.Full.{uniform_size}
use Rattle.decode_objects.proofs.refusals.refusal.Goals as goal

pub uniform_refusal-requires : goal.uniform_refusal-requires
uniform_refusal-requires c =
    let fair : uniform_is_bad c.in-Uniform.kind c.in-Uniform.count c.in-Uniform.words ≡ false = rw c.in-Uniform.is at c.requires.fair.1 in
    let given : IsData c.in-Uniform.words c.args.payload.now = rw c.in-Uniform.is at c.requires.given in
    let same : to_z w32 (of_z w32 c.in-Uniform.count) ≡ c.in-Uniform.count = search rules in
    subst (λ (n : ℤ). length c.args.payload.now ≡ uniform_needed c.in-Uniform.kind n) (sym same) (uniform_size c.in-Uniform.kind c.in-Uniform.count c.in-Uniform.words c.args.payload.now fair given)
