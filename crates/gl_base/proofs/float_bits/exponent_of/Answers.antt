use Rattle.gl_base.proofs.Exponents.{exponent_is}
use Rattle.gl_base.proofs.float_bits.exponent_of.Goals as goal

-- src/float_bits.rt:18:1
pub returns-clause-value : goal.returns-clause-value
returns-clause-value c = exponent_is c.ilog2.result c.args.n c.ilog2.ensures.power_le c.ilog2.ensures.next_power_gt c.ilog2.ensures.bound
