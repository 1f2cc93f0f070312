use Rattle.std.proofs.Common.{refl}
use Rattle.gl_plain.specs.declared.driver_calls.DriverCall.TheVariants.{Draw}
use Rattle.gl_plain.specs.declared.driver_calls.DrawDriver.TheVariants.{Clear}
use Rattle.gl_driver.proofs.Exits.{passes_stop}
use Rattle.decode_draw.proofs.Drawings.{clear_makes}
use Rattle.decode_draw.proofs.drawing.clear.Goals as goal

pub clear-requires : goal.clear-requires
clear-requires g c = c.requires.may (Draw (Clear c.args.mask)) (clear_makes c.args.mask c.if-mask-eq0.false)

pub returns-in_err-clear : goal.returns-in_err-clear
returns-in_err-clear g c =
    passes_stop c.from_residual.result c.from_residual.ensures.1 c.in_err-clear.ensures.served c.in_err-clear.ensures.cause (λ s. refl) (λ s. clear_makes c.args.mask c.if-mask-eq0.false)
