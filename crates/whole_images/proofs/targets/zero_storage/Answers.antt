use Rattle.std.proofs.Common.{◌≡◌, ◌∙◌, Bool, false, [], ◌∷◌, ◌++◌, sym, ap, subst}
use Rattle.gl_plain.specs.declared.driver_calls.DriverCall.TheVariants.{Image}
use Rattle.gl_plain.specs.declared.driver_calls.ImageDriver.TheVariants.{ZeroRenderbuffer}
use Rattle.gl_plain.specs.declared.targets.AnyImage.TheVariants as image
use Rattle.gl_plain.specs.Covers.{zero_storage}
use Rattle.gl_driver.specs.Performed.{MayMake}
use Rattle.gl_driver.proofs.Making.{may_make_one}
use Rattle.target_mgr.specs.Tables.{marks}
use Rattle.whole_images.specs.Whole.{image_zeroings}
use Rattle.whole_images.proofs.targets.zero_storage.Goals as goal

pub zero_renderbuffer-requires : goal.zero_renderbuffer-requires
zero_renderbuffer-requires g c =
    let none : marks c.args.targets.now c.args.number ≡ false = sym c.is_written.ensures ∙ c.if-is_written.false in
    let one : image_zeroings c.args.textures.now c.args.targets.now (image.Renderbuffer c.args.number ∷ []) ≡ Image (ZeroRenderbuffer c.args.number) ∷ [] = ap (λ (b : Bool). zero_storage c.args.number b ++ []) none in
    may_make_one (Image (ZeroRenderbuffer c.args.number)) (subst (MayMake (g.D.Driver.history c.args.driver.now).state) one c.requires.may)
