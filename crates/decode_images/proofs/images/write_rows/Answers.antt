use Rattle.std.proofs.Common.{◌≡◌, refl, sym, ap, [], ◌∷◌, rules, of_z, to_z}
use Rattle.std.specs.Int.{w32}
use Rattle.gl_plain.specs.declared.driver_calls.DriverCall.TheVariants.{Image}
use Rattle.gl_plain.specs.declared.driver_calls.ImageDriver.TheVariants.{TexSubImage}
use Rattle.gl_driver.proofs.Laws.{same_stop}
use Rattle.gl_driver.proofs.Exits.{passes_stop, ends_done}
use Rattle.decode_images.proofs.images.write_rows.Goals as goal

pub returns-in_err-tex_sub_image : goal.returns-in_err-tex_sub_image
returns-in_err-tex_sub_image g c words payload before is =
    passes_stop c.from_residual.result c.from_residual.ensures.1 c.in_err-tex_sub_image.ensures.served c.in_err-tex_sub_image.ensures.cause (λ s. refl) (λ s. ap (λ bytes. Image (TexSubImage c.args.part bytes) ∷ []) (is s))

pub returns : goal.returns
returns g c words payload before is =
    let level : to_z w32 (of_z w32 c.args.part.level) ≡ c.args.part.level = search rules in
    let x : to_z w32 (of_z w32 c.args.part.x) ≡ c.args.part.x = search rules in
    let y : to_z w32 (of_z w32 c.args.part.y) ≡ c.args.part.y = search rules in
    let width : to_z w32 (of_z w32 c.args.part.width) ≡ c.args.part.width = search rules in
    let height : to_z w32 (of_z w32 c.args.part.height) ≡ c.args.part.height = search rules in
    ends_done (rw (level, x, y, width, height) at c.in_ok-tex_sub_image.ensures.served) (same_stop _ _ _ c.in_ok-tex_sub_image.ensures.cause) (λ s. refl)
    (λ s o. ap (λ bytes. Image (TexSubImage c.args.part bytes) ∷ []) (is s)) (λ s o. refl)
