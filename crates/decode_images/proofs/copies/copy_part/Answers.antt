use Rattle.std.proofs.Common.{◌≡◌, Bool, if◌then◌else◌, List, [], ◌∷◌, refl, sym, ap, rules, of_z, to_z}
use Rattle.std.specs.Int.{w32}
use Rattle.gl_plain.specs.declared.driver_calls.DriverCall.{DriverCall}
use Rattle.gl_plain.specs.declared.driver_calls.DriverCall.TheVariants.{Image}
use Rattle.gl_plain.specs.declared.driver_calls.ImageDriver.TheVariants.{CopyTexSubImage}
use Rattle.gl_plain.specs.declared.calls.Reply.TheVariants as reply
use Rattle.gl_driver.proofs.Laws.{same_stop}
use Rattle.gl_driver.proofs.Exits.{passes_stop, ends_done}
use Rattle.decode_images.specs.States.{copy_covers}
use Rattle.decode_images.proofs.copies.copy_part.Goals as goal

pub returns-in_err-copy_tex_sub_image : goal.returns-in_err-copy_tex_sub_image
returns-in_err-copy_tex_sub_image g c payload before =
    passes_stop c.from_residual.result c.from_residual.ensures.1 c.in_err-copy_tex_sub_image.ensures.served c.in_err-copy_tex_sub_image.ensures.cause (λ s. refl)
    (λ s. ap (λ (b : Bool). if b then [] else Image (CopyTexSubImage c.args.copy) ∷ []) (sym c.requires.some))

pub returns : goal.returns
returns g c payload before =
    let level : to_z w32 (of_z w32 c.args.copy.level) ≡ c.args.copy.level = search rules in
    let xoffset : to_z w32 (of_z w32 c.args.copy.xoffset) ≡ c.args.copy.xoffset = search rules in
    let yoffset : to_z w32 (of_z w32 c.args.copy.yoffset) ≡ c.args.copy.yoffset = search rules in
    let x : to_z w32 (of_z w32 c.args.copy.x) ≡ c.args.copy.x = search rules in
    let y : to_z w32 (of_z w32 c.args.copy.y) ≡ c.args.copy.y = search rules in
    let width : to_z w32 (of_z w32 c.args.copy.width) ≡ c.args.copy.width = search rules in
    let height : to_z w32 (of_z w32 c.args.copy.height) ≡ c.args.copy.height = search rules in
    ends_done (rw (level, xoffset, yoffset, x, y, width, height) at c.in_ok-copy_tex_sub_image.ensures.served) (same_stop _ _ _ c.in_ok-copy_tex_sub_image.ensures.cause) (λ s. refl)
    (λ s o. ap (λ (b : Bool). if b then [] else Image (CopyTexSubImage c.args.copy) ∷ []) (sym c.requires.some))
    (λ s o. ap (λ (b : Bool). record { state = record (before s) { covers = if b then (before s).covers else copy_covers (before s).es c.args.copy (before s).covers }; oracle = o; reply = reply.None }) c.requires.some)
