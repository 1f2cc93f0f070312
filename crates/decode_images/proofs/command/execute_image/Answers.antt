use Rattle.std.proofs.Common.{refl, sym}
use Rattle.gl_plain.specs.declared.commands.Command.TheVariants.{Image}
use Rattle.gl_driver.proofs.Exits.{ends_malformed, ends_refused}
use Rattle.decode_images.specs.States.{images_in}
use Rattle.decode_images.proofs.Family.{ready, keeps_to_laws}
use Rattle.decode_images.proofs.command.execute_image.Goals as goal

pub returns-then-is_malformed : goal.returns-then-is_malformed
returns-then-is_malformed g c =
    let before = images_in c.args.textures.now c.args.targets.now c.args.raster.now c.args.errors.now in
    keeps_to_laws c.args.command c.args.payload.now _ (ends_malformed g.met.D.Driver.grown_itself (λ s. sym (c.if-is_malformed.ensures (before s).es (sym c.unpack_alignment.ensures.value))))

pub returns-in-Some : goal.returns-in-Some
returns-in-Some g c =
    let before = images_in c.args.textures.now c.args.targets.now c.args.raster.now c.args.errors.now in
    keeps_to_laws c.args.command c.args.payload.now _
    (ends_refused (Image c.args.command) c.args.payload.now g.met.D.Driver.grown_itself (λ s. sym (c.if-is_malformed.ensures (before s).es (sym c.unpack_alignment.ensures.value))) (λ s. sym (c.in-Some.ensures (before s).es))
    (λ s i. images_in c.args.textures.now c.args.targets.now c.args.raster.now (sym c.note.ensures i) s))

pub execute-requires : goal.execute-requires
execute-requires g c =
    let before = images_in c.args.textures.now c.args.targets.now c.args.raster.now c.args.errors.now in
    ready c.args.command c.args.payload.now _ c.requires.agrees (sym (c.if-is_malformed.ensures (before c.requires.agrees.others).es (sym c.unpack_alignment.ensures.value))) (sym (c.in_default.ensures (before c.requires.agrees.others).es)) c.requires.given

pub returns : goal.returns
returns g c = keeps_to_laws c.args.command c.args.payload.now _ c.execute.ensures
