use Rattle.std.proofs.Common.{◌≡◌, refl, rules, of_z, to_z}
use Rattle.std.specs.Int.{w32}
use Rattle.gl_plain.specs.declared.commands.Command.TheVariants.{Image}
use Rattle.gl_plain.specs.declared.commands.ImageCommand.TheVariants.{TexParameteri, RenderbufferStorage}
use Rattle.gl_driver.proofs.Exits.{ends_own}
use Rattle.decode_images.proofs.Done.{ready_whatever}
use Rattle.decode_images.proofs.Readied.{ready_copy, ready_copy_part, ready_mipmap, storage_allowed}
use Rattle.decode_images.proofs.command.execute.Goals as goal

pub execute_part-requires : goal.execute_part-requires
execute_part-requires g c errors =
    ready_whatever c.in-TexSubImage2D.part c.in-TexSubImage2D.words c.args.payload.now c.args.textures.now c.args.targets.now c.args.raster.now c.args.errors.now errors _ (rw c.in-TexSubImage2D.is at c.requires)

pub returns-in-TexSubImage2D : goal.returns-in-TexSubImage2D
returns-in-TexSubImage2D g c = rw c.in-TexSubImage2D.is (c.execute_part.ensures c.args.errors.now)

pub returns-in-TexParameteri : goal.returns-in-TexParameteri
returns-in-TexParameteri g c =
    let ready = rw c.in-TexParameteri.is at c.requires in
    rw c.in-TexParameteri.is (ends_own (Image (TexParameteri c.in-TexParameteri.target c.in-TexParameteri.pname c.in-TexParameteri.value)) c.args.payload.now g.met.D.Driver.grown_itself g.met.D.Driver.grown_further (λ s. refl) (λ s. ready.fair) (λ s. ready.taken)
    (c.tex_parameteri.ensures c.args.payload.now c.args.targets.now c.args.raster.now c.args.errors.now))

pub execute_copy-requires : goal.execute_copy-requires
execute_copy-requires g c payload =
    ready_copy c.args.textures.now c.args.targets.now c.args.raster.now c.args.errors.now _ c.args.payload.now c.in-CopyTexImage2D.copy payload (rw c.in-CopyTexImage2D.is at c.requires)

pub returns-in-CopyTexImage2D : goal.returns-in-CopyTexImage2D
returns-in-CopyTexImage2D g c = rw c.in-CopyTexImage2D.is (c.execute_copy.ensures c.args.payload.now)

pub execute_copy_part-requires : goal.execute_copy_part-requires
execute_copy_part-requires g c payload errors =
    ready_copy_part c.args.textures.now c.args.targets.now c.args.raster.now c.args.errors.now _ c.args.payload.now c.in-CopyTexSubImage2D.copy payload errors (rw c.in-CopyTexSubImage2D.is at c.requires)

pub returns-in-CopyTexSubImage2D : goal.returns-in-CopyTexSubImage2D
returns-in-CopyTexSubImage2D g c = rw c.in-CopyTexSubImage2D.is (c.execute_copy_part.ensures c.args.payload.now c.args.errors.now)

pub execute_mipmap-requires : goal.execute_mipmap-requires
execute_mipmap-requires g c payload errors =
    ready_mipmap c.args.textures.now c.args.targets.now c.args.raster.now c.args.errors.now _ c.args.payload.now c.in-GenerateMipmap.target payload errors (rw c.in-GenerateMipmap.is at c.requires)

pub returns-in-GenerateMipmap : goal.returns-in-GenerateMipmap
returns-in-GenerateMipmap g c = rw c.in-GenerateMipmap.is (c.execute_mipmap.ensures c.args.payload.now c.args.errors.now)

pub renderbuffer_storage-requires-clause-allowed : goal.renderbuffer_storage-requires-clause-allowed
renderbuffer_storage-requires-clause-allowed g c =
    let width : to_z w32 (of_z w32 c.in-RenderbufferStorage.width) ≡ c.in-RenderbufferStorage.width = search rules in
    let height : to_z w32 (of_z w32 c.in-RenderbufferStorage.height) ≡ c.in-RenderbufferStorage.height = search rules in
    rw (width, height)
    (storage_allowed c.args.textures.now c.args.targets.now c.args.raster.now c.args.errors.now _ c.args.payload.now c.in-RenderbufferStorage.target c.in-RenderbufferStorage.format c.in-RenderbufferStorage.width c.in-RenderbufferStorage.height (rw c.in-RenderbufferStorage.is at c.requires))

pub returns-in-RenderbufferStorage : goal.returns-in-RenderbufferStorage
returns-in-RenderbufferStorage g c =
    let width : to_z w32 (of_z w32 c.in-RenderbufferStorage.width) ≡ c.in-RenderbufferStorage.width = search rules in
    let height : to_z w32 (of_z w32 c.in-RenderbufferStorage.height) ≡ c.in-RenderbufferStorage.height = search rules in
    let ready = rw c.in-RenderbufferStorage.is at c.requires in
    rw c.in-RenderbufferStorage.is (ends_own (Image (RenderbufferStorage c.in-RenderbufferStorage.target c.in-RenderbufferStorage.format c.in-RenderbufferStorage.width c.in-RenderbufferStorage.height)) c.args.payload.now g.met.D.Driver.grown_itself g.met.D.Driver.grown_further (λ s. refl) (λ s. ready.fair) (λ s. ready.taken)
    (rw (width, height) at c.renderbuffer_storage.ensures c.in-RenderbufferStorage.target c.args.payload.now c.args.textures.now c.args.raster.now))
