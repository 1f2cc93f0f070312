use Rattle.std.proofs.Common.{◌≡◌, Bool, true, false, not, if◌then◌else◌, Option, None, Some, refl}
use Rattle.gl_plain.specs.declared.errors.GlError.{GlError}
use Rattle.gl_plain.specs.declared.errors.GlError.TheVariants.{InvalidEnum, InvalidOperation}
use Rattle.gl_plain.specs.subjects.Levels.{is_texture_target, is_cube_target}
use Rattle.gl_plain.specs.subjects.Mipmaps.{can_halve}
use Rattle.gl_plain.specs.subjects.Textures.{bound_texture}
use Rattle.gl_driver.proofs.Exits.{passes_stop}
use Rattle.texture_mgr.specs.Tables.{tables}
use Rattle.decode_images.proofs.storage.generate_mipmap.Goals as goal

-- what is not refused can be halved
halves : (p q : Bool) → (if not p then Some InvalidEnum else if not q then Some InvalidOperation else None) ≡ None → q ≡ true
halves p true h = refl
halves true false h = absurd (cc)
halves false false h = absurd (cc)

pub make_halves-requires : goal.make_halves-requires
make_halves-requires g c = halves (is_texture_target c.args.target) (can_halve (bound_texture (tables c.args.textures.now).objects (is_cube_target c.args.target))) c.requires.taken

pub returns-in_err-generate_mipmap : goal.returns-in_err-generate_mipmap
returns-in_err-generate_mipmap g c payload targets raster errors =
    passes_stop c.from_residual.result c.from_residual.ensures.1 c.in_err-generate_mipmap.ensures.served c.in_err-generate_mipmap.ensures.cause (λ s. refl) (λ s. refl)
