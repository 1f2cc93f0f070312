use Rattle.std.proofs.Common.{refl, []}
use Rattle.gl_plain.specs.object.Calls.{bind_texture_call}
use Rattle.gl_driver.proofs.Exits.{passes_stop}
use Rattle.decode_objects.proofs.textures.unbind.Goals as goal

pub returns-in_err-bind_texture : goal.returns-in_err-bind_texture
returns-in_err-bind_texture g c =
    passes_stop c.from_residual.result {next = bind_texture_call c.args.target 0} {more = []} c.from_residual.ensures.1 c.in_err-bind_texture.ensures.served c.in_err-bind_texture.ensures.cause (λ s. refl) (λ s. rw c.requires.unknown refl)
