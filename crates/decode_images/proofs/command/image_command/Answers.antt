use Rattle.std.proofs.Common.{◌∙◌, ap, sym, Some}
use Rattle.decode_images.proofs.Family.{given_is, lawful_of}
use Rattle.decode_images.proofs.command.image_command.Goals as goal

pub execute_image-requires-clause-given : goal.execute_image-requires-clause-given
execute_image-requires-clause-given g c =
    given_is c.in-Some-Image.image c.requires.family.0 c.args.payload.now _ c.requires.family.1 (sym c.in-Some-Image.ensures ∙ ap Some c.in-Some-Image.field-0-is) c.requires.family.2

pub returns : goal.returns
returns g c = λ x e. lawful_of c.in-Some-Image.image x _ (sym c.in-Some-Image.ensures ∙ ap Some c.in-Some-Image.field-0-is) e c.args.payload.now _ c.execute_image.ensures
