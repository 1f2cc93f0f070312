use Rattle.std.proofs.Common.{◌∙◌, ap, sym, Some}
use Rattle.decode_objects.proofs.Family.{given_is, lawful_of}
use Rattle.decode_objects.proofs.command.object_command.Goals as goal

pub execute_object-requires-clause-given : goal.execute_object-requires-clause-given
execute_object-requires-clause-given g c =
    given_is c.in-Some-Object.object c.requires.family.0 c.args.payload.now _ c.requires.family.1 (sym c.in-Some-Object.ensures ∙ ap Some c.in-Some-Object.field-0-is) c.requires.family.2

pub returns : goal.returns
returns g c = λ x e. lawful_of c.in-Some-Object.object x _ (sym c.in-Some-Object.ensures ∙ ap Some c.in-Some-Object.field-0-is) e c.args.payload.now _ c.execute_object.ensures
