use Rattle.std.proofs.Common.{◌∙◌, ap, sym, Some}
use Rattle.decode_query.proofs.Family.{lawful_of}
use Rattle.decode_query.proofs.command.query_command.Goals as goal

pub returns : goal.returns
returns g c = λ x e payload. lawful_of c.in-Some-Query.query x _ (sym c.in-Some-Query.ensures ∙ ap Some c.in-Some-Query.field-0-is) e payload _ (c.execute_query.ensures payload)
