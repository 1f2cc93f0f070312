use Rattle.std.proofs.Common.{◌∙◌, ap, sym, Some}
use Rattle.decode_draw.proofs.Family.{lawful_of}
use Rattle.decode_draw.proofs.command.draw_command.Goals as goal

pub returns : goal.returns
returns g c = λ x e payload. lawful_of c.in-Some-Draw.drawing x _ (sym c.in-Some-Draw.ensures ∙ ap Some c.in-Some-Draw.field-0-is) e payload _ (c.execute_draw.ensures payload)
