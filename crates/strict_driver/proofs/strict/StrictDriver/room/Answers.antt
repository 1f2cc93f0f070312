-- That there is room where the answers that are left say so.
use Rattle.std.proofs.Common.{◌==◌, sym, ◌∙◌, ap, true, false}
use Rattle.std.specs.List.{list_any}
use Rattle.strict_driver.proofs.Entering.{room_left}
use Rattle.strict_driver.proofs.strict.StrictDriver.room.Goals as goal

pub returns-then-is_among : goal.returns-then-is_among
returns-then-is_among c =
    room_left c.self.inside c.args.self.now c.self.view_is c.self.invariant true (sym c.if-is_among.true ∙ c.is_among.ensures ∙ ap (list_any (λ n. n == c.self.inside.counts.stores)) c.as_slice.ensures)

pub returns-else-is_among : goal.returns-else-is_among
returns-else-is_among c =
    room_left c.self.inside c.args.self.now c.self.view_is c.self.invariant false (sym c.if-is_among.false ∙ c.is_among.ensures ∙ ap (list_any (λ n. n == c.self.inside.counts.stores)) c.as_slice.ensures)
