use Rattle.std.proofs.Common.{◌≡◌, ◌∙◌, [], ◌∷◌, refl, rules, of_z, to_z, true, false}
use Rattle.std.specs.Int.{w32}
use Rattle.gl_plain.specs.declared.driver_calls.DriverCall.TheVariants.{Draw}
use Rattle.gl_plain.specs.declared.driver_calls.DrawDriver.TheVariants.{DrawElements}
use Rattle.gl_driver.proofs.Exits.{ends_alone, passes_stop}
use Rattle.decode_draw.proofs.Drawings.{drawing_makes, drawing_makes_none, turned_false, turned_true}
use Rattle.decode_draw.proofs.drawing.draw_elements.Goals as goal

pub returns-then-not-plan : goal.returns-then-not-plan
returns-then-not-plan g c =
    let none : c.args.plan.draw ≡ false = turned_false c.args.plan.draw c.if-not-plan.true in
    ends_alone g.met.D.Driver.grown_itself (λ s. refl) (λ s o. drawing_makes_none (λ black. Draw (DrawElements c.args.mode c.args.count c.args.kind c.args.offset black)) c.args.plan none) (λ s o. refl)

pub draw_elements-requires : goal.draw_elements-requires
draw_elements-requires g c =
    let draws : c.args.plan.draw ≡ true = turned_true c.args.plan.draw c.if-not-plan.false in
    let many : to_z w32 (of_z w32 c.args.count) ≡ c.args.count = search rules in
    c.requires.may (Draw (DrawElements c.args.mode (to_z w32 (of_z w32 c.args.count)) c.args.kind c.args.offset c.from.result))
    ((λ i. Draw (DrawElements c.args.mode (many i) c.args.kind c.args.offset c.from.result) ∷ []) ∙ drawing_makes (λ black. Draw (DrawElements c.args.mode c.args.count c.args.kind c.args.offset black)) c.args.plan c.from.result c.from.ensures draws)

pub returns-in_err-draw_elements : goal.returns-in_err-draw_elements
returns-in_err-draw_elements g c =
    let draws : c.args.plan.draw ≡ true = turned_true c.args.plan.draw c.if-not-plan.false in
    let many : to_z w32 (of_z w32 c.args.count) ≡ c.args.count = search rules in
    passes_stop c.from_residual.result c.from_residual.ensures.1 c.in_err-draw_elements.ensures.served c.in_err-draw_elements.ensures.cause (λ s. refl)
    (λ s. drawing_makes (λ black. Draw (DrawElements c.args.mode c.args.count c.args.kind c.args.offset black)) c.args.plan c.from.result c.from.ensures draws)
