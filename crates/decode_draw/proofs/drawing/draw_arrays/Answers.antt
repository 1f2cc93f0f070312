use Rattle.std.proofs.Common.{◌≡◌, ◌∙◌, [], ◌∷◌, refl, rules, of_z, to_z, true, false}
use Rattle.std.specs.Int.{w32}
use Rattle.gl_plain.specs.declared.driver_calls.DriverCall.TheVariants.{Draw}
use Rattle.gl_plain.specs.declared.driver_calls.DrawDriver.TheVariants.{DrawArrays}
use Rattle.gl_driver.proofs.Exits.{ends_alone, passes_stop}
use Rattle.decode_draw.proofs.Drawings.{drawing_makes, drawing_makes_none, turned_false, turned_true}
use Rattle.decode_draw.proofs.drawing.draw_arrays.Goals as goal

pub returns-then-not-plan : goal.returns-then-not-plan
returns-then-not-plan g c =
    let none : c.args.plan.draw ≡ false = turned_false c.args.plan.draw c.if-not-plan.true in
    ends_alone g.met.D.Driver.grown_itself (λ s. refl) (λ s o. drawing_makes_none (λ black. Draw (DrawArrays c.args.mode c.args.first c.args.count black)) c.args.plan none) (λ s o. refl)

pub draw_arrays-requires : goal.draw_arrays-requires
draw_arrays-requires g c =
    let draws : c.args.plan.draw ≡ true = turned_true c.args.plan.draw c.if-not-plan.false in
    let one : to_z w32 (of_z w32 c.args.first) ≡ c.args.first = search rules in
    let many : to_z w32 (of_z w32 c.args.count) ≡ c.args.count = search rules in
    c.requires.may (Draw (DrawArrays c.args.mode (to_z w32 (of_z w32 c.args.first)) (to_z w32 (of_z w32 c.args.count)) c.from.result))
    ((λ i. Draw (DrawArrays c.args.mode (one i) (many i) c.from.result) ∷ []) ∙ drawing_makes (λ black. Draw (DrawArrays c.args.mode c.args.first c.args.count black)) c.args.plan c.from.result c.from.ensures draws)

pub returns-in_err-draw_arrays : goal.returns-in_err-draw_arrays
returns-in_err-draw_arrays g c =
    let draws : c.args.plan.draw ≡ true = turned_true c.args.plan.draw c.if-not-plan.false in
    let one : to_z w32 (of_z w32 c.args.first) ≡ c.args.first = search rules in
    let many : to_z w32 (of_z w32 c.args.count) ≡ c.args.count = search rules in
    passes_stop c.from_residual.result c.from_residual.ensures.1 c.in_err-draw_arrays.ensures.served c.in_err-draw_arrays.ensures.cause (λ s. refl)
    (λ s. drawing_makes (λ black. Draw (DrawArrays c.args.mode c.args.first c.args.count black)) c.args.plan c.from.result c.from.ensures draws)
