use Rattle.std.proofs.Common.{◌≡◌, ◌≢◌, ◌∙◌, negsuc, refl, rules, [], of_z, to_z, ap, sym}
use Rattle.std.specs.Int.{w32}
use Rattle.gl_plain.specs.declared.driver_calls.DriverCall.TheVariants.{Program}
use Rattle.gl_plain.specs.declared.driver_calls.ProgramDriver.TheVariants.{Uniform}
use Rattle.gl_plain.specs.Oracle.{default_answers}
use Rattle.gl_driver.proofs.Exits.{ends_alone, passes_stop, passes_short, passes_at_once}
use Rattle.decode_objects.proofs.Uncalled.{uniform_makes, uniform_makes_none}
use Rattle.decode_objects.proofs.uniforms.uniform.Goals as goal

pub returns-in_err-set_uniform : goal.returns-in_err-set_uniform
returns-in_err-set_uniform g c transpose words = passes_at_once g.met.D.Driver.grown_itself c.from_residual.result c.from_residual.ensures.1

pub returns-then-location-eqminus1 : goal.returns-then-location-eqminus1
returns-then-location-eqminus1 g c transpose words =
    let same : to_z w32 (of_z w32 c.args.location) ≡ c.args.location = search rules in
    let nowhere : c.args.location ≡ negsuc 0 = sym same ∙ ap (to_z w32) c.if-location-eqminus1.true in
    ends_alone g.met.D.Driver.grown_itself (λ s. refl) (λ s o. uniform_makes_none c.args.kind c.args.count c.args.payload.now c.args.location nowhere)
    (search rules)

pub uniform-requires : goal.uniform-requires
uniform-requires g c =
    let same : to_z w32 (of_z w32 c.args.location) ≡ c.args.location = search rules in
    let apart : c.args.location ≢ negsuc 0 = λ e. c.if-location-eqminus1.false (ap (of_z w32) e) in
    let given : to_z w32 (of_z w32 c.args.count) ≡ c.args.count = search rules in
    let kept : to_z w32 (of_z w32 c.given_count.result) ≡ c.given_count.result = search rules in
    c.requires.may default_answers [] (Program (Uniform (to_z w32 (of_z w32 c.args.location)) c.args.kind (to_z w32 (of_z w32 c.given_count.result)) c.args.payload.now)) [] tt
    (uniform_makes c.args.kind c.args.count c.args.payload.now c.args.location (to_z w32 (of_z w32 c.args.location)) (to_z w32 (of_z w32 c.given_count.result)) apart same (kept ∙ rw given at c.given_count.ensures))

pub returns-in_err-uniform : goal.returns-in_err-uniform
returns-in_err-uniform g c transpose words =
    let apart : c.args.location ≢ negsuc 0 = λ e. c.if-location-eqminus1.false (ap (of_z w32) e) in
    passes_stop c.from_residual-in_err-uniform.result c.from_residual-in_err-uniform.ensures.1 c.in_err-uniform.ensures.served c.in_err-uniform.ensures.cause (λ s. refl)
    (λ s. uniform_makes c.args.kind c.args.count c.args.payload.now c.args.location c.args.location _ apart refl refl)

pub returns-in_err-set_uniform-2 : goal.returns-in_err-set_uniform-2
returns-in_err-set_uniform-2 g c transpose words =
    let same : to_z w32 (of_z w32 c.args.location) ≡ c.args.location = search rules in
    let apart : c.args.location ≢ negsuc 0 = λ e. c.if-location-eqminus1.false (ap (of_z w32) e) in
    let given : to_z w32 (of_z w32 c.args.count) ≡ c.args.count = search rules in
    let kept : to_z w32 (of_z w32 c.given_count.result) ≡ c.given_count.result = search rules in
    passes_short c.from_residual-in_err-set_uniform-2.result c.from_residual-in_err-set_uniform-2.ensures.1 c.in_ok-uniform.ensures.served (λ s. refl)
    (λ s. (default_answers, [], uniform_makes c.args.kind c.args.count c.args.payload.now c.args.location (to_z w32 (of_z w32 c.args.location)) (to_z w32 (of_z w32 c.given_count.result)) apart same (kept ∙ rw given at c.given_count.ensures)))
