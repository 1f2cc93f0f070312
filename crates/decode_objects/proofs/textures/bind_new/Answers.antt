use Rattle.std.proofs.Common.{◌∙◌, ap, refl, sym, [], ◌∷◌}
use Rattle.std.specs.FinMap as map
use Rattle.gl_base.proofs.Found.{get-insert_here}
use Rattle.gl_plain.specs.Spaces.{Textures}
use Rattle.gl_plain.specs.State.{EsState}
use Rattle.gl_plain.specs.subjects.Textures.{TextureTables, bind_texture_effect}
use Rattle.gl_plain.specs.Oracle.{default_answers}
use Rattle.gl_plain.specs.object.Calls.{bind_texture_call}
use Rattle.gl_driver.proofs.Laws.{same_stop}
use Rattle.gl_driver.proofs.Exits.{passes_stop, passes_short}
use Rattle.texture_mgr.specs.Tables.{tables}
use Rattle.decode_objects.specs.States.{textures_in}
use Rattle.decode_objects.proofs.Unknown.{calls_unknown, calls_named, bind_allowed, after_gen}
use Rattle.decode_objects.proofs.textures.bind_new.Goals as goal

pub returns-in_err-number : goal.returns-in_err-number
returns-in_err-number g c =
    passes_stop c.from_residual.result c.from_residual.ensures.1 c.in_err-number.ensures.served c.in_err-number.ensures.cause (λ s. refl)
    (λ s. sym (calls_unknown Textures (bind_texture_call c.args.target) c.args.id _ c.requires.unknown c.requires.positive default_answers))

pub returns-in_err-add_name : goal.returns-in_err-add_name
returns-in_err-add_name g c = passes_short c.from_residual-in_err-add_name.result c.from_residual-in_err-add_name.ensures.1 c.in_ok-number.ensures.served (λ s. refl)
    (λ s. (default_answers, bind_texture_call c.args.target c.in_ok-number.number ∷ [], calls_named Textures (bind_texture_call c.args.target) c.args.id c.in_ok-number.number _ c.requires.unknown c.requires.positive default_answers))

pub bind_known-requires-clause-known : goal.bind_known-requires-clause-known
bind_known-requires-clause-known g c = ap (λ (t : TextureTables). map.get t.names c.args.id) c.in_ok-add_name.ensures.ok ∙ get-insert_here (tables c.args.textures.now).names c.args.id _

pub bind_known-requires-clause-allowed : goal.bind_known-requires-clause-allowed
bind_known-requires-clause-allowed g c =
    let served = c.in_ok-number.ensures.served in
    rw served.state (bind_allowed Textures (bind_texture_call c.args.target) c.args.id c.in_ok-number.number _ c.requires.may c.requires.positive served.legal)

pub returns : goal.returns
returns g c =
    after_gen Textures (bind_texture_call c.args.target) c.args.id c.in_ok-number.number (λ (s : EsState). record s { textures = bind_texture_effect s.textures c.args.target c.args.id }) g.met.D.Driver.grown_further
    (textures_in c.args.textures.now) (textures_in c.add_name.new.textures) (textures_in c.bind_known.new.textures) c.bind_known.result (λ s. c.requires.unknown) c.requires.positive
    (λ s i. record s { es = record s.es { textures = sym (c.in_ok-add_name.ensures.ok) i }; covers = sym (c.in_ok-add_name.ensures.covers) i }) c.in_ok-number.ensures.served (same_stop _ _ _ c.in_ok-number.ensures.cause) c.bind_known.ensures

pub add_name-requires-clause-positive : goal.add_name-requires-clause-positive
add_name-requires-clause-positive g c = c.in_ok-number.ensures.served.legal.0.answered.positive
