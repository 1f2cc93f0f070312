use Rattle.std.proofs.Common.{◌∙◌, ap, refl, sym, [], ◌∷◌}
use Rattle.std.specs.FinMap as map
use Rattle.gl_base.proofs.Found.{get-insert_here}
use Rattle.gl_plain.specs.Spaces.{Renderbuffers}
use Rattle.gl_plain.specs.State.{EsState}
use Rattle.gl_plain.specs.subjects.Targets.{RenderbufferTables, new_renderbuffer, bind_effect}
use Rattle.gl_plain.specs.Oracle.{default_answers}
use Rattle.gl_plain.specs.object.Calls.{bind_renderbuffer_call}
use Rattle.gl_driver.proofs.Laws.{same_stop}
use Rattle.gl_driver.proofs.Exits.{passes_stop, passes_short}
use Rattle.target_mgr.specs.Tables.{renderbuffers}
use Rattle.decode_objects.specs.States.{targets_in}
use Rattle.decode_objects.proofs.Unknown.{calls_unknown, calls_named, bind_allowed, after_gen}
use Rattle.decode_objects.proofs.renderbuffers.bind_new.Goals as goal

pub returns-in_err-number : goal.returns-in_err-number
returns-in_err-number g c =
    passes_stop c.from_residual.result c.from_residual.ensures.1 c.in_err-number.ensures.served c.in_err-number.ensures.cause (λ s. refl)
    (λ s. sym (calls_unknown Renderbuffers bind_renderbuffer_call c.args.id _ c.requires.unknown c.requires.positive default_answers))

pub returns-in_err-add_name : goal.returns-in_err-add_name
returns-in_err-add_name g c = passes_short c.from_residual-in_err-add_name.result c.from_residual-in_err-add_name.ensures.1 c.in_ok-number.ensures.served (λ s. refl)
    (λ s. (default_answers, bind_renderbuffer_call c.in_ok-number.number ∷ [], calls_named Renderbuffers bind_renderbuffer_call c.args.id c.in_ok-number.number _ c.requires.unknown c.requires.positive default_answers))

pub bind_known-requires-clause-known : goal.bind_known-requires-clause-known
bind_known-requires-clause-known g c = ap (λ (t : RenderbufferTables). map.get t.names c.args.id) c.in_ok-add_name.ensures.ok ∙ get-insert_here (renderbuffers c.args.targets.now).names c.args.id _

pub bind_known-requires-clause-allowed : goal.bind_known-requires-clause-allowed
bind_known-requires-clause-allowed g c =
    let served = c.in_ok-number.ensures.served in
    rw served.state (bind_allowed Renderbuffers bind_renderbuffer_call c.args.id c.in_ok-number.number _ c.requires.may c.requires.positive served.legal)

pub returns : goal.returns
returns g c =
    after_gen Renderbuffers bind_renderbuffer_call c.args.id c.in_ok-number.number (λ (s : EsState). record s { renderbuffers = bind_effect new_renderbuffer s.renderbuffers c.args.id }) g.met.D.Driver.grown_further
    (targets_in c.args.targets.now) (targets_in c.add_name.new.targets) (targets_in c.bind_known.new.targets) c.bind_known.result (λ s. c.requires.unknown) c.requires.positive
    (λ s i. record s { es = record s.es { renderbuffers = sym c.in_ok-add_name.ensures.ok i; framebuffers = sym c.in_ok-add_name.ensures.others i }; marks = sym c.in_ok-add_name.ensures.marks i }) c.in_ok-number.ensures.served
    (same_stop _ _ _ c.in_ok-number.ensures.cause) c.bind_known.ensures
