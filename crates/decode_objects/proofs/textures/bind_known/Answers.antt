use Rattle.std.proofs.Common.{◌∙◌, Option, ap, refl, sym, []}
use Rattle.gl_plain.specs.declared.calls.Reply.TheVariants as reply
use Rattle.gl_plain.specs.declared.objects.Name as names
use Rattle.gl_plain.specs.subjects.Textures.{bind_texture_effect}
use Rattle.gl_plain.specs.Oracle.{default_answers}
use Rattle.gl_plain.specs.State.{EsState}
use Rattle.gl_plain.specs.Spaces.{Textures}
use Rattle.gl_plain.specs.Wire.{on_wire}
use Rattle.gl_plain.specs.object.Calls.{bind_texture_call}
use Rattle.gl_plain.specs.object.Covers.{bound_covers}
use Rattle.gl_plain.specs.object.Step.{bind_outcome}
use Rattle.gl_driver.proofs.Laws.{same_stop}
use Rattle.gl_driver.proofs.Exits.{passes_stop, passes_short, ends_done}
use Rattle.texture_mgr.specs.Tables.{covers}
use Rattle.decode_objects.specs.States.{textures_in}
use Rattle.decode_objects.proofs.textures.bind_known.Goals as goal

pub returns-in_err-bind_texture : goal.returns-in_err-bind_texture
returns-in_err-bind_texture g c =
    passes_stop c.from_residual.result {next = bind_texture_call c.args.target c.args.name.number} {more = []} c.from_residual.ensures.1 c.in_err-bind_texture.ensures.served c.in_err-bind_texture.ensures.cause (λ s. refl) (λ s. rw c.requires.known refl)

pub returns-in_err-bind : goal.returns-in_err-bind
returns-in_err-bind g c =
    passes_short c.from_residual-in_err-bind.result c.from_residual-in_err-bind.ensures.1 c.in_ok-bind_texture.ensures.served (λ s. refl) (λ s. (default_answers, [], rw c.requires.known refl))

pub returns : goal.returns
returns g c =
    ends_done c.in_ok-bind_texture.ensures.served (same_stop _ _ _ c.in_ok-bind_texture.ensures.cause) (λ s. refl) (λ s o. rw c.requires.known refl)
    (λ s o. ap (λ (found : Option names.Name). on_wire (record (textures_in c.args.textures.now s) { covers = bound_covers (covers c.args.textures.now) c.args.id o found })
    (bind_outcome Textures (λ (x : EsState). record x { textures = bind_texture_effect x.textures c.args.target c.args.id }) (textures_in c.args.textures.now s).es c.args.id o found)) c.requires.known
    ∙ (λ i. record { state = record s { es = record s.es { textures = sym c.in_ok-bind.ensures.ok i }; covers = sym (c.in_ok-bind.ensures.made o) i }; oracle = o; reply = reply.None }))
