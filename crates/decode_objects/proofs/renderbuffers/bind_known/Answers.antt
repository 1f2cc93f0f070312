use Rattle.std.proofs.Common.{◌∙◌, Option, ap, refl, sym, []}
use Rattle.gl_plain.specs.declared.calls.Reply.TheVariants as reply
use Rattle.gl_plain.specs.declared.objects.Name as names
use Rattle.gl_plain.specs.subjects.Targets.{new_renderbuffer, bind_effect}
use Rattle.gl_plain.specs.Oracle.{default_answers}
use Rattle.gl_plain.specs.State.{EsState}
use Rattle.gl_plain.specs.Spaces.{Renderbuffers}
use Rattle.gl_plain.specs.Wire.{on_wire}
use Rattle.gl_plain.specs.object.Calls.{bind_renderbuffer_call}
use Rattle.gl_plain.specs.object.Covers.{bound_marks}
use Rattle.gl_plain.specs.object.Step.{bind_outcome}
use Rattle.gl_driver.proofs.Laws.{same_stop}
use Rattle.gl_driver.proofs.Exits.{passes_stop, passes_short, ends_done}
use Rattle.target_mgr.specs.Tables.{marks}
use Rattle.decode_objects.specs.States.{targets_in}
use Rattle.decode_objects.proofs.renderbuffers.bind_known.Goals as goal

pub returns-in_err-bind_renderbuffer : goal.returns-in_err-bind_renderbuffer
returns-in_err-bind_renderbuffer g c =
    passes_stop c.from_residual.result {next = bind_renderbuffer_call c.args.name.number} {more = []} c.from_residual.ensures.1 c.in_err-bind_renderbuffer.ensures.served c.in_err-bind_renderbuffer.ensures.cause (λ s. refl) (λ s. rw c.requires.known refl)

pub returns-in_err-bind_renderbuffer-2 : goal.returns-in_err-bind_renderbuffer-2
returns-in_err-bind_renderbuffer-2 g c =
    passes_short c.from_residual-in_err-bind_renderbuffer-2.result c.from_residual-in_err-bind_renderbuffer-2.ensures.1 c.in_ok-bind_renderbuffer.ensures.served (λ s. refl) (λ s. (default_answers, [], rw c.requires.known refl))

pub returns : goal.returns
returns g c =
    ends_done c.in_ok-bind_renderbuffer.ensures.served (same_stop _ _ _ c.in_ok-bind_renderbuffer.ensures.cause) (λ s. refl) (λ s o. rw c.requires.known refl)
    (λ s o. ap (λ (found : Option names.Name). on_wire (record (targets_in c.args.targets.now s) { marks = bound_marks (marks c.args.targets.now) c.args.id o found })
    (bind_outcome Renderbuffers (λ (x : EsState). record x { renderbuffers = bind_effect new_renderbuffer x.renderbuffers c.args.id }) (targets_in c.args.targets.now s).es c.args.id o found)) c.requires.known
    ∙ (λ i. record {
      state = record s { es = record s.es { renderbuffers = sym c.in_ok-bind_renderbuffer-2.ensures.ok i; framebuffers = sym c.in_ok-bind_renderbuffer-2.ensures.framebuffers i }; marks = sym (c.in_ok-bind_renderbuffer-2.ensures.made o) i };
      oracle = o;
      reply = reply.None;
    }))
