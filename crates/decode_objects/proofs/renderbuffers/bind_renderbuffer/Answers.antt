use Rattle.std.proofs.Common.{◌∙◌, ap, []}
use Rattle.gl_plain.specs.Oracle.{default_answers}
use Rattle.gl_plain.specs.Spaces.{Renderbuffers}
use Rattle.gl_plain.specs.driver.Answers.{told}
use Rattle.gl_plain.specs.object.Calls.{bind_calls, bind_renderbuffer_call}
use Rattle.decode_objects.proofs.renderbuffers.bind_renderbuffer.Goals as goal

pub bind_known-requires-clause-allowed : goal.bind_known-requires-clause-allowed
bind_known-requires-clause-allowed g c =
    c.requires.may default_answers [] (bind_renderbuffer_call c.in-Some.name.number) [] tt (ap (bind_calls Renderbuffers bind_renderbuffer_call c.args.id default_answers) c.in-Some.ensures)

pub bind_new-requires-clause-may : goal.bind_new-requires-clause-may
bind_new-requires-clause-may g c o es next more legal h = c.requires.may o es next more legal (h ∙ ap (bind_calls Renderbuffers bind_renderbuffer_call c.args.id (told es o)) c.in-None.ensures)
