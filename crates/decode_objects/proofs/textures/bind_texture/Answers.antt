use Rattle.std.proofs.Common.{◌∙◌, ap, refl, []}
use Rattle.gl_plain.specs.Oracle.{default_answers}
use Rattle.gl_plain.specs.Spaces.{Textures}
use Rattle.gl_plain.specs.driver.Answers.{told}
use Rattle.gl_plain.specs.object.Calls.{bind_calls, bind_texture_call}
use Rattle.decode_objects.proofs.textures.bind_texture.Goals as goal

pub bind_known-requires-clause-allowed : goal.bind_known-requires-clause-allowed
bind_known-requires-clause-allowed g c =
    c.requires.may default_answers [] (bind_texture_call c.args.target c.in-Some.name.number) [] tt (ap (bind_calls Textures (bind_texture_call c.args.target) c.args.id default_answers) c.in-Some.ensures)

pub bind_new-requires-clause-may : goal.bind_new-requires-clause-may
bind_new-requires-clause-may g c o es next more legal h = c.requires.may o es next more legal (h ∙ ap (bind_calls Textures (bind_texture_call c.args.target) c.args.id (told es o)) c.in-None.ensures)

pub unbind-requires-clause-allowed : goal.unbind-requires-clause-allowed
unbind-requires-clause-allowed g c =
    c.requires.may default_answers [] (bind_texture_call c.args.target 0) [] tt ((rw c.if-id-eq0.true refl) ∙ ap (bind_calls Textures (bind_texture_call c.args.target) c.args.id default_answers) c.in-None.ensures)
