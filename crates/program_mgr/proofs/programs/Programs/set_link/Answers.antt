use Rattle.std.proofs.Common.{◌∙◌, ap, true, ℕ}
use Rattle.gl_plain.specs.subjects.Programs.{executable_of, link_program_effect}
use Rattle.program_mgr.specs.Tables.{tables}
use Rattle.program_mgr.proofs.Linking.{link_is, sound_elements}
use Rattle.program_mgr.proofs.programs.Programs.set_link.Goals as goal

pub linked-requires-clause-few : goal.linked-requires-clause-few
linked-requires-clause-few c = sound_elements c.args.answer c.requires

pub returns-in-Ok-clause-ok : goal.returns-in-Ok-clause-ok
returns-in-Ok-clause-ok c =
    c.set_executable-in-Ok.ensures
    ∙ link_is (tables c.args.self.now) _ c.args.answer c.in-Ok.executable c.if-not-ok.false (λ p has.
    c.in-Ok.ensures p has ∙ (λ i. executable_of c.args.self.now.shaders p (record { ok = true; log = c.as_slice.ensures i; attributes = c.args.answer.attributes; uniforms = c.args.answer.uniforms })))
    ∙ ap (λ (n : ℕ). link_program_effect (tables c.args.self.now) n c.args.answer) c.number-number.ensures
