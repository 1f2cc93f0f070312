use Rattle.std.proofs.Common.{◌≡◌, ◌≤◌, ◌+◌, ◌∙◌, ℕ, ℤ, sym, ap, arith, w32, length, Some}
use Rattle.std.proofs.lemmas.Int.{to_z-of_z}
use Rattle.gl_plain.specs.declared.programs.Executable.{Executable}
use Rattle.gl_plain.specs.subjects.Links.{words_in}
use Rattle.gl_plain.specs.subjects.Uniforms.{place_of}
use Rattle.program_mgr.specs.Elements.{element_of}
use Rattle.program_mgr.proofs.Locations.{element_inside}
use Rattle.program_mgr.proofs.executable.Executable.words_at.Goals as goal

pub words_from-requires : goal.words_from-requires
words_from-requires c =
    let here : place_of c.args.self.now.answer.uniforms c.args.location ≡ Some (element_of c.in_ok-element.element) =
    sym (ap (λ (l : ℤ). place_of c.args.self.now.answer.uniforms l) (to_z-of_z w32 c.args.location c.ranges.location)) ∙ sym c.in_ok-element.ensures in
    let len : length c.self.inside.values.items ≡ words_in c.args.self.now.answer.uniforms = c.self.invariant.1 ∙ ap (λ (e : Executable). words_in e.answer.uniforms) c.self.view_is in
    let inside = element_inside c.args.self.now.answer.uniforms c.args.location (element_of c.in_ok-element.element) here in
    rw (c.as_slice.ensures.value, c.words_of-words.ensures.words) (omega (arith, inside, len))
