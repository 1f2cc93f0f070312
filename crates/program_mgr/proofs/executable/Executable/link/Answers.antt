use Rattle.std.proofs.Common.{◌≡◌, ◌∙◌, ap, arith, List}
use Rattle.gl_plain.specs.declared.programs.Uniform.{Uniform}
use Rattle.gl_plain.specs.subjects.Links.{words_in}
use Rattle.program_mgr.specs.Places.{table_from}
use Rattle.program_mgr.proofs.Locations.{is_table}
use Rattle.program_mgr.proofs.executable.Executable.link.Goals as goal

pub invariant_of-result : goal.invariant_of-result
invariant_of-result c = (
  is_table c.args.uniforms c.in_ok-places.field-0.places.items (c.in_ok-places.ensures.places ∙ ap (λ (us : List Uniform). table_from us 0 0) c.as_slice.ensures),
  (let words : c.in_ok-places.field-0.words ≡ words_in c.args.uniforms = c.in_ok-places.ensures.words ∙ ap words_in c.as_slice.ensures in
      omega (arith, words, c.in_ok-values.ensures.len, c.in_ok-places.words-is)),
  c.requires,
)
