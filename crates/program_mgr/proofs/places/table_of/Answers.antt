use Rattle.std.proofs.Common.{arith, ap, ◌∙◌, ℕ, ◌++◌}
use Rattle.program_mgr.specs.Places.{element_places}
use Rattle.program_mgr.proofs.Locations.{uniform_more, words_more, words_bound}
use Rattle.program_mgr.proofs.places.table_of.Goals as goal

pub loop-index-preserved : goal.loop-index-preserved
loop-index-preserved c = rw c.words_of-step.ensures.words (record {
  rest = uniform_more c.loop-index.places.items _ _ c.args.uniforms.now c.index-uniforms-index.result c.index-uniforms-index.result c.loop-index.index c.loop-index.words c.loop-index-test.true c.index-uniforms-index.is
      (c.in_ok-add_elements.ensures ∙ ap (λ (step : ℕ). c.loop-index.places.items ++ element_places c.loop-index.index step 0 c.loop-index.words c.index-uniforms-index.result.size) c.words_of-step.ensures.words)
      c.loop-index.invariant.rest;
  words = words_more c.args.uniforms.now c.index-uniforms-index.result c.index-uniforms-index.result c.loop-index.index c.loop-index.words _ c.loop-index-test.true c.index-uniforms-index.is c.loop-index.invariant.words;
})

pub add_elements-requires : goal.add_elements-requires
add_elements-requires c = rw c.words_of-step.ensures.words (omega (
  arith,
  words_bound c.args.uniforms.now,
  c.requires,
  words_more c.args.uniforms.now c.index-uniforms-index.result c.index-uniforms-index.result c.loop-index.index c.loop-index.words _ c.loop-index-test.true c.index-uniforms-index.is c.loop-index.invariant.words,
))

pub overflow_add-words : goal.overflow_add-words
overflow_add-words c = rw c.words_of-step.ensures.words (omega (
  arith,
  words_bound c.args.uniforms.now,
  c.requires,
  words_more c.args.uniforms.now c.index-uniforms-index.result c.index-uniforms-index.result c.loop-index.index c.loop-index.words _ c.loop-index-test.true c.index-uniforms-index.is c.loop-index.invariant.words,
))
