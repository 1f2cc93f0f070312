use Rattle.std.proofs.Common.{arith, rules}
use Rattle.gl_plain.proofs.SoundAnswers.{sound_answers}
use Rattle.ring_script.proofs.FirstBad.{first_bad}
use Rattle.ring_script.proofs.Soundness.{sound_with}
use Rattle.ring_script.proofs.script.read_script.Goals as goal

pub returns-then-not-is_taken-clause-first : goal.returns-then-not-is_taken-clause-first
returns-then-not-is_taken-clause-first c = λ k is. first_bad c.args.text.now k (search rules)

pub reading-preserved : goal.reading-preserved
reading-preserved c = record {
  same = grind arith;
  count = grind arith;
  sound = sound_with c.first_line.result.0.now c.reading.draft c.take_text.new.draft c.reading.invariant.sound (search rules);
}

pub returns-clause-answers : goal.returns-clause-answers
returns-clause-answers c = rw c.in_ok-into_script.ensures (sound_answers c.reading.draft.answers c.reading.invariant.sound.answers)
