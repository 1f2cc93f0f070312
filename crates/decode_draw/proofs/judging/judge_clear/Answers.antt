use Rattle.std.proofs.Common.{◌≡◌, ◌∙◌, ℕ, ◌==◌, Bool, not, Ok, sym, ap}
use Rattle.gl_plain.specs.subjects.Targets.{target_of}
use Rattle.target_mgr.specs.Tables.{framebuffers}
use Rattle.decode_draw.specs.Judged.{drawn_to, judged_clear}
use Rattle.decode_draw.proofs.Drawings.{apart}
use Rattle.decode_draw.proofs.judging.judge_clear.Goals.{then-mask-eq0, else-mask-eq0}
use Rattle.decode_draw.proofs.judging.judge_clear.Goals as goal

pub returns-in-Some : goal.returns-in-Some
returns-in-Some c surface = ap (judged_clear (target_of (framebuffers c.args.targets.now)) c.args.mask) (sym c.in-Some.is ∙ c.clear_refusal.ensures surface)

pub returns : goal.returns
returns c surface =
    let goes : c.if-mask-eq0.result ≡ drawn_to (not (c.args.mask == 0)) (target_of (framebuffers c.args.targets.now)) = elim c.if-mask-eq0.branch [
      | then-mask-eq0 w ↦ w.result-is ∙ ap (λ (n : ℕ). drawn_to (not (n == 0)) (target_of (framebuffers c.args.targets.now))) (sym w.if-mask-eq0.true)
      | else-mask-eq0 w ↦ w.result-is ∙ c.target-target.ensures ∙ ap (λ (b : Bool). drawn_to (not b) (target_of (framebuffers c.args.targets.now))) (sym (apart c.args.mask w.if-mask-eq0.false))
    ] in
    (λ i. Ok (record { plan = (c.nothing.ensures i).plan; units = (c.nothing.ensures i).units; target = goes i })) ∙ ap (judged_clear (target_of (framebuffers c.args.targets.now)) c.args.mask) (sym c.in_default.is ∙ c.clear_refusal.ensures surface)
