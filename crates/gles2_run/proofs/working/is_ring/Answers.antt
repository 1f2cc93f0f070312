use Rattle.std.proofs.Common.{ℕ, List, [], ◌∷◌, sym, ◌∙◌, ap, map, arith, string_bytes}
use Rattle.std.specs.Prelude.{codes}
use Rattle.std.proofs.lemmas.Bool.Decides.{Decides-eqb}
use Rattle.std.proofs.lemmas.Slice.Eq.{slice_eq-Decides}
use Rattle.gles2_run.proofs.Runs.{one_word}
use Rattle.gles2_run.proofs.working.is_ring.Goals as goal

pub returns-in-len1 : goal.returns-in-len1
returns-in-len1 c =
    let d = slice_eq-Decides Decides-eqb c.as_str.result.now (codes "ring") c.eq.result c.eq.ensures in
    let one = ap (map string_bytes) (one_word c.args.words.now c.word-item.result (omega arith) c.word-item.is) in (
      λ t. one ∙ ap (λ (b : List ℕ). b ∷ []) (sym c.as_str.ensures.value ∙ d.0 t),
      λ e. d.1 (c.as_str.ensures.value ∙ (let h = sym one ∙ e in cc)),
    )
