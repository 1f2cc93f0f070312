-- That each turn of the loop puts the next row behind those that stand.
use Rattle.std.proofs.Common.{◌≡◌, ◌<◌, ◌∙◌, ℕ, List, ◌+◌, ◌-◌, ◌*◌, ◌++◌, take, drop, ap, arith}
use Rattle.std.specs.Prelude.{replicate}
use Rattle.decode_query.proofs.Padded.{rows_left, next_row, with_zeros}
use Rattle.decode_query.proofs.rows.with_padding.Goals as goal
use Rattle.decode_query.proofs.rows.with_padding.Goals.{then-y-gt0+in_ok-resize, else-y-gt0}

pub loop-y-preserved : goal.loop-y-preserved
loop-y-preserved c =
    let within : c.loop-y.y < c.args.height = omega arith in
    let count : c.loop-y.y * c.args.row + c.args.row - c.loop-y.y * c.args.row ≡ c.args.row = omega arith in
    let begins : c.loop-y.y ≡ 0 → c.if-y-gt0.all.items ≡ c.loop-y.all.items = λ none. elim c.if-y-gt0.branch [
      | then-y-gt0+in_ok-resize w ↦ absurd (omega (arith, w.if-y-gt0.true, none))
      | else-y-gt0 w ↦ ap (λ v. v.items) w.all-is
    ] in
    let goes : 0 < c.loop-y.y → c.if-y-gt0.all.items ≡ c.loop-y.all.items ++ replicate c.args.gap 0 = λ some. elim c.if-y-gt0.branch [
      | then-y-gt0+in_ok-resize w ↦ ap (λ v. v.items) w.all-is ∙ w.in_ok-resize.ensures.items ∙ with_zeros w.len.result _ c.args.gap c.loop-y.all.items w.len.ensures (omega (arith, c.loop-y.all.ok.0))
      | else-y-gt0 w ↦ absurd (omega (arith, w.if-y-gt0.false, some))
    ] in
    ap (λ (items : List ℕ). items ++ rows_left (c.loop-y.y + 1) (c.args.height - (c.loop-y.y + 1)) c.args.row c.args.gap (drop ((c.loop-y.y + 1) * c.args.row) c.args.bytes.now))
    (c.in_ok-extend_from_slice.ensures.items ∙ ap (λ (n : ℕ). c.if-y-gt0.all.items ++ take n (drop (c.loop-y.y * c.args.row) c.args.bytes.now)) count)
    ∙ next_row c.args.height c.args.row c.args.gap c.loop-y.y c.loop-y.all.items c.if-y-gt0.all.items c.args.bytes.now _ within begins goes c.loop-y.invariant
