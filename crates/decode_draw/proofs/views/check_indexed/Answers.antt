use Rattle.std.proofs.Common.{◌≡◌, ◌∙◌, pos, Some, None, refl, rules, of_z, to_z}
use Rattle.std.specs.Int.{w32}
use Rattle.gl_plain.specs.Words.{natural}
use Rattle.gl_plain.specs.subjects.Draws.{check_of, draw_view, index_view, index_words}
use Rattle.decode_draw.specs.States.{sources}
use Rattle.decode_draw.specs.Judged.{with_units}
use Rattle.decode_draw.proofs.views.check_indexed.Goals as goal

pub returns : goal.returns
returns c surface =
    let read = sources surface c.args.buffers.now c.args.textures.now c.args.targets.now c.args.programs.now c.args.attribs.now in
    let many : to_z w32 (of_z w32 c.args.count) ≡ c.args.count = search rules in
    let indices : c.index_view-indices.result ≡ index_view read (natural c.args.count) (index_words c.args.kind c.args.offset) = rw many at c.index_view-indices.ensures read refl refl in
    let viewed : c.draw_view-view.result ≡ draw_view read c.args.mode (Some (index_words c.args.kind c.args.offset)) (natural c.args.count) =
    c.draw_view-view.ensures surface ∙ (λ i. record (draw_view read c.args.mode None 0) { indexed = Some (indices i) }) in
    let checked : c.judge_view.result ≡ with_units c.draw_view-view.result.units c.target.result (check_of c.draw_view-view.result (pos 0) c.args.count) = rw many at c.judge_view.ensures in
    checked ∙ (λ i. with_units (viewed i).units (c.target.ensures i) (check_of (viewed i) (pos 0) c.args.count))
