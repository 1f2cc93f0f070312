use Rattle.std.proofs.Common.{◌≡◌, ◌∙◌, None, rules, of_z, to_z}
use Rattle.std.specs.Int.{w32}
use Rattle.gl_plain.specs.Words.{natural}
use Rattle.gl_plain.specs.subjects.Draws.{check_of, draw_view}
use Rattle.decode_draw.specs.States.{sources}
use Rattle.decode_draw.specs.Judged.{with_units}
use Rattle.decode_draw.proofs.views.check_arrays.Goals as goal

pub returns : goal.returns
returns c surface =
    let one : to_z w32 (of_z w32 c.args.first) ≡ c.args.first = search rules in
    let many : to_z w32 (of_z w32 c.args.count) ≡ c.args.count = search rules in
    let viewed : c.draw_view-view.result ≡ draw_view (sources surface c.args.buffers.now c.args.textures.now c.args.targets.now c.args.programs.now c.args.attribs.now) c.args.mode None (natural c.args.count) = c.draw_view-view.ensures surface in
    let checked : c.judge_view.result ≡ with_units c.draw_view-view.result.units c.target.result (check_of c.draw_view-view.result c.args.first c.args.count) = rw (one, many) at c.judge_view.ensures in
    checked ∙ (λ i. with_units (viewed i).units (c.target.ensures i) (check_of (viewed i) c.args.first c.args.count))
