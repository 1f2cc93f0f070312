use Rattle.std.proofs.Common.{◌≡◌, ◌∙◌, rules, of_z, to_z, sym, ap}
use Rattle.std.specs.Int.{w32}
use Rattle.decode_draw.specs.States.{sources}
use Rattle.decode_draw.specs.Judged.{judged}
use Rattle.decode_draw.proofs.judging.judge.Goals as goal

pub returns-in-Clear : goal.returns-in-Clear
returns-in-Clear c surface = c.judge_clear.ensures surface ∙ ap (judged (sources surface c.args.buffers.now c.args.textures.now c.args.targets.now c.args.programs.now c.args.attribs.now)) (sym c.in-Clear.is)

pub returns-in-DrawArrays : goal.returns-in-DrawArrays
returns-in-DrawArrays c surface =
    let one : to_z w32 (of_z w32 c.in-DrawArrays.first) ≡ c.in-DrawArrays.first = search rules in
    let many : to_z w32 (of_z w32 c.in-DrawArrays.count) ≡ c.in-DrawArrays.count = search rules in
    rw (c.in-DrawArrays.is, ← one, ← many) (c.check_arrays.ensures surface)

pub returns-in-DrawElements : goal.returns-in-DrawElements
returns-in-DrawElements c surface =
    let many : to_z w32 (of_z w32 c.in-DrawElements.count) ≡ c.in-DrawElements.count = search rules in
    rw (c.in-DrawElements.is, ← many) (c.check_indexed.ensures surface)
