use Rattle.std.proofs.Common.{◌∙◌, sym, ap, ◌==◌, Some}
use Rattle.gl_base.specs.declared.gl_enum.GlEnum.{GlEnum}
use Rattle.program_mgr.proofs.Attached.{kind_found}
use Rattle.program_mgr.proofs.programs.Programs.shader_of_kind.Goals as goal

pub returns-then-eq : goal.returns-then-eq
returns-then-eq c =
    kind_found c.args.self.now.shaders c.args.kind c.args.numbers.now c.loop-number.number-index c.loop-number-test.true (Some c.in-Some.shader.now) _ c.in-Some.ensures
    (sym (c.if-eq.ensures ∙ ap (λ (k : GlEnum). k.0 == c.args.kind.0) c.kind.ensures)) c.loop-number.invariant
