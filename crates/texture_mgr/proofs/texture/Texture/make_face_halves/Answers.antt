use Rattle.std.proofs.Common.{◌≡◌, ◌+◌, ◌∙◌, false, ap, sym}
use Rattle.gl_base.specs.declared.limits.TheConstants.{LAST_LEVEL}
use Rattle.gl_plain.specs.declared.textures.Texture.{Texture}
use Rattle.gl_plain.specs.subjects.Completeness.{is_last}
use Rattle.texture_mgr.specs.Covered.{cover_of}
use Rattle.texture_mgr.proofs.HalfSteps.{levels_step, written_step}
use Rattle.texture_mgr.proofs.texture.Texture.make_face_halves.Goals as goal

pub loop-level-preserved : goal.loop-level-preserved
loop-level-preserved c =
    let more : is_last c.loop-level.last ≡ false = sym c.is_last.ensures ∙ c.if-is_last.false in
    record {
      kind = ap (λ (t : Texture). t.cube) c.set_level.ensures.table ∙ c.loop-level.invariant.kind;
      table = levels_step c.args.face c.loop-level.last c.halved-last.result c.loop-level.level (LAST_LEVEL + 1) c.loop-level-test.true c.halved-last.ensures more c.loop-level.self.table c.set_level.new.self.table c.set_level.ensures.table
          ∙ c.loop-level.invariant.table;
      covers = written_step c.args.face c.loop-level.last c.halved-last.result c.loop-level.level (LAST_LEVEL + 1) c.loop-level-test.true c.halved-last.ensures more (cover_of c.loop-level.self) (cover_of c.set_level.new.self)
          c.set_level.ensures.covers
          ∙ c.loop-level.invariant.covers;
    }
