use Rattle.std.proofs.Common.{◌∙◌}
use Rattle.texture_mgr.specs.Covered.{cover_of}
use Rattle.texture_mgr.proofs.HalfSteps.{faces_step, faces_written_step}
use Rattle.texture_mgr.proofs.texture.Texture.make_all_halves.Goals as goal

pub loop-index-preserved : goal.loop-index-preserved
loop-index-preserved c = record {
  kind = c.make_face_halves.ensures.kind ∙ c.loop-index.invariant.kind;
  table = faces_step c.args.base c.first_face-first.result.0 c.loop-index.index c.face_count-count.result c.loop-index-test.true c.loop-index.self.table c.make_face_halves.new.self.table c.make_face_halves.ensures.table
      ∙ c.loop-index.invariant.table;
  covers = faces_written_step c.args.base c.first_face-first.result.0 c.loop-index.index c.face_count-count.result c.loop-index-test.true (cover_of c.loop-index.self) (cover_of c.make_face_halves.new.self) c.make_face_halves.ensures.covers
      ∙ c.loop-index.invariant.covers;
}
