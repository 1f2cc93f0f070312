use Rattle.std.proofs.Common.{refl, inl}
use Rattle.report_text.specs.Ends.{end_text}
use Rattle.gles2_run.proofs.BlocksWritten.{cut_behind}
use Rattle.gles2_run.proofs.closing.write_short.Goals as goal

pub returns : goal.returns
unfolding end_text
returns g c =
    let gained = rw c.as_slice.ensures at c.in-Ok.ensures.whole in
    inl (refl, cut_behind _ _ _ c.args.waiting.now _ c.write_all-2.result gained refl c.write_all-2.ensures.whole c.write_all-2.ensures.part)
