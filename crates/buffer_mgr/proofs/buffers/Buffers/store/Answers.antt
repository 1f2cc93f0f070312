use Rattle.std.proofs.Common.{ap, sym, ◌∙◌}
use Rattle.std.specs.Option.{option_copied_mut}
use Rattle.std.proofs.lemmas.Result.{on_err_weaker}
use Rattle.buffer_mgr.specs.Tables.{tables}
use Rattle.buffer_mgr.proofs.Kept.{kept}
use Rattle.buffer_mgr.proofs.buffers.Buffers.store.Goals as goal

pub returns-clause-err : goal.returns-clause-err
returns-clause-err c = on_err_weaker c.store.result (kept (tables c.args.self.now) c.binding-number.result _ _ (sym c.get_mut.ensures.value ∙ ap option_copied_mut c.in-Some.is)) c.store.ensures.err
