use Rattle.std.proofs.Common.{ap, sym, ◌∙◌}
use Rattle.std.specs.Option.{option_copied_mut}
use Rattle.std.proofs.lemmas.Bool.{OnFalse_at, OnFalse_from}
use Rattle.buffer_mgr.specs.Tables.{tables}
use Rattle.buffer_mgr.proofs.Kept.{kept}
use Rattle.buffer_mgr.proofs.buffers.Buffers.change.Goals as goal

pub returns-clause-refused : goal.returns-clause-refused
returns-clause-refused c = OnFalse_from _ _ (λ refused.
    kept (tables c.args.self.now) c.binding-number.result _ _ (sym c.get_mut.ensures.value ∙ ap option_copied_mut c.in-Some.is) (OnFalse_at refused c.change.ensures.refused))
