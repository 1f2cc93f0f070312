use Rattle.std.proofs.Common.{◌≡◌, ◌+◌, ◌∙◌, ap, sym, arith}
use Rattle.std.specs.Option.{option_copied_mut}
use Rattle.std.proofs.lemmas.Grind.{common_steps}
use Rattle.program_mgr.proofs.Linking.{on_err, attached_is, unchanged_is}
use Rattle.program_mgr.proofs.programs.Programs.attach_object.Goals as goal

pub returns-in_err-attach-clause-err : goal.returns-in_err-attach-clause-err
returns-in_err-attach-clause-err c =
    on_err c.from_residual.result (unchanged_is c.args.self.now c.args.program _ _ (sym c.get_mut.ensures.value ∙ ap option_copied_mut c.in-Some-get_mut.is) c.in_err-attach.ensures.err)

pub returns-in-Some-get_mut-2-clause-ok : goal.returns-in-Some-get_mut-2-clause-ok
returns-in-Some-get_mut-2-clause-ok c =
    let more : c.in-Some-checked_add.attachments ≡ c.in-Some.object.now.attachments + 1 = grind (arith, common_steps, c.in-Some-checked_add.ensures, c.attachments.ensures) in
    attached_is c.args.self.now c.args.program c.args.shader _ _ c.in-Some.object.now _ _ _ (sym c.get_mut.ensures.value ∙ ap option_copied_mut c.in-Some-get_mut.is) c.in_ok-attach.ensures.ok
    c.in-Some.ensures (sym c.get_mut-2.ensures.value ∙ ap option_copied_mut c.in-Some-get_mut-2.is) more c.set_attachments.ensures
