use Rattle.std.proofs.Common.{◌≡◌, Bool, ap, ◌∙◌}
use Rattle.gl_plain.specs.subjects.Values.{is_form_refused}
use Rattle.decode_query.proofs.QueriedState.{by_first, by_neither, by_second}
use Rattle.decode_query.proofs.values.get_value_refusal.Goals as goal

pub returns-then-is_unknown : goal.returns-then-is_unknown
returns-then-is_unknown c = λ s. by_first _ _ c.is_unknown.result (c.is_unknown.ensures s) c.if-is_unknown.true

pub returns-then-is_form_refused : goal.returns-then-is_form_refused
returns-then-is_form_refused c = λ s.
    by_second _ _ c.is_unknown.result c.is_form_refused.result (c.is_unknown.ensures s) c.if-is_unknown.false
    (c.is_form_refused.ensures ∙ ap (λ (floats : Bool). is_form_refused c.args.form floats) c.is_float_name.ensures) c.if-is_form_refused.true

pub returns : goal.returns
returns c = λ s.
    by_neither _ _ c.is_unknown.result c.is_form_refused.result (c.is_unknown.ensures s) c.if-is_unknown.false
    (c.is_form_refused.ensures ∙ ap (λ (floats : Bool). is_form_refused c.args.form floats) c.is_float_name.ensures) c.if-is_form_refused.false
