use Rattle.decode_query.proofs.refusals.word_query_refusal.Goals as goal

pub returns-in-GetValue : goal.returns-in-GetValue
returns-in-GetValue c = λ s. rw c.in-GetValue.is (c.get_value_refusal.ensures s)
