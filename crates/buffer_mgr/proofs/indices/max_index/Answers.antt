use Rattle.std.proofs.Common.{◌∙◌, sym, refl}
use Rattle.buffer_mgr.proofs.Greatest.{byte_answer, short_answer}
use Rattle.buffer_mgr.proofs.indices.max_index.Goals as goal

pub returns-then-eq : goal.returns-then-eq
returns-then-eq c =
    byte_answer c.args.bytes.now c.args.offset c.args.count c.if-count-eq0.false c.args.kind c.index_size.result c.greatest_byte.result c.index_size.ensures.size c.if-bytes-end.false
    (sym c.eq.ensures ∙ c.if-eq.true) c.greatest_byte.ensures

pub returns-else-eq : goal.returns-else-eq
returns-else-eq c =
    short_answer c.args.bytes.now c.args.offset c.args.count c.if-count-eq0.false c.args.kind c.index_size.result c.greatest_short.result c.index_size.ensures.size c.if-bytes-end.false
    c.requires (sym c.eq.ensures ∙ c.if-eq.false) _ refl c.greatest_short.ensures
