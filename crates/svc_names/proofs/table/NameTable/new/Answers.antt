-- That a new table has no names to count.
use Rattle.std.proofs.Common.{arith, ap, sym, ◌∙◌}
use Rattle.gl_base.specs.Names.{is_ordinary, ordinary_count}
use Rattle.gl_base.proofs.Counted.{len_retain-empty}
use Rattle.svc_names.proofs.Words.{words-empty}
use Rattle.svc_names.proofs.table.NameTable.new.Goals as goal

pub invariant_of-result : goal.invariant_of-result
invariant_of-result g c = (sym (ap ordinary_count c.new.ensures ∙ len_retain-empty _ is_ordinary), omega arith, words-empty _ c.new.ensures)
