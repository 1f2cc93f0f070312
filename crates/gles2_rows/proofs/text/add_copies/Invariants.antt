use Rattle.std.proofs.Common.{◌≡◌, ◌++◌}
use Rattle.gles2_rows.specs.Texts.{copies}
use Rattle.gles2_rows.proofs.text.add_copies.Given as goal

abbrev pub invariant-loop : goal.invariant-loop
invariant-loop l = l.out.items ≡ l.fn.out.items ++ copies l.counter l.one.items
