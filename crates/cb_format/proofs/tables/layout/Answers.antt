-- The tables are read at the number.
use Rattle.std.proofs.Common.{◌∙◌, ◌-◌, sym, arith}
use Rattle.cb_format.specs.declared.tables.TheConstants.{BUFFER_LAYOUTS, GL_LAYOUTS}
use Rattle.cb_format.proofs.Numbered.{copied_item, layout_of_buffer, layout_of_gl}
use Rattle.cb_format.proofs.Fitting.{layout_of_fits}
use Rattle.cb_format.proofs.tables.layout.Goals as goal

pub returns-then-number-lt-FIRST_OF_GL : goal.returns-then-number-lt-FIRST_OF_GL
returns-then-number-lt-FIRST_OF_GL c =
    let value = copied_item BUFFER_LAYOUTS c.args.number c.get.result c.copied.result c.get.ensures.lookup c.copied.ensures ∙ sym (layout_of_buffer c.args.number c.if-number-lt-FIRST_OF_GL.true) in
    record { value = value; fitting = rw value (layout_of_fits c.args.number) }

pub returns-else-number-lt-FIRST_OF_GL : goal.returns-else-number-lt-FIRST_OF_GL
returns-else-number-lt-FIRST_OF_GL c =
    let get = c.get-else-number-lt-FIRST_OF_GL in
    let copied = c.copied-else-number-lt-FIRST_OF_GL in
    let value = copied_item GL_LAYOUTS (c.args.number - 256) get.result copied.result get.ensures.lookup copied.ensures ∙ sym (layout_of_gl c.args.number (c.args.number - 256) (omega arith)) in
    record { value = value; fitting = rw value (layout_of_fits c.args.number) }
