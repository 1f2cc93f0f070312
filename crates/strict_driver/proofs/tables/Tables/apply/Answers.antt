-- That the tables follow the journal by one entry.
use Rattle.gl_plain.specs.State.{opening_tables}
use Rattle.gl_plain.specs.subjects.Images.{opening_contents}
use Rattle.strict_driver.specs.TableState.{left_by}
use Rattle.strict_driver.proofs.Kept.{where_ok}
use Rattle.strict_driver.proofs.TableSteps.{at_once, settled, allowed_alone, answered_alone, image_fits, object_follows, image_follows, program_follows, drawing_follows}
use Rattle.strict_driver.proofs.tables.Tables.apply.Goals as goal

pub apply_object-requires-clause-allowed : goal.apply_object-requires-clause-allowed
apply_object-requires-clause-allowed c =
    let t = (left_by c.args.self.now.surface c.args.journal.now).tables in
    allowed_alone c.args.journal.now c.args.self.now t (opening_tables c.args.self.now.surface) c.in-Object.call (at_once t c.args.journal.now c.args.self.now c.requires.follow) (rw c.in-Object.is at c.requires.allowed)

pub apply_object-requires-clause-answered : goal.apply_object-requires-clause-answered
apply_object-requires-clause-answered c =
    let d = left_by c.args.self.now.surface c.args.journal.now in
    answered_alone c.args.journal.now c.args.self.now d (opening_tables c.args.self.now.surface) opening_contents c.in-Object.call c.args.answer.now (at_once d.tables c.args.journal.now c.args.self.now c.requires.follow) (rw c.in-Object.is at c.requires.answered)

pub apply_object-requires-clause-settled : goal.apply_object-requires-clause-settled
apply_object-requires-clause-settled c = settled (left_by c.args.self.now.surface c.args.journal.now).tables c.args.journal.now c.args.self.now c.requires.follow

pub returns-in-Object-clause-ok : goal.returns-in-Object-clause-ok
returns-in-Object-clause-ok c =
    rw c.in-Object.is (where_ok c.apply_object.result (λ after.
    object_follows (left_by c.args.self.now.surface c.args.journal.now).tables c.args.journal.now c.args.self.now c.apply_object.new.self c.in-Object.call c.args.answer.now c.requires.follow after)
    c.apply_object.ensures.ok)

pub returns-in-Program-clause-ok : goal.returns-in-Program-clause-ok
returns-in-Program-clause-ok c = rw c.in-Program.is (program_follows (left_by c.args.self.now.surface c.args.journal.now).tables c.args.journal.now c.args.self.now c.in-Program.field-0 c.args.answer.now c.requires.follow)

pub apply_image-requires : goal.apply_image-requires
apply_image-requires c =
    let d = left_by c.args.self.now.surface c.args.journal.now in
    image_fits c.args.journal.now c.args.self.now d c.in-Image.call (at_once d.tables c.args.journal.now c.args.self.now c.requires.follow) (rw c.in-Image.is at c.requires.allowed)

pub returns-in-Image-clause-ok : goal.returns-in-Image-clause-ok
returns-in-Image-clause-ok c =
    rw c.in-Image.is (where_ok c.apply_image.result (λ after.
    image_follows (left_by c.args.self.now.surface c.args.journal.now).tables c.args.journal.now c.args.self.now c.apply_image.new.self c.in-Image.call c.args.answer.now c.requires.follow after)
    c.apply_image.ensures.ok)

pub returns-in-Draw-clause-ok : goal.returns-in-Draw-clause-ok
returns-in-Draw-clause-ok c =
    rw c.in-Draw.is (drawing_follows (left_by c.args.self.now.surface c.args.journal.now).tables c.args.journal.now c.args.self.now c.apply_draw.new.self c.in-Draw.call c.args.answer.now c.requires.follow c.apply_draw.ensures.state)
