use Rattle.gl_plain.specs.subjects.Copies.{copy_image, is_wrong_source}
use Rattle.gl_plain.specs.subjects.Images.{is_level, has_good_sides, is_zero}
use Rattle.gl_plain.specs.subjects.Targets.{is_incomplete}
use Rattle.std.proofs.Common.{not, ◌&&◌}
use Rattle.whole_images.specs.Views.{drawable}
use Rattle.decode_images.proofs.CopiesRefused.{by_tests}
use Rattle.decode_images.proofs.refusals.copy_tex_image_refusal.Goals as goal

pub returns-then-names_no_copy : goal.returns-then-names_no_copy
returns-then-names_no_copy c surface =
    let b = drawable surface c.args.textures.now c.args.targets.now in
    λ i. by_tests (c.if-names_no_copy.ensures i) (not (is_level c.args.copy.level && has_good_sides (copy_image c.args.copy) && is_zero c.args.copy.border)) (is_incomplete b) (is_wrong_source b c.args.copy.target c.args.copy.internal)

pub returns-then-has_bad_sides : goal.returns-then-has_bad_sides
returns-then-has_bad_sides c surface =
    let b = drawable surface c.args.textures.now c.args.targets.now in
    λ i. by_tests (c.if-names_no_copy.ensures i) (c.if-has_bad_sides.ensures i) (is_incomplete b) (is_wrong_source b c.args.copy.target c.args.copy.internal)

pub returns-then-is_incomplete : goal.returns-then-is_incomplete
returns-then-is_incomplete c surface =
    let b = drawable surface c.args.textures.now c.args.targets.now in
    λ i. by_tests (c.if-names_no_copy.ensures i) (c.if-has_bad_sides.ensures i) (c.if-is_incomplete.ensures surface i) (is_wrong_source b c.args.copy.target c.args.copy.internal)

pub returns-then-is_wrong_source : goal.returns-then-is_wrong_source
returns-then-is_wrong_source c surface = λ i. by_tests (c.if-names_no_copy.ensures i) (c.if-has_bad_sides.ensures i) (c.if-is_incomplete.ensures surface i) (c.if-is_wrong_source.ensures surface i)

pub returns : goal.returns
returns c surface = λ i. by_tests (c.if-names_no_copy.ensures i) (c.if-has_bad_sides.ensures i) (c.if-is_incomplete.ensures surface i) (c.if-is_wrong_source.ensures surface i)
