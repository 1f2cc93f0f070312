use Rattle.std.proofs.Common.{◌≡◌, ◌∙◌, true, not, sym, ap, rules, of_z, to_z}
use Rattle.std.specs.Int.{w32}
use Rattle.gl_plain.specs.Words.{natural}
use Rattle.gl_plain.specs.subjects.Copies.{copy_part_level, is_wrong_part}
use Rattle.gl_plain.specs.subjects.Levels.{is_image_target}
use Rattle.gl_plain.specs.subjects.Targets.{is_incomplete}
use Rattle.gl_plain.specs.subjects.Textures.{level_at, place_bound}
use Rattle.texture_mgr.specs.Tables.{tables}
use Rattle.whole_images.specs.Views.{drawable}
use Rattle.decode_images.proofs.CopiesRefused.{by_tests, bad_by}
use Rattle.decode_images.proofs.refusals.copy_tex_sub_image_refusal.Goals as goal

pub returns-then-is_bad_part : goal.returns-then-is_bad_part
returns-then-is_bad_part c surface =
    let b = drawable surface c.args.textures.now c.args.targets.now in
    let level : to_z w32 (of_z w32 c.args.copy.level) ≡ c.args.copy.level = search rules in
    let image : is_image_target c.args.copy.target ≡ true = search rules in
    let here : c.level-level.result ≡ copy_part_level (tables c.args.textures.now).objects c.args.copy =
    c.level-level.ensures ∙ ap (level_at (tables c.args.textures.now).objects) (c.place_bound-place.ensures ∙ ap (place_bound (tables c.args.textures.now).objects c.args.copy.target) (c.natural.ensures ∙ ap natural level)) in
    λ i. by_tests (not (sym image i)) ((c.if-is_bad_part.ensures ∙ ap (bad_by c.args.copy) here) i) (is_incomplete b) (is_wrong_part b c.args.copy.target (copy_part_level (tables c.args.textures.now).objects c.args.copy))

pub returns-then-is_incomplete : goal.returns-then-is_incomplete
returns-then-is_incomplete c surface =
    let b = drawable surface c.args.textures.now c.args.targets.now in
    let level : to_z w32 (of_z w32 c.args.copy.level) ≡ c.args.copy.level = search rules in
    let image : is_image_target c.args.copy.target ≡ true = search rules in
    let here : c.level-level.result ≡ copy_part_level (tables c.args.textures.now).objects c.args.copy =
    c.level-level.ensures ∙ ap (level_at (tables c.args.textures.now).objects) (c.place_bound-place.ensures ∙ ap (place_bound (tables c.args.textures.now).objects c.args.copy.target) (c.natural.ensures ∙ ap natural level)) in
    λ i. by_tests (not (sym image i)) ((c.if-is_bad_part.ensures ∙ ap (bad_by c.args.copy) here) i) (c.if-is_incomplete.ensures surface i) (is_wrong_part b c.args.copy.target (copy_part_level (tables c.args.textures.now).objects c.args.copy))

pub returns-then-is_wrong_part : goal.returns-then-is_wrong_part
returns-then-is_wrong_part c surface =
    let b = drawable surface c.args.textures.now c.args.targets.now in
    let level : to_z w32 (of_z w32 c.args.copy.level) ≡ c.args.copy.level = search rules in
    let image : is_image_target c.args.copy.target ≡ true = search rules in
    let here : c.level-level.result ≡ copy_part_level (tables c.args.textures.now).objects c.args.copy =
    c.level-level.ensures ∙ ap (level_at (tables c.args.textures.now).objects) (c.place_bound-place.ensures ∙ ap (place_bound (tables c.args.textures.now).objects c.args.copy.target) (c.natural.ensures ∙ ap natural level)) in
    λ i. by_tests (not (sym image i)) ((c.if-is_bad_part.ensures ∙ ap (bad_by c.args.copy) here) i) (c.if-is_incomplete.ensures surface i) ((c.if-is_wrong_part.ensures surface ∙ ap (is_wrong_part b c.args.copy.target) here) i)

pub returns : goal.returns
returns c surface =
    let b = drawable surface c.args.textures.now c.args.targets.now in
    let level : to_z w32 (of_z w32 c.args.copy.level) ≡ c.args.copy.level = search rules in
    let image : is_image_target c.args.copy.target ≡ true = search rules in
    let here : c.level-level.result ≡ copy_part_level (tables c.args.textures.now).objects c.args.copy =
    c.level-level.ensures ∙ ap (level_at (tables c.args.textures.now).objects) (c.place_bound-place.ensures ∙ ap (place_bound (tables c.args.textures.now).objects c.args.copy.target) (c.natural.ensures ∙ ap natural level)) in
    λ i. by_tests (not (sym image i)) ((c.if-is_bad_part.ensures ∙ ap (bad_by c.args.copy) here) i) (c.if-is_incomplete.ensures surface i) ((c.if-is_wrong_part.ensures surface ∙ ap (is_wrong_part b c.args.copy.target) here) i)
