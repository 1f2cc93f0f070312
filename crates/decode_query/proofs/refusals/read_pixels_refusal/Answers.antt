use Rattle.std.proofs.Common.{◌≡◌, true, ◌∙◌, sym, rules, of_z, to_z}
use Rattle.std.specs.Int.{w32}
use Rattle.gl_plain.specs.subjects.Copies.{is_any_pixel}
use Rattle.whole_images.specs.Views.{drawable}
use Rattle.decode_query.proofs.Refused.{not_negative, refuses_incomplete, refuses_format, refuses_colourless, refuses_nothing}
use Rattle.decode_query.proofs.refusals.read_pixels_refusal.Goals as goal
use Rattle.decode_query.proofs.refusals.read_pixels_refusal.Goals.{then-is_format, else-is_format}
use Rattle.decode_query.proofs.refusals.read_pixels_refusal.Goals.{then-not-is_read_format-via-then-not-is_read_format, then-not-is_read_format-via-else-not-is_read_format+then-has_no_colours}

pub returns-then-is_incomplete : goal.returns-then-is_incomplete
returns-then-is_incomplete c surface =
    let width : to_z w32 (of_z w32 c.args.words.width) ≡ c.args.words.width = search rules in
    let height : to_z w32 (of_z w32 c.args.words.height) ≡ c.args.words.height = search rules in
    let any : is_any_pixel c.args.words.format c.args.words.kind ≡ true = search rules in
    refuses_incomplete (drawable surface c.args.textures.now c.args.targets.now) c.args.pack c.args.words any (not_negative c.args.words.width (rw width at c.if-words-lt0.false)) (not_negative c.args.words.height (rw height at c.if-words-lt0-2.false))
    c.if-is_over_data_limit.ensures (c.if-is_incomplete.ensures surface)

pub returns-then-not-is_read_format : goal.returns-then-not-is_read_format
returns-then-not-is_read_format c surface =
    let width : to_z w32 (of_z w32 c.args.words.width) ≡ c.args.words.width = search rules in
    let height : to_z w32 (of_z w32 c.args.words.height) ≡ c.args.words.height = search rules in
    let any : is_any_pixel c.args.words.format c.args.words.kind ≡ true = search rules in
    elim c.then-not-is_read_format.branch [
      | then-not-is_read_format-via-then-not-is_read_format w ↦
          refuses_format (drawable surface c.args.textures.now c.args.targets.now) c.args.pack c.args.words any (not_negative c.args.words.width (rw width at c.if-words-lt0.false)) (not_negative c.args.words.height (rw height at c.if-words-lt0-2.false))
          c.if-is_over_data_limit.ensures (c.if-is_incomplete.ensures surface) (sym w.if-not-is_read_format.true ∙ c.is_read_format.ensures)
      | then-not-is_read_format-via-else-not-is_read_format+then-has_no_colours w ↦
          refuses_colourless (drawable surface c.args.textures.now c.args.targets.now) c.args.pack c.args.words any (not_negative c.args.words.width (rw width at c.if-words-lt0.false)) (not_negative c.args.words.height (rw height at c.if-words-lt0-2.false))
          c.if-is_over_data_limit.ensures (c.if-is_incomplete.ensures surface) (sym w.if-not-is_read_format.false ∙ c.is_read_format.ensures) (sym w.if-has_no_colours.true ∙ w.has_no_colours.ensures surface)
    ]

pub returns : goal.returns
returns c surface =
    let width : to_z w32 (of_z w32 c.args.words.width) ≡ c.args.words.width = search rules in
    let height : to_z w32 (of_z w32 c.args.words.height) ≡ c.args.words.height = search rules in
    let any : is_any_pixel c.args.words.format c.args.words.kind ≡ true = search rules in
    refuses_nothing (drawable surface c.args.textures.now c.args.targets.now) c.args.pack c.args.words any (not_negative c.args.words.width (rw width at c.if-words-lt0.false)) (not_negative c.args.words.height (rw height at c.if-words-lt0-2.false))
    c.if-is_over_data_limit.ensures (c.if-is_incomplete.ensures surface) c.if-not-is_read_format.ensures (c.if-has_no_colours.ensures surface)
