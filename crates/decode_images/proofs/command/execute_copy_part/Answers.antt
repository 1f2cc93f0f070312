use Rattle.std.proofs.Common.{◌≡◌, ◌∙◌, ◌==◌, ◌||◌, Bool, true, false, [], sym, ap, subst, arith, rules, of_z, to_z}
use Rattle.std.specs.Int.{w32}
use Rattle.gl_base.specs.Rects.{is_empty}
use Rattle.gl_plain.specs.Errors.{no_errors}
use Rattle.gl_plain.specs.Words.{natural}
use Rattle.gl_plain.specs.declared.targets.Target.{Target}
use Rattle.gl_plain.specs.subjects.Copies.{copy_rect}
use Rattle.gl_plain.specs.subjects.Targets.{colour_images}
use Rattle.gl_plain.specs.subjects.Textures.{place_bound}
use Rattle.gl_driver.specs.Performed.{MayMake}
use Rattle.texture_mgr.specs.Tables.{tables}
use Rattle.target_mgr.specs.Tables.{renderbuffers}
use Rattle.whole_images.specs.Whole.{image_zeroings, IsColourThere}
use Rattle.whole_images.proofs.MadeImages.{whole_at}
use Rattle.decode_images.proofs.CopiesDone.{no_pixel, no_row, some_pixel, part_nothing, part_is_there, part_may_zero, part_stops, part_inside, part_may_fill, part_stops_filling, part_allowed, part_done}
use Rattle.decode_images.proofs.command.execute_copy_part.Goals as goal
use Rattle.decode_images.proofs.command.execute_copy_part.Goals.{then-rect-eq0-via-then-rect-eq0, then-rect-eq0-via-else-rect-eq0+then-rect-eq0-2}

pub returns-then-rect-eq0 : goal.returns-then-rect-eq0
returns-then-rect-eq0 g c payload errors =
    let none : is_empty (copy_rect c.args.copy) ≡ true = elim c.then-rect-eq0.branch [
      | then-rect-eq0-via-then-rect-eq0 w ↦ sym (ap is_empty c.copy_rect-rect.ensures) ∙ no_pixel c.copy_rect-rect.result w.if-rect-eq0.true
      | then-rect-eq0-via-else-rect-eq0+then-rect-eq0-2 w ↦ sym (ap is_empty c.copy_rect-rect.ensures) ∙ no_row c.copy_rect-rect.result w.if-rect-eq0-2.true
    ] in
    part_nothing c.args.copy payload c.args.textures.now c.args.targets.now c.args.raster.now errors (c.requires payload errors) g.met.D.Driver.grown_itself g.met.D.Driver.grown_further none

pub zero_colour-requires-clause-there : goal.zero_colour-requires-clause-there
zero_colour-requires-clause-there g c =
    subst (IsColourThere (renderbuffers c.args.targets.now).objects) (sym c.target-source.ensures)
    (part_is_there c.args.copy [] c.args.textures.now c.args.targets.now c.args.raster.now no_errors (c.requires [] no_errors))

pub zero_colour-requires-clause-may : goal.zero_colour-requires-clause-may
zero_colour-requires-clause-may g c =
    let some : is_empty (copy_rect c.args.copy) ≡ false = sym (ap is_empty c.copy_rect-rect.ensures) ∙ some_pixel c.copy_rect-rect.result c.if-rect-eq0.false c.if-rect-eq0-2.false in
    subst (λ (t : Target). MayMake (g.D.Driver.history c.args.driver.now).state (image_zeroings c.args.textures.now c.args.targets.now (colour_images t))) (sym c.target-source.ensures)
    (part_may_zero c.args.copy [] c.args.textures.now c.args.targets.now c.args.raster.now no_errors g.D.Driver.history g.D.Driver.grown g.met.D.Driver.grown_itself g.met.D.Driver.grown_further c.args.driver.now (c.requires [] no_errors) some)

pub returns-in_err-zero_colour : goal.returns-in_err-zero_colour
returns-in_err-zero_colour g c payload errors =
    let some : is_empty (copy_rect c.args.copy) ≡ false = sym (ap is_empty c.copy_rect-rect.ensures) ∙ some_pixel c.copy_rect-rect.result c.if-rect-eq0.false c.if-rect-eq0-2.false in
    part_stops c.args.copy payload c.args.textures.now c.args.targets.now c.args.raster.now errors g.met.D.Driver.grown_itself g.met.D.Driver.grown_further (c.requires payload errors) some c.from_residual.result c.from_residual.ensures.1
    (whole_at c.target-source.ensures c.in_err-zero_colour.ensures)

pub write_part-requires-clause-inside : goal.write_part-requires-clause-inside
write_part-requires-clause-inside g c =
    let level : to_z w32 (of_z w32 c.args.copy.level) ≡ c.args.copy.level = search rules in
    let some : is_empty (copy_rect c.args.copy) ≡ false = sym (ap is_empty c.copy_rect-rect.ensures) ∙ some_pixel c.copy_rect-rect.result c.if-rect-eq0.false c.if-rect-eq0-2.false in
    part_inside c.args.copy [] c.args.textures.now c.args.targets.now c.args.raster.now no_errors g.met.D.Driver.grown_itself g.met.D.Driver.grown_further (c.requires [] no_errors) some (whole_at c.target-source.ensures c.in_ok-zero_colour.ensures) c.place_bound-place.result c.copy_rect-rect.result
    (c.place_bound-place.ensures ∙ ap (place_bound (tables c.zero_colour.new.textures).objects c.args.copy.target) (c.natural.ensures ∙ ap natural level)) c.copy_rect-rect.ensures

pub write_part-requires-clause-may : goal.write_part-requires-clause-may
write_part-requires-clause-may g c =
    let level : to_z w32 (of_z w32 c.args.copy.level) ≡ c.args.copy.level = search rules in
    let some : is_empty (copy_rect c.args.copy) ≡ false = sym (ap is_empty c.copy_rect-rect.ensures) ∙ some_pixel c.copy_rect-rect.result c.if-rect-eq0.false c.if-rect-eq0-2.false in
    part_may_fill c.args.copy [] c.args.textures.now c.args.targets.now c.args.raster.now no_errors g.met.D.Driver.grown_itself g.met.D.Driver.grown_further (c.requires [] no_errors) some (whole_at c.target-source.ensures c.in_ok-zero_colour.ensures) c.place_bound-place.result c.copy_rect-rect.result
    (c.place_bound-place.ensures ∙ ap (place_bound (tables c.zero_colour.new.textures).objects c.args.copy.target) (c.natural.ensures ∙ ap natural level)) c.copy_rect-rect.ensures

pub returns-in_err-write_part : goal.returns-in_err-write_part
returns-in_err-write_part g c payload errors =
    let level : to_z w32 (of_z w32 c.args.copy.level) ≡ c.args.copy.level = search rules in
    let some : is_empty (copy_rect c.args.copy) ≡ false = sym (ap is_empty c.copy_rect-rect.ensures) ∙ some_pixel c.copy_rect-rect.result c.if-rect-eq0.false c.if-rect-eq0-2.false in
    part_stops_filling c.args.copy payload c.args.textures.now c.args.targets.now c.args.raster.now errors g.met.D.Driver.grown_itself g.met.D.Driver.grown_further (c.requires payload errors) some (whole_at c.target-source.ensures c.in_ok-zero_colour.ensures) c.place_bound-place.result c.copy_rect-rect.result
    (c.place_bound-place.ensures ∙ ap (place_bound (tables c.zero_colour.new.textures).objects c.args.copy.target) (c.natural.ensures ∙ ap natural level)) c.copy_rect-rect.ensures
    c.from_residual-in_err-write_part.result c.from_residual-in_err-write_part.ensures.1 c.in_err-write_part.ensures.calls

pub copy_part-requires-clause-some : goal.copy_part-requires-clause-some
copy_part-requires-clause-some g c = sym (ap is_empty c.copy_rect-rect.ensures) ∙ some_pixel c.copy_rect-rect.result c.if-rect-eq0.false c.if-rect-eq0-2.false

pub copy_part-requires-clause-allowed : goal.copy_part-requires-clause-allowed
copy_part-requires-clause-allowed g c =
    let level : to_z w32 (of_z w32 c.args.copy.level) ≡ c.args.copy.level = search rules in
    let some : is_empty (copy_rect c.args.copy) ≡ false = sym (ap is_empty c.copy_rect-rect.ensures) ∙ some_pixel c.copy_rect-rect.result c.if-rect-eq0.false c.if-rect-eq0-2.false in
    part_allowed c.args.copy [] c.args.textures.now c.args.targets.now c.args.raster.now no_errors g.met.D.Driver.grown_itself g.met.D.Driver.grown_further (c.requires [] no_errors) some (whole_at c.target-source.ensures c.in_ok-zero_colour.ensures) c.place_bound-place.result c.copy_rect-rect.result
    (c.place_bound-place.ensures ∙ ap (place_bound (tables c.zero_colour.new.textures).objects c.args.copy.target) (c.natural.ensures ∙ ap natural level)) c.copy_rect-rect.ensures c.in_ok-write_part.ensures.calls

pub returns : goal.returns
returns g c payload errors =
    let level : to_z w32 (of_z w32 c.args.copy.level) ≡ c.args.copy.level = search rules in
    let some : is_empty (copy_rect c.args.copy) ≡ false = sym (ap is_empty c.copy_rect-rect.ensures) ∙ some_pixel c.copy_rect-rect.result c.if-rect-eq0.false c.if-rect-eq0-2.false in
    part_done c.args.copy payload c.args.textures.now c.args.targets.now c.args.raster.now errors g.met.D.Driver.grown_itself g.met.D.Driver.grown_further (c.requires payload errors) some (whole_at c.target-source.ensures c.in_ok-zero_colour.ensures) c.place_bound-place.result c.copy_rect-rect.result
    (c.place_bound-place.ensures ∙ ap (place_bound (tables c.zero_colour.new.textures).objects c.args.copy.target) (c.natural.ensures ∙ ap natural level)) c.copy_rect-rect.ensures c.in_ok-write_part.ensures.calls
    c.write_part.new.textures c.in_ok-write_part.ensures.tables c.in_ok-write_part.ensures.covers c.copy_part.result (c.copy_part.ensures payload)
