use Rattle.std.proofs.Common.{◌≡◌, true, false, ◌∙◌, ap, sym, rules, of_z, to_z, ◌||◌, ◌==◌, Bool, Ok, subst}
use Rattle.std.specs.Int.{w32}
use Rattle.gl_plain.specs.Words.{natural}
use Rattle.gl_plain.specs.Errors.{no_errors}
use Rattle.gl_plain.specs.declared.targets.Target.{Target}
use Rattle.gl_plain.specs.subjects.Copies.{reads_nothing}
use Rattle.gl_plain.specs.subjects.Targets.{target_of, colour_images}
use Rattle.gl_driver.specs.Performed.{MayMake}
use Rattle.target_mgr.specs.Tables.{renderbuffers, framebuffers}
use Rattle.whole_images.specs.Whole.{image_zeroings, IsColourThere}
use Rattle.whole_images.proofs.MadeImages.{whole_at}
use Rattle.decode_query.proofs.ReadDone.{no_side, some_side, some_pixels, reads_none, read_may_zero, read_stops, read_is_there, read_allowed, read_done}
use Rattle.decode_query.proofs.reading.read_pixels.Goals as goal
use Rattle.decode_query.proofs.reading.read_pixels.Goals.{then-natural-eq0-via-then-natural-eq0, then-natural-eq0-via-else-natural-eq0+then-natural-eq0-2}

pub returns-then-natural-eq0 : goal.returns-then-natural-eq0
returns-then-natural-eq0 g c errors =
    let width : to_z w32 (of_z w32 c.args.words.width) ≡ c.args.words.width = search rules in
    let height : to_z w32 (of_z w32 c.args.words.height) ≡ c.args.words.height = search rules in
    let none : reads_nothing c.args.words ≡ true = elim c.then-natural-eq0.branch [
      | then-natural-eq0-via-then-natural-eq0 w ↦ ap (λ (b : Bool). b || (natural c.args.words.height == 0)) (no_side _ _ (c.natural.ensures ∙ ap natural width) w.if-natural-eq0.true)
      | then-natural-eq0-via-else-natural-eq0+then-natural-eq0-2 w ↦
          (λ i. some_side _ _ (c.natural.ensures ∙ ap natural width) w.if-natural-eq0.false i || no_side _ _ (w.natural-else-natural-eq0.ensures ∙ ap natural height) w.if-natural-eq0-2.true i)
    ] in
    reads_none c.args.words c.args.bucket c.args.textures.now c.args.targets.now c.args.raster.now errors (c.requires errors) g.met.D.Driver.grown_itself g.met.D.Driver.grown_further none c.new.ensures

pub zero_colour-requires-clause-there : goal.zero_colour-requires-clause-there
zero_colour-requires-clause-there g c =
    subst (IsColourThere (renderbuffers c.args.targets.now).objects) (sym c.target-source.ensures)
    (read_is_there c.args.words c.args.bucket c.args.textures.now c.args.targets.now c.args.raster.now no_errors (c.requires no_errors))

pub zero_colour-requires-clause-may : goal.zero_colour-requires-clause-may
zero_colour-requires-clause-may g c =
    let width : to_z w32 (of_z w32 c.args.words.width) ≡ c.args.words.width = search rules in
    let height : to_z w32 (of_z w32 c.args.words.height) ≡ c.args.words.height = search rules in
    let some : reads_nothing c.args.words ≡ false = some_pixels c.args.words _ _ (c.natural.ensures ∙ ap natural width) (c.natural-else-natural-eq0.ensures ∙ ap natural height) c.if-natural-eq0.false c.if-natural-eq0-2.false in
    subst (λ (t : Target). MayMake (g.D.Driver.history c.args.driver.now).state (image_zeroings c.args.textures.now c.args.targets.now (colour_images t))) (sym c.target-source.ensures)
    (read_may_zero c.args.words c.args.bucket c.args.textures.now c.args.targets.now c.args.raster.now no_errors (c.requires no_errors) some)

pub returns-in_err-zero_colour : goal.returns-in_err-zero_colour
returns-in_err-zero_colour g c errors =
    let width : to_z w32 (of_z w32 c.args.words.width) ≡ c.args.words.width = search rules in
    let height : to_z w32 (of_z w32 c.args.words.height) ≡ c.args.words.height = search rules in
    let some : reads_nothing c.args.words ≡ false = some_pixels c.args.words _ _ (c.natural.ensures ∙ ap natural width) (c.natural-else-natural-eq0.ensures ∙ ap natural height) c.if-natural-eq0.false c.if-natural-eq0-2.false in
    read_stops c.args.words c.args.bucket c.args.textures.now c.args.targets.now c.args.raster.now errors (c.requires errors) some c.from_residual.result c.from_residual.ensures.1
    (whole_at c.target-source.ensures c.in_err-zero_colour.ensures).calls

pub read_rows-requires-clause-allowed : goal.read_rows-requires-clause-allowed
read_rows-requires-clause-allowed g c =
    let width : to_z w32 (of_z w32 c.args.words.width) ≡ c.args.words.width = search rules in
    let height : to_z w32 (of_z w32 c.args.words.height) ≡ c.args.words.height = search rules in
    let some : reads_nothing c.args.words ≡ false = some_pixels c.args.words _ _ (c.natural.ensures ∙ ap natural width) (c.natural-else-natural-eq0.ensures ∙ ap natural height) c.if-natural-eq0.false c.if-natural-eq0-2.false in
    read_allowed c.args.words c.args.bucket c.args.textures.now c.args.targets.now c.args.raster.now no_errors (c.requires no_errors) some
    (whole_at c.target-source.ensures c.in_ok-zero_colour.ensures)

pub returns : goal.returns
returns g c errors =
    let width : to_z w32 (of_z w32 c.args.words.width) ≡ c.args.words.width = search rules in
    let height : to_z w32 (of_z w32 c.args.words.height) ≡ c.args.words.height = search rules in
    let some : reads_nothing c.args.words ≡ false = some_pixels c.args.words _ _ (c.natural.ensures ∙ ap natural width) (c.natural-else-natural-eq0.ensures ∙ ap natural height) c.if-natural-eq0.false c.if-natural-eq0-2.false in
    read_done c.args.words c.args.bucket c.args.textures.now c.args.targets.now c.args.raster.now errors (c.requires errors) some
    (whole_at c.target-source.ensures c.in_ok-zero_colour.ensures)
    g.met.D.Driver.grown_further c.read_rows.result (c.read_rows.ensures errors)
