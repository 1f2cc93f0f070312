use Rattle.std.proofs.Common.{◌≡◌, ◌∙◌, refl, sym, ap}
use Rattle.gl_plain.specs.declared.calls.Reply.TheVariants as reply
use Rattle.gl_plain.specs.declared.driver_calls.DriverCall.TheVariants.{Draw}
use Rattle.gl_plain.specs.declared.driver_calls.DrawDriver.TheVariants.{SetRaster}
use Rattle.gl_plain.specs.subjects.Raster.{raster_effect, alignment_effect, kept_words}
use Rattle.gl_driver.proofs.Exits.{ends_alone, passes_stop}
use Rattle.decode_draw.proofs.Drawings.{raster_makes, raster_makes_none}
use Rattle.decode_draw.proofs.drawing.set_raster.Goals as goal

pub returns-then-not-is_driver_raster : goal.returns-then-not-is_driver_raster
returns-then-not-is_driver_raster g c =
    let kept : c.as_slice.result.now ≡ kept_words c.args.number c.args.words = c.as_slice.ensures.value ∙ c.kept_words-kept.ensures in
    let words = c.apply.ensures.words ∙ ap (raster_effect c.args.raster.now.words c.args.number) kept in
    let alignments = c.apply.ensures.alignments ∙ ap (alignment_effect c.args.raster.now.alignments c.args.number) kept in
    ends_alone g.met.D.Driver.grown_itself (λ s. refl) (λ s o. raster_makes_none c.args.number c.args.words (sym c.if-not-is_driver_raster.ensures))
    (λ s o i. record { state = record s { es = record s.es { raster = sym words i; alignments = sym alignments i } }; oracle = o; reply = reply.None })

pub set_raster-requires : goal.set_raster-requires
set_raster-requires g c =
    c.requires.may (Draw (SetRaster c.args.number c.as_slice-2.result.now))
    (raster_makes c.args.number c.args.words c.as_slice-2.result.now (c.as_slice-2.ensures.value ∙ c.kept_words-kept.ensures) (sym c.if-not-is_driver_raster.ensures))

pub returns-in_err-set_raster : goal.returns-in_err-set_raster
returns-in_err-set_raster g c =
    passes_stop c.from_residual.result c.from_residual.ensures.1 c.in_err-set_raster.ensures.served c.in_err-set_raster.ensures.cause (λ s. refl)
    (λ s. raster_makes c.args.number c.args.words c.as_slice-2.result.now (c.as_slice-2.ensures.value ∙ c.kept_words-kept.ensures) (sym c.if-not-is_driver_raster.ensures))
