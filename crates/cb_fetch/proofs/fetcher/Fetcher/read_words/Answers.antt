-- The steps are those of the fetcher as its fields show it.
use Rattle.std.proofs.Common.{◌≡◌, length, refl, sym, ◌∙◌, ap, subst}
use Rattle.cb_fetch.specs.declared.outcome.FetchOutcome.TheVariants.{Copied, Ready, Bad}
use Rattle.cb_fetch.specs.declared.stages.Body as stages
use Rattle.cb_fetch.specs.declared.stages.Stage.TheVariants as next
use Rattle.cb_format.specs.Plans.{plan_of}
use Rattle.cb_format.specs.Ring.{next_get}
use Rattle.cb_fetch.specs.Begun.{Nothing}
use Rattle.cb_fetch.specs.FetchViews.{FetchView}
use Rattle.cb_fetch.specs.Inside.{view_of}
use Rattle.cb_fetch.specs.Steps.{IsAtWords, IsStep}
use Rattle.cb_fetch.proofs.Copies.{Stops}
use Rattle.cb_fetch.proofs.Steps.{words_counted, words_begun, words_bad, words_more, words_done, none_of_read, none_of_other}
use Rattle.cb_fetch.proofs.fetcher.Fetcher.read_words.Goals.{in_default-planned-via-in-Read+else-count-gt0, in_default-planned-via-in_default-planned}
use Rattle.cb_fetch.proofs.fetcher.Fetcher.read_words.Goals as goal

pub laid_out_plan-planned-requires-clause-words : goal.laid_out_plan-planned-requires-clause-words
laid_out_plan-planned-requires-clause-words g c =
    let at = subst (λ (f : FetchView). IsAtWords f c.args.start) (sym c.self.view_is) c.requires in
    c_words ∙ words_counted (view_of c.self.inside) (g.S.Shm.memory c.args.shm.now) (view_of c.self.inside) (g.S.Shm.memory c.copy_words.new.shm) c.self.invariant.inside c.args.start at c.in-Ok.words c.in-Ok.ensures.made where
      c_words : length c.as_slice.result.now ≡ length c.in-Ok.words.items
      c_words = ap length c.as_slice.ensures.value

pub returns-in-Some-clause-step : goal.returns-in-Some-clause-step
returns-in-Some-clause-step g c =
    let m = g.S.Shm.memory c.args.shm.now in
    let m2 = g.S.Shm.memory c.copy_words.new.shm in
    let f2 = c.stop_bad.new.self in
    let at = subst (λ (f : FetchView). IsAtWords f c.args.start) (sym c.self.view_is) c.requires in
    let plan_is = c.laid_out_plan-planned.ensures ∙ ap (plan_of c.args.start.header.number) c.as_slice.ensures.value in
    rw c.stop_bad.ensures.outcome (
    subst (λ (f : FetchView). IsStep f m f2 m2 (Bad c.in-Some.kind f.get)) c.self.view_is
    (words_bad (view_of c.self.inside) m f2 m2 c.self.invariant.inside c.args.start at c.in-Ok.words c.in-Ok.ensures.made c.laid_out_plan-planned.result plan_is c.in-Some.kind c.in-Some.ensures.exact
    (subst (λ (f : FetchView). Stops f f2 c.in-Some.kind) (sym c.self.view_is) c.stop_bad.ensures.after))
    )

pub invariant_of-self : goal.invariant_of-self
invariant_of-self g c =
    let m = g.S.Shm.memory c.args.shm.now in
    let m2 = g.S.Shm.memory c.copy_words.new.shm in
    let f = view_of c.self.inside in
    let at = subst (λ (f : FetchView). IsAtWords f c.args.start) (sym c.self.view_is) c.requires in
    let plan_is = c.laid_out_plan-planned.ensures ∙ ap (plan_of c.args.start.header.number) c.as_slice.ensures.value in
    record {
      some = c.self.invariant.some;
      few = c.self.invariant.few;
      inside = c.self.invariant.inside;
      part = words_begun f m f m2 c.self.invariant.inside c.args.start at c.in-Ok.words c.in-Ok.ensures.made c.laid_out_plan-planned.result plan_is c.in_default-range_fault.ensures.exact (c.in_default-range_fault.ensures.front refl)
          c.in-Read.region c.in-Read.offset c.in-Read.count c.in-Read.is c.if-count-gt0.true c.new.result c.new.ensures.items;
    }

pub returns-in-Read-clause-step : goal.returns-in-Read-clause-step
returns-in-Read-clause-step g c =
    let m = g.S.Shm.memory c.args.shm.now in
    let m2 = g.S.Shm.memory c.copy_words.new.shm in
    let at = subst (λ (f : FetchView). IsAtWords f c.args.start) (sym c.self.view_is) c.requires in
    let plan_is = c.laid_out_plan-planned.ensures ∙ ap (plan_of c.args.start.header.number) c.as_slice.ensures.value in
    let begun : stages.Body = record { header = c.args.start.header; words = c.in-Ok.words; region = c.in-Read.region; offset = c.in-Read.offset; count = c.in-Read.count; payload = c.new.result } in
    let f2 = view_of (record c.self.inside { stage = next.Data begun }) in
    subst (λ (f : FetchView). IsStep f m f2 m2 Copied) c.self.view_is
    (words_more (view_of c.self.inside) m f2 m2 c.self.invariant.inside c.args.start at c.in-Ok.words c.in-Ok.ensures.made c.laid_out_plan-planned.result plan_is c.in_default-range_fault.ensures.exact (c.in_default-range_fault.ensures.front refl)
    c.in-Read.region c.in-Read.offset c.in-Read.count c.in-Read.is c.if-count-gt0.true c.new.result.items c.new.ensures.items refl)

pub returns-in_default-planned-clause-step : goal.returns-in_default-planned-clause-step
returns-in_default-planned-clause-step g c =
    let m = g.S.Shm.memory c.args.shm.now in
    let m2 = g.S.Shm.memory c.copy_words.new.shm in
    let f2 = c.finish-in_default-planned.new.self in
    let start = c.args.start in
    let at = subst (λ (f : FetchView). IsAtWords f c.args.start) (sym c.self.view_is) c.requires in
    let plan_is = c.laid_out_plan-planned.ensures ∙ ap (plan_of c.args.start.header.number) c.as_slice.ensures.value in
    rw c.finish-in_default-planned.ensures.command (
    subst (λ (f : FetchView). IsStep f m f2 m2 (Ready (record { number = start.header.number; words = c.in-Ok.words; payload = c.new-in_default-planned.result; place = f.get }))) c.self.view_is
    (words_done (view_of c.self.inside) m f2 m2 c.self.invariant.inside start at c.in-Ok.words c.in-Ok.ensures.made c.laid_out_plan-planned.result plan_is c.in_default-range_fault.ensures.exact (c.in_default-range_fault.ensures.front refl)
    (elim c.in_default-planned.branch [
      | in_default-planned-via-in-Read+else-count-gt0 w ↦ none_of_read c.laid_out_plan-planned.result w.in-Read.region w.in-Read.offset w.in-Read.count w.in-Read.is w.if-count-gt0.false
      | in_default-planned-via-in_default-planned w ↦ none_of_other c.laid_out_plan-planned.result w.in_default-planned.not-Read
    ])
    c.new-in_default-planned.result c.new-in_default-planned.ensures
    (subst (λ (f : FetchView). f2 ≡ record f { get = next_get f.entries f.get start.header.size; begun = Nothing }) (sym c.self.view_is) c.finish-in_default-planned.ensures.after))
    )
