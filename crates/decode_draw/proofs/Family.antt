-- What the family call shows once, for all commands on the fixed state, and those that clear and draw.
use Rattle.std.proofs.Common.{◌≡◌, ◌∙◌, ℕ, false, if◌then◌else◌, List, [], Option, None, Some, Result, Ok, Err, refl, sym, ap, subst}
use Rattle.std.specs.Result.{IsErrAnd}
use Rattle.gl_plain.specs.declared.calls.Reply.{Reply}
use Rattle.gl_plain.specs.declared.commands.Command.{Command}
use Rattle.gl_plain.specs.declared.commands.Command.TheVariants.{Draw}
use Rattle.gl_plain.specs.declared.commands.DrawCommand.{DrawCommand}
use Rattle.gl_plain.specs.declared.commands.DrawCommand.TheVariants.{ActiveTexture, Raster, Clear, DrawArrays, DrawElements, Flush, Finish}
use Rattle.gl_plain.specs.declared.draws.DrawPlan.{DrawPlan}
use Rattle.gl_plain.specs.declared.draws.UnitView.{UnitView}
use Rattle.gl_plain.specs.declared.driver_calls.DriverCall.{DriverCall}
use Rattle.gl_plain.specs.declared.driver_calls.DriverCall.TheVariants as driver
use Rattle.gl_plain.specs.declared.driver_calls.DrawDriver.TheVariants as calls
use Rattle.gl_plain.specs.declared.errors.GlError.{GlError}
use Rattle.gl_plain.specs.declared.stop.ExecStop.{ExecStop}
use Rattle.gl_plain.specs.declared.targets.AnyImage.{AnyImage}
use Rattle.gl_plain.specs.Covers.{zeroings, all_filled, all_marked}
use Rattle.gl_plain.specs.draw.Refusal.{draw_command_refusal}
use Rattle.gl_plain.specs.draw.Calls.{draw_whole_first}
use Rattle.gl_plain.specs.draw.Step.{draw_effect}
use Rattle.gl_plain.specs.Outcome.{leaves}
use Rattle.gl_plain.specs.State.{WireState, DriverState, sources_of}
use Rattle.gl_plain.specs.Meaning.{Meaning, own_meaning}
use Rattle.gl_plain.specs.Wire.{zeroed}
use Rattle.gl_plain.specs.Agreement.{AgreesIn}
use Rattle.gl_laws.proofs.Commands.{may_go_on, keeps}
use Rattle.gl_driver.specs.History.{History}
use Rattle.gl_driver.specs.Performed.{Acts, IsOutcome, IsLawful, Made, StoppedIn, MayMake}
use Rattle.gl_driver.specs.Stops.{stop_of_driver}
use Rattle.gl_driver.specs.declared.stop.DriverStop.{DriverStop}
use Rattle.gl_driver.proofs.Exits.{own_means, lawful, ends_zeroed, passes_zeroing_stop}
use Rattle.gl_driver.proofs.Zeroed.{zeroings_may, own_may_behind}
use Rattle.decode_draw.specs.declared.judged.Judged.{Judged}
use Rattle.decode_draw.specs.Judged.{judged, drawn_first, planned, planned_calls, MayCall}
use Rattle.decode_draw.proofs.Judgements.{judged_takes, calls_planned, first_planned}

-- what keeps to the laws does so however the command is called
pub lawful_of : (c : DrawCommand) (x : Command) (spelled : Option Command) → spelled ≡ Some (Draw c) → spelled ≡ Some x → {D : Type 0} {history : D → History} {grown : D → D → Type 0} (payload : List ℕ) {before after : WireState → WireState} {d d2 : D} (result : Result Reply ExecStop)
    → IsLawful history grown (Draw c) payload before after d d2 result → IsLawful history grown x payload before after d d2 result
lawful_of c x spelled is e {history = history} {grown} payload {before} {after} {d} {d2} result keeping =
    let same : Draw c ≡ x = cc in subst (λ (y : Command). IsLawful history grown y payload before after d d2 result) same keeping

-- so what is left of it is as it was planned
left_planned : (w : WireState) (c : DrawCommand) (payload : List ℕ) (j : Judged) → judged (sources_of w.es) c ≡ Ok j → planned j.plan c w ≡ own_meaning w (Draw c) payload
left_planned w c payload j h = ap (λ (calls : List DriverCall). record { bad = false; step = leaves (record w { es = draw_effect w.es c }); calls = λ o. calls }) (sym (calls_planned (sources_of w.es) j c h))

-- the zeroings of a command that was judged, and what is written behind them
abbrev first_calls : WireState → Judged → List DriverCall
first_calls w j = zeroings w.es.textures.objects w.covers w.marks (drawn_first w.es.textures.objects j)

abbrev pub filled_first : WireState → Judged → WireState
filled_first w j = record w { covers = all_filled w.es.textures.objects w.covers (drawn_first w.es.textures.objects j); marks = all_marked w.marks (drawn_first w.es.textures.objects j) }

module _ (c : DrawCommand) (payload : List ℕ) (j : Judged) (before : WireState → WireState) (is : (s : WireState) → judged (sources_of (before s).es) c ≡ Ok j) where
  taken : (s : WireState) → draw_command_refusal (sources_of (before s).es) c ≡ None
  taken s = judged_takes (sources_of (before s).es) j c (is s)

  same_first : (s : WireState) → draw_whole_first (sources_of (before s).es) c ≡ drawn_first (before s).es.textures.objects j
  same_first s = first_planned (sources_of (before s).es) j c (is s)

  same_calls : (s : WireState) → first_calls (before s) j ≡ zeroings (before s).es.textures.objects (before s).covers (before s).marks (draw_whole_first (sources_of (before s).es) c)
  same_calls s = ap (zeroings (before s).es.textures.objects (before s).covers (before s).marks) (sym (same_first s))

  behind : (s : WireState) → filled_first (before s) j ≡ zeroed (before s) (Draw c)
  behind s = ap (λ (is : List AnyImage). record (before s) { covers = all_filled (before s).es.textures.objects (before s).covers is; marks = all_marked (before s).marks is }) (sym (same_first s))

  -- by the laws its zeroings may be made
  pub may_zero : (d : DriverState) (agrees : AgreesIn before d) → MayMake d (first_calls (before agrees.others) j)
  may_zero d agrees =
      let w : WireState = before agrees.others in
      subst (MayMake d) (sym (same_calls agrees.others)) (zeroings_may w (Draw c) payload (taken agrees.others) (may_go_on w d agrees.agrees (Draw c) payload refl tt))

  -- and behind them its own call
  pub may_make : {D : Type 0} {history : D → History} {grown : D → D → Type 0} {d d1 : D} (agrees : AgreesIn before (history d).state) → Made history grown d d1 (first_calls (before agrees.others) j) → MayCall (history d1).state (planned_calls j.plan c)
  may_make {history = history} {grown} {d} {d1} agrees made call h =
      let w : WireState = before agrees.others in
      own_may_behind w (Draw c) payload (taken agrees.others) (may_go_on w (history d).state agrees.agrees (Draw c) payload refl tt)
      (subst (Made history grown d d1) (same_calls agrees.others) made) call [] (λ o. calls_planned (sources_of w.es) j c (is agrees.others) ∙ sym h)

  -- what is left of it behind them, in the terms of OpenGL ES
  as_own : {after : WireState → WireState} {D : Type 0} {history : D → History} {grown : D → D → Type 0} {d d2 : D} (result : Result Reply ExecStop) → Acts history grown (planned j.plan c) (λ s. zeroed (before s) (Draw c)) after d d2 result
      → Acts history grown (own_means (Draw c) payload) (λ s. zeroed (before s) (Draw c)) after d d2 result
  as_own {after} {D} {history} {grown} {d} {d2} result a = record {
    entries = a.entries;
    served = a.served;
    outcome = λ s. subst (λ (m : Meaning WireState). IsOutcome m (history d) (history d2) a.entries (zeroed (before s) (Draw c)) (after s) result) (left_planned (zeroed (before s) (Draw c)) c payload j (is s)) (a.outcome s);
  }

  module _ {after : WireState → WireState} {D : Type 0} {history : D → History} {grown : D → D → Type 0} (result : Result Reply ExecStop) (calls : List DriverCall) (all : (s : WireState) → calls ≡ first_calls (before s) j) where
    -- the driver stopped in its zeroings
    pub stops : {d d2 : D} {stop : DriverStop} → IsErrAnd result (λ e. e ≡ stop_of_driver stop) → StoppedIn history grown d d2 calls stop → IsLawful history grown (Draw c) payload before after d d2 result
    stops passed stopped =
        lawful (Draw c) payload (λ w e agrees. keeps w e agrees (Draw c) payload) result
        (passes_zeroing_stop (Draw c) payload result passed stopped (λ s. refl) taken (λ s. all s ∙ same_calls s))

    -- the command that was judged did what it means, and keeps to the laws
    pub keeps_to_laws : ((a b c : D) → grown a b → grown b c → grown a c) → {d d1 d2 : D} → Made history grown d d1 calls → {before1 : WireState → WireState} → ((s : WireState) → before1 s ≡ filled_first (before s) j) → Acts history grown (planned j.plan c) before1 after d1 d2 result
        → IsLawful history grown (Draw c) payload before after d d2 result
    keeps_to_laws further {d} {d1} {d2} made {before1} whole a =
        let zeroed_first : (s : WireState) → before1 s ≡ zeroed (before s) (Draw c) = λ s. whole s ∙ behind s in
        lawful (Draw c) payload (λ w e agrees. keeps w e agrees (Draw c) payload) result
        (ends_zeroed (Draw c) payload further result made (λ s. refl) taken (λ s. all s ∙ same_calls s)
        (as_own result (subst (λ (b : WireState → WireState). Acts history grown (planned j.plan c) b after d1 d2 result) (λ i s. zeroed_first s i) a)))
