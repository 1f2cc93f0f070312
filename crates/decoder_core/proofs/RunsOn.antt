-- Runs of commands that go on by one.
use Prim.Native.Nat.{suc}
use Rattle.std.proofs.Common.{◌≡◌, ℕ, Bool, ◌+◌, arith, length, length-append, List, [], ◌∷◌, ◌++◌, refl, sym, ◌∙◌, ap, subst, append_assoc, append-nil, Option, Some, None, true, false, MatchBool, if◌then◌else◌}
use Rattle.gl_plain.specs.declared.calls.Reply.{Reply}
use Rattle.gl_plain.specs.declared.commands.Fetched.{Fetched}
use Rattle.gl_plain.specs.declared.commands.Malformed.TheVariants.{InvalidArguments}
use Rattle.gl_plain.specs.declared.commands.Stop.{Stop}
use Rattle.gl_plain.specs.declared.driver_calls.DriverEntry.{DriverEntry}
use Rattle.gl_plain.specs.Oracle.{Oracle}
use Rattle.gl_plain.specs.State.{WireState}
use Rattle.gl_plain.specs.driver.Answers.{told}
use Rattle.gl_plain.specs.Outcome.{Outcome}
use Rattle.gl_plain.specs.Meaning.{Meaning, meaning_of}
use Rattle.gl_plain.specs.Run.{Run, wire_run, after_replies, stopped_at}
use Rattle.gl_plain.specs.Parts.{IsPartOf, AreParts, AreCutParts, IsNextFront}
use Rattle.gl_plain.proofs.Journals.{told-append}
use Rattle.gl_driver.specs.History.{History}
use Rattle.gl_driver.specs.Performed.{Did}
use Rattle.cb_fetch.specs.Seen.{Seen, seen_first}
use Rattle.decoder_core.specs.RunsSoFar.{GoesOn, HasRun, IsCutOff, then_seen}

-- a run of which the first command means m
module _ (m : Meaning WireState) (now : WireState) (f : Fetched) (fs : List Fetched) (stop : Option Stop) (o : Oracle) where
  abbrev run_by : Run
  run_by = if m.bad then stopped_at now f.place else after_replies ((m.step o).reply ∷ []) (wire_run (m.step o).state fs stop (m.step o).oracle)

  run_fair : (mid : WireState) (rest : Oracle) (r : Reply) → m.bad ≡ false → m.step o ≡ record { state = mid; oracle = rest; reply = r } → run_by ≡ after_replies (r ∷ []) (wire_run mid fs stop rest)
  run_fair mid rest r fair step = rw fair (ap (λ (out : Outcome WireState). after_replies (out.reply ∷ []) (wire_run out.state fs stop out.oracle)) step)

  run_bad : m.bad ≡ true → run_by ≡ stopped_at now f.place
  run_bad bad = rw bad refl

-- the parts of a run of which the first command means m
module _ (m : Meaning WireState) (fs : List Fetched) (o : Oracle) (mid : WireState) (rest : Oracle) (r : Reply) (fair : m.bad ≡ false) (step : m.step o ≡ record { state = mid; oracle = rest; reply = r }) (part more : List DriverEntry) (is_part : IsPartOf m.calls o part) where
  parts_first : AreParts mid fs rest more → MatchBool m.bad (part ++ more ≡ [])
      ((p q : List DriverEntry) × (part ++ more ≡ p ++ q) × IsPartOf m.calls o p × AreParts (m.step o).state fs (m.step o).oracle q)
  parts_first others = rw fair (part, more, refl, is_part, subst (λ (out : Outcome WireState). AreParts out.state fs out.oracle more) (sym step) others)

  cut_first : (lost : Bool) (n : ℕ) → AreCutParts lost mid fs n rest more → (m.bad ≡ false) × ((p q : List DriverEntry) × (part ++ more ≡ p ++ q) × IsPartOf m.calls o p × AreCutParts lost (m.step o).state fs n (m.step o).oracle q)
  cut_first lost n others = (fair, (part, more, refl, is_part, subst (λ (out : Outcome WireState). AreCutParts lost out.state fs n out.oracle more) (sym step) others))

-- no part is there of a command that is malformed
parts_bad : (bad : Bool) (es : List DriverEntry) (P : Type 0) → es ≡ [] → bad ≡ true → MatchBool bad (es ≡ []) P
parts_bad true es P none is = none
parts_bad false es P none is = cc

after_more : (replies : List Reply) (r : Reply) (run : Run) → after_replies replies (after_replies (r ∷ []) run) ≡ after_replies (replies ++ r ∷ []) run
after_more replies r run = λ i. record { replies = sym (append_assoc replies (r ∷ []) run.replies) i; stop = run.stop; state = run.state }

pub GoesOn-none : (w : WireState) (all : Seen) → GoesOn w all w all [] []
GoesOn-none w all = record { run = λ rest. refl; parts = λ more rest p. p; cut = λ lost n more rest p. subst (λ (k : ℕ). AreCutParts lost w all.commands k (told more rest) more) (omega arith) p }

module _ (w : WireState) (all : Seen) (now : WireState) (left : Seen) (replies : List Reply) (entries : List DriverEntry) (so : GoesOn w all now left replies entries) where
  -- one more command is executed
  pub GoesOn-step : (f : Fetched) (next : Seen) (h h2 : History) (part : List DriverEntry) (mid : WireState) (r : Reply) → left ≡ seen_first None f next → Did (meaning_of now f) h h2 part mid r
      → GoesOn w all mid next (replies ++ r ∷ []) (entries ++ part)
  GoesOn-step f next h h2 part mid r e did = record {
    run = λ rest.
        ap (wire_run w all.commands all.stop) (told-append entries part rest)
        ∙ so.run (told part rest)
        ∙ ap (λ (s : Seen). after_replies replies (wire_run now s.commands s.stop (told part rest))) e
        ∙ ap (after_replies replies) (run_fair (meaning_of now f) now f next.commands next.stop (told part rest) mid rest r did.fair (did.step rest))
        ∙ after_more replies r (wire_run mid next.commands next.stop rest);
    parts = λ more rest p.
        let here = parts_first (meaning_of now f) next.commands (told part (told more rest)) mid (told more rest) r did.fair (did.step (told more rest)) part more (did.part (told more rest)) p in
        let first = subst (λ (s : Seen). AreParts now s.commands (told part (told more rest)) (part ++ more)) (sym e) here in
        let all_parts = so.parts (part ++ more) rest (subst (λ (o : Oracle). AreParts now left.commands o (part ++ more)) (sym (told-append part more rest)) first) in
        subst (λ (es : List DriverEntry). AreParts w all.commands (told es rest) es) (sym (append_assoc entries part more)) all_parts;
    cut = λ lost n more rest p.
        let here = cut_first (meaning_of now f) next.commands (told part (told more rest)) mid (told more rest) r did.fair (did.step (told more rest)) part more (did.part (told more rest)) lost n p in
        let first = subst (λ (s : Seen). AreCutParts lost now s.commands (suc n) (told part (told more rest)) (part ++ more)) (sym e) here in
        let all_parts = so.cut lost (suc n) (part ++ more) rest (subst (λ (o : Oracle). AreCutParts lost now left.commands (suc n) o (part ++ more)) (sym (told-append part more rest)) first) in
        let count : length replies + suc n ≡ length (replies ++ r ∷ []) + n = omega (arith, length-append replies (r ∷ [])) in
        subst (λ (k : ℕ). AreCutParts lost w all.commands k (told ((entries ++ part) ++ more) rest) ((entries ++ part) ++ more)) count
        (subst (λ (es : List DriverEntry). AreCutParts lost w all.commands (length replies + suc n) (told es rest) es) (sym (append_assoc entries part more)) all_parts);
  }

  -- the run is cut off in front of the next command, or behind some of its calls
  pub breaks : (lost : Bool) (front : List DriverEntry) → IsNextFront lost now left.commands front → IsCutOff lost w all replies (entries ++ front)
  breaks lost front next = record {
    run = λ rest. (
      (wire_run now left.commands left.stop (told front rest)).replies,
      ap (λ (o : Oracle). (wire_run w all.commands all.stop o).replies) (told-append entries front rest) ∙ ap (λ (r : Run). r.replies) (so.run (told front rest)),
    );
    parts = λ rest.
        let none : length replies + 0 ≡ length replies = omega arith in
        rw none at (so.cut lost 0 front rest next);
  }

  -- nothing is left but a stop, if any
  pub run_ended : (stop : Option Stop) → left ≡ record { commands = []; stop = stop } → (rest : Oracle) → wire_run w all.commands all.stop (told entries rest) ≡ record { replies = replies; stop = stop; state = now }
  run_ended stop e rest =
      so.run rest ∙ ap (λ (s : Seen). after_replies replies (wire_run now s.commands s.stop rest)) e
      ∙ (λ i. record { replies = append-nil replies i; stop = stop; state = now })

  parts_whole : (rest : Oracle) → AreParts now left.commands rest [] → AreParts w all.commands (told entries rest) entries
  parts_whole rest p = rw append-nil at (so.parts [] rest p)

  pub parts_ended : (stop : Option Stop) → left ≡ record { commands = []; stop = stop } → (rest : Oracle) → AreParts w all.commands (told entries rest) entries
  parts_ended stop e rest = parts_whole rest (subst (λ (s : Seen). AreParts now s.commands rest []) (sym e) refl)

  -- the next command has bad arguments
  pub run_stopped : (f : Fetched) (next : Seen) → left ≡ seen_first None f next → (meaning_of now f).bad ≡ true → (rest : Oracle)
      → wire_run w all.commands all.stop (told entries rest) ≡ record { replies = replies; stop = Some (record { kind = InvalidArguments; place = f.place }); state = now }
  run_stopped f next e bad rest =
      so.run rest ∙ ap (λ (s : Seen). after_replies replies (wire_run now s.commands s.stop rest)) e
      ∙ ap (after_replies replies) (run_bad (meaning_of now f) now f next.commands next.stop rest bad)
      ∙ (λ i. record { replies = append-nil replies i; stop = Some (record { kind = InvalidArguments; place = f.place }); state = now })

  pub parts_stopped : (f : Fetched) (next : Seen) → left ≡ seen_first None f next → (meaning_of now f).bad ≡ true → (rest : Oracle) → AreParts w all.commands (told entries rest) entries
  parts_stopped f next e bad rest = parts_whole rest (subst (λ (s : Seen). AreParts now s.commands rest []) (sym e) (parts_bad (meaning_of now f).bad [] _ refl bad))

-- a command more behind others that were run
pub HasRun-step : (w : WireState) (commands : List Fetched) (now : WireState) (replies : List Reply) (entries : List DriverEntry) (f : Fetched) (h h2 : History) (part : List DriverEntry) (mid : WireState) (r : Reply)
    → Did (meaning_of now f) h h2 part mid r → HasRun w commands now replies entries → HasRun w (commands ++ f ∷ []) mid (replies ++ r ∷ []) (entries ++ part)
HasRun-step w commands now replies entries f h h2 part mid r did run = λ more stop.
    let all : then_seen (commands ++ f ∷ []) more stop ≡ then_seen commands (f ∷ more) stop = ap (λ (fs : List Fetched). then_seen [] fs stop) (append_assoc commands (f ∷ []) more) in
    subst (λ (s : Seen). GoesOn w s mid (then_seen [] more stop) (replies ++ r ∷ []) (entries ++ part)) (sym all)
    (GoesOn-step w (then_seen commands (f ∷ more) stop) now (then_seen [] (f ∷ more) stop) replies entries (run (f ∷ more) stop) f (then_seen [] more stop) h h2 part mid r refl did)
