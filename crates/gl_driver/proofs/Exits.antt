-- The ways in which a command ends, whatever it means, and whatever parts of the service's state it is lent.
use Rattle.std.proofs.Common.{◌≡◌, ℕ, true, false, List, [], ◌∷◌, ◌++◌, None, Some, Result, Ok, Err, refl, sym, ap, ◌∙◌}
use Rattle.std.proofs.lemmas.Result.{err_from_is_err_and}
use Rattle.std.specs.Result.{IsErrAnd}
use Rattle.gl_plain.specs.declared.calls.Reply.{Reply}
use Rattle.gl_plain.specs.declared.calls.Reply.TheVariants as reply
use Rattle.gl_plain.specs.declared.commands.Command.{Command}
use Rattle.gl_plain.specs.declared.commands.Command.TheVariants.{Noop, SetToken, Bucket, Object, Image, Draw, Query}
use Rattle.gl_plain.specs.declared.commands.Malformed.TheVariants.{InvalidArguments}
use Rattle.gl_plain.specs.declared.driver_calls.DriverCall.{DriverCall}
use Rattle.gl_plain.specs.declared.driver_calls.DriverEntry.{DriverEntry}
use Rattle.gl_plain.specs.declared.errors.GlError.{GlError}
use Rattle.gl_plain.specs.declared.stop.ExecStop.{ExecStop}
use Rattle.gl_plain.specs.declared.stop.ExecStop.TheVariants.{Bad, NoMemory}
use Rattle.gl_plain.specs.Stops.{no_memory}
use Rattle.gl_plain.specs.Oracle.{Oracle, default_answers}
use Rattle.gl_plain.specs.State.{WireState, DriverState}
use Rattle.gl_plain.specs.Outcome.{with_error}
use Rattle.gl_plain.specs.driver.Answers.{told}
use Rattle.gl_plain.specs.subjects.Images.{Covers, Marks}
use Rattle.gl_plain.specs.Covers.{all_filled, all_marked, zeroings}
use Rattle.gl_plain.specs.Wire.{is_bad, command_refusal, whole_first, zeroed, own_step, own_calls, calls_by, step_by, wire_step, command_calls}
use Rattle.gl_plain.specs.Meaning.{Meaning, command_meaning, own_meaning}
use Rattle.gl_plain.specs.Records.{contents_after, step_records}
use Rattle.gl_plain.specs.Parts.{calls_in}
use Rattle.gl_plain.specs.Journal.{IsLegal, state_after}
use Rattle.gl_plain.specs.Agreement.{Agrees}
use Rattle.gl_plain.specs.Lawful.{Keeps}
use Rattle.gl_driver.specs.History.{History, Served, Caused}
use Rattle.gl_driver.specs.Stops.{stop_of_driver}
use Rattle.gl_driver.specs.Performed.{Acts, IsLawful, Leads, Made, StoppedIn}
use Rattle.gl_driver.specs.declared.stop.DriverStop.{DriverStop}
use Rattle.gl_driver.proofs.Laws.{Served-nothing, Served-join}
use Rattle.gl_driver.proofs.Making.{zeroings_told}
use Rattle.gl_driver.proofs.Performing.{outcome-stopped, outcome-stopped_in, outcome-goes_on}

module _ {D : Type 0} {history : D → History} {grown : D → D → Type 0} {m : WireState → Meaning WireState} {before : WireState → WireState} where
  -- it is malformed
  pub ends_malformed : ((a : D) → grown a a) → {d : D} → ((s : WireState) → (m (before s)).bad ≡ true) → Acts history grown m before before d d (Err (Bad InvalidArguments))
  ends_malformed itself {d} bad = record { entries = []; served = Served-nothing itself d; outcome = λ s. record { bad = bad s; kind_is = refl; no_calls = refl; same = refl; same_driver = refl } }

module _ {D : Type 0} {history : D → History} {grown : D → D → Type 0} {m : WireState → Meaning WireState} {before after : WireState → WireState} where
  -- it is done behind these entries
  pub ends_done : {d d2 : D} {es : List DriverEntry} {r : Reply} → Served history grown d d2 es → (history d2).stop ≡ (history d).stop → ((s : WireState) → (m (before s)).bad ≡ false) → ((s : WireState) (o : Oracle) → calls_in es ≡ (m (before s)).calls (told es o))
      → ((s : WireState) (o : Oracle) → (m (before s)).step (told es o) ≡ record { state = after s; oracle = o; reply = r }) → Acts history grown m before after d d2 (Ok r)
  ends_done {es = es} served going fair calls step = record { entries = es; served = served; outcome = λ s. record { fair = fair s; step = step s; part = calls s; stop = going } }

  -- it is done without a driver call
  pub ends_alone : ((a : D) → grown a a) → {d : D} {r : Reply} → ((s : WireState) → (m (before s)).bad ≡ false) → ((s : WireState) (o : Oracle) → [] ≡ (m (before s)).calls o) → ((s : WireState) (o : Oracle) → (m (before s)).step o ≡ record { state = after s; oracle = o; reply = r })
      → Acts history grown m before after d d (Ok r)
  ends_alone itself {d} fair calls step = ends_done (Served-nothing itself d) refl fair calls step

  -- there was no memory behind these entries
  pub ends_short : {d d2 : D} {es : List DriverEntry} → Served history grown d d2 es → ((s : WireState) → (m (before s)).bad ≡ false) → ((s : WireState) → (o : Oracle) × (more : List DriverCall) × (calls_in es ++ more ≡ (m (before s)).calls (told es o)))
      → Acts history grown m before after d d2 (Err NoMemory)
  ends_short {es = es} served fair front = record { entries = es; served = served; outcome = λ s. (front s, λ bad. let f = fair s in absurd (cc)) }

  -- the same, passed on by `?`
  pub passes_short : {d d2 : D} {es : List DriverEntry} (result : Result Reply ExecStop) → IsErrAnd result (λ e. e ≡ no_memory) → Served history grown d d2 es → ((s : WireState) → (m (before s)).bad ≡ false)
      → ((s : WireState) → (o : Oracle) × (more : List DriverCall) × (calls_in es ++ more ≡ (m (before s)).calls (told es o))) → Acts history grown m before after d d2 result
  passes_short result passed served fair front = let p = err_from_is_err_and result passed in rw (p.1, p.2) (ends_short served fair front)

  -- there was no memory before any call
  pub ends_at_once : ((a : D) → grown a a) → {d : D} → Acts history grown m before after d d (Err NoMemory)
  ends_at_once itself {d} = record { entries = []; served = Served-nothing itself d; outcome = λ s. ((default_answers, (m (before s)).calls default_answers, refl), λ bad. refl) }

  pub passes_at_once : ((a : D) → grown a a) → {d : D} (result : Result Reply ExecStop) → IsErrAnd result (λ e. e ≡ no_memory) → Acts history grown m before after d d result
  passes_at_once itself result passed = let p = err_from_is_err_and result passed in rw (p.1, p.2) (ends_at_once itself)

  -- the driver stopped at the first call, and `?` passes its stop on
  pub passes_stop : {T : Type 0} {d d2 : D} {stop : DriverStop} (result : Result Reply ExecStop) {next : DriverCall} {more : List DriverCall} → IsErrAnd result (λ e. e ≡ stop_of_driver stop) → Served history grown d d2 [] → Caused {T = T} (history d) (history d2) (Err stop)
      → ((s : WireState) → (m (before s)).bad ≡ false) → ((s : WireState) → next ∷ more ≡ (m (before s)).calls default_answers) → Acts history grown m before after d d2 result
  passes_stop {T} {d} {d2} {stop} result {next} {more} passed served caused fair first =
      let p = err_from_is_err_and result passed in
      rw (p.1, p.2) (record { entries = []; served = served; outcome = λ s. outcome-stopped (m (before s)) (before s) (after s) {T = T} d d2 stop (Err stop) refl served caused (fair s) (default_answers, next, more, first s) })

  -- the driver stopped in calls that the command begins with, whatever is answered, and `?` passes its stop on
  pub passes_stop_in : {d d2 : D} {stop : DriverStop} (result : Result Reply ExecStop) {calls : List DriverCall} → IsErrAnd result (λ e. e ≡ stop_of_driver stop) → StoppedIn history grown d d2 calls stop → ((s : WireState) → (m (before s)).bad ≡ false)
      → ((s : WireState) (o : Oracle) → (left : List DriverCall) × (calls ++ left ≡ (m (before s)).calls o)) → Acts history grown m before after d d2 result
  passes_stop_in {d} {d2} {stop} result passed stopped fair first =
      let p = err_from_is_err_and result passed in
      rw (p.1, p.2) (record {
        entries = stopped.entries;
        served = stopped.served;
        outcome = λ s. outcome-stopped_in (m (before s)) (before s) (after s) d d2 stop stopped (fair s) (first s (told stopped.entries default_answers));
      })

  -- behind these entries it goes on as one with another meaning
  pub goes_on : ((a b c : D) → grown a b → grown b c → grown a c) → {m1 : WireState → Meaning WireState} {before1 : WireState → WireState} {d d1 d2 : D} {es : List DriverEntry} (result : Result Reply ExecStop) → Served history grown d d1 es → (history d1).stop ≡ (history d).stop
      → ((s : WireState) → Leads (m (before s)) (m1 (before1 s)) es) → Acts history grown m1 before1 after d1 d2 result → Acts history grown m before after d d2 result
  goes_on further {m1} {before1} {d} {d1} {d2} {es} result served going leads a =
      let both = Served-join further served a.served in
      record {
        entries = es ++ a.entries;
        served = both;
        outcome = λ s. outcome-goes_on (m (before s)) (before s) (after s) (m1 (before1 s)) (before1 s) es a.entries (history d) (history d1) (history d2) result both.counted going (leads s) (a.outcome s);
      }

  -- behind calls that were made, it goes on as one with another meaning
  pub goes_on_behind : ((a b c : D) → grown a b → grown b c → grown a c) → {m1 : WireState → Meaning WireState} {before1 : WireState → WireState} {d d1 d2 : D} {calls : List DriverCall} (result : Result Reply ExecStop) → Made history grown d d1 calls
      → ((s : WireState) (es : List DriverEntry) → calls_in es ≡ calls → Leads (m (before s)) (m1 (before1 s)) es) → Acts history grown m1 before1 after d1 d2 result → Acts history grown m before after d d2 result
  goes_on_behind further result made leads a = goes_on further result made.served made.going (λ s. leads s made.entries made.all) a

  -- it is the same where more parts are lent
  pub widens : (f : WireState → WireState) {d d2 : D} {result : Result Reply ExecStop} → Acts history grown m before after d d2 result → Acts history grown m (λ s. before (f s)) (λ s. after (f s)) d d2 result
  widens f a = record { entries = a.entries; served = a.served; outcome = λ s. a.outcome (f s) }

abbrev pub means : Command → List ℕ → WireState → Meaning WireState
means c payload w = command_meaning w c payload

abbrev pub own_means : Command → List ℕ → WireState → Meaning WireState
own_means c payload w = own_meaning w c payload

-- the calls of a command's name do not depend on what is written of images
own_calls_zeroed : (w : WireState) (f : Covers) (m : Marks) (c : Command) (payload : List ℕ) (o : Oracle) → own_calls (record w { covers = f; marks = m }) c payload o ≡ own_calls w c payload o
own_calls_zeroed w f m Noop payload o = refl
own_calls_zeroed w f m (SetToken token) payload o = refl
own_calls_zeroed w f m (Bucket c) payload o = refl
own_calls_zeroed w f m (Object c) payload o = refl
own_calls_zeroed w f m (Image c) payload o = refl
own_calls_zeroed w f m (Draw c) payload o = refl
own_calls_zeroed w f m (Query c) payload o = refl

-- a command that is not refused is its own part behind its zeroings
pub zeroed_leads : (w : WireState) (c : Command) (payload : List ℕ) → is_bad w c ≡ false → command_refusal w.es c payload ≡ None → (es : List DriverEntry) → calls_in es ≡ zeroings w.es.textures.objects w.covers w.marks (whole_first w c) → ((o : Oracle) → told es o ≡ o)
    → Leads (command_meaning w c payload) (own_meaning (zeroed w c) c payload) es
zeroed_leads w c payload fair taken es all nothing = record {
  fair = fair;
  fair_after = refl;
  step = λ o. ap (wire_step w c payload) (nothing o) ∙ ap (λ r. step_by r w c payload o) taken;
  calls = λ o.
      ap (command_calls w c payload) (nothing o) ∙ ap (λ r. calls_by r w c payload o) taken
      ∙ ap (λ (calls : List DriverCall). calls ++ own_calls w c payload o) (sym all)
      ∙ ap (λ (calls : List DriverCall). calls_in es ++ calls) (sym (own_calls_zeroed w (zeroed w c).covers (zeroed w c).marks c payload o));
}

-- a command that is not refused, and needs no image written first, is its own part
pub own_leads : (w : WireState) (c : Command) (payload : List ℕ) → whole_first w c ≡ [] → is_bad w c ≡ false → command_refusal w.es c payload ≡ None → Leads (command_meaning w c payload) (own_meaning w c payload) []
own_leads w c payload whole fair taken = record {
  fair = fair;
  fair_after = refl;
  step = λ o. ap (λ r. step_by r w c payload o) taken ∙ ap (λ is. own_step (record w { covers = all_filled w.es.textures.objects w.covers is; marks = all_marked w.marks is }) c payload o) whole;
  calls = λ o. ap (λ r. calls_by r w c payload o) taken ∙ ap (λ is. zeroings w.es.textures.objects w.covers w.marks is ++ own_calls w c payload o) whole;
}

module _ {D : Type 0} {history : D → History} {grown : D → D → Type 0} (c : Command) (payload : List ℕ) {before after : WireState → WireState} where
  -- it is refused
  pub ends_refused : ((a : D) → grown a a) → {d : D} {error : GlError} → ((s : WireState) → is_bad (before s) c ≡ false) → ((s : WireState) → command_refusal (before s).es c payload ≡ Some error) → ((s : WireState) → record (before s) { es = with_error (before s).es error } ≡ after s)
      → Acts history grown (means c payload) before after d d (Ok reply.None)
  ends_refused itself {error = error} fair refused is = ends_alone {m = means c payload} itself fair (λ s o. sym (ap (λ r. calls_by r (before s) c payload o) (refused s)))
      (λ s o. ap (λ r. step_by r (before s) c payload o) (refused s) ∙ (λ i. record { state = is s i; oracle = o; reply = reply.None }))

  -- what is left of it, once it was found to be neither malformed nor refused
  pub ends_own : ((a : D) → grown a a) → ((a b c : D) → grown a b → grown b c → grown a c) → {d d2 : D} {result : Result Reply ExecStop} → ((s : WireState) → whole_first (before s) c ≡ []) → ((s : WireState) → is_bad (before s) c ≡ false) → ((s : WireState) → command_refusal (before s).es c payload ≡ None)
      → Acts history grown (own_means c payload) before after d d2 result → Acts history grown (means c payload) before after d d2 result
  ends_own itself further {d} {result = result} whole fair taken a = goes_on further result (Served-nothing itself d) refl (λ s. own_leads (before s) c payload (whole s) (fair s) (taken s)) a

  -- the driver stopped in its zeroings, and `?` passes its stop on
  pub passes_zeroing_stop : {d d2 : D} {stop : DriverStop} (result : Result Reply ExecStop) {calls : List DriverCall} → IsErrAnd result (λ e. e ≡ stop_of_driver stop) → StoppedIn history grown d d2 calls stop → ((s : WireState) → is_bad (before s) c ≡ false)
      → ((s : WireState) → command_refusal (before s).es c payload ≡ None) → ((s : WireState) → calls ≡ zeroings (before s).es.textures.objects (before s).covers (before s).marks (whole_first (before s) c)) → Acts history grown (means c payload) before after d d2 result
  passes_zeroing_stop result passed stopped fair taken all = passes_stop_in {m = means c payload} result passed stopped fair
      (λ s o. (own_calls (before s) c payload o, ap (λ (cs : List DriverCall). cs ++ own_calls (before s) c payload o) (all s) ∙ sym (ap (λ r. calls_by r (before s) c payload o) (taken s))))

  -- what is left of it behind its zeroings
  pub ends_zeroed : ((a b c : D) → grown a b → grown b c → grown a c) → {d d1 d2 : D} (result : Result Reply ExecStop) {calls : List DriverCall} → Made history grown d d1 calls → ((s : WireState) → is_bad (before s) c ≡ false)
      → ((s : WireState) → command_refusal (before s).es c payload ≡ None) → ((s : WireState) → calls ≡ zeroings (before s).es.textures.objects (before s).covers (before s).marks (whole_first (before s) c))
      → Acts history grown (own_means c payload) (λ s. zeroed (before s) c) after d1 d2 result → Acts history grown (means c payload) before after d d2 result
  ends_zeroed further result made fair taken all a = goes_on_behind further result made (λ s es made_all.
      zeroed_leads (before s) c payload (fair s) (taken s) es (made_all ∙ all s) (zeroings_told (before s).es.textures.objects (before s).covers (before s).marks (whole_first (before s) c) es (made_all ∙ all s))) a

  -- it keeps to the laws, where each command does that was one step with the answers of its own part
  pub lawful : ((w : WireState) (d : DriverState) → Agrees w d → is_bad w c ≡ false → (w2 : WireState) (d2 : DriverState) (es : List DriverEntry) (r : Reply) → IsLegal d es → d2 ≡ state_after d es
      → ((o : Oracle) → wire_step w c payload (told es o) ≡ record { state = w2; oracle = o; reply = r }) → ((o : Oracle) → calls_in es ≡ command_calls w c payload (told es o)) → Keeps (contents_after w.es c payload) (step_records w.es c payload) d es w2 d2)
      → {d d2 : D} (result : Result Reply ExecStop) → Acts history grown (means c payload) before after d d2 result → IsLawful history grown c payload before after d d2 result
  lawful law {d} {d2} (Ok r) a = record {
    acts = a;
    keeps = λ s agrees. let did = a.outcome s in law (before s) (history d).state agrees did.fair (after s) (history d2).state a.entries r a.served.legal a.served.state did.step did.part;
  }
  lawful law (Err stop) a = record { acts = a; keeps = tt }
