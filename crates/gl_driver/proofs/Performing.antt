-- How a command comes to have done what it means.
use Rattle.std.proofs.Common.{◌≡◌, false, List, [], ◌∷◌, ◌++◌, Some, Result, Ok, Err, refl, sym, ◌∙◌, ap, append_assoc}
use Rattle.gl_plain.specs.declared.driver_calls.DriverEntry.{DriverEntry}
use Rattle.gl_plain.specs.declared.driver_calls.DriverCall.{DriverCall}
use Rattle.gl_plain.specs.declared.calls.Reply.{Reply}
use Rattle.gl_plain.specs.declared.stop.ExecStop.{ExecStop}
use Rattle.gl_plain.specs.declared.stop.ExecStop.TheVariants.{Bad, Lost, NoMemory}
use Rattle.gl_plain.specs.Oracle.{Oracle, default_answers}
use Rattle.gl_plain.specs.driver.Answers.{told}
use Rattle.gl_plain.specs.Meaning.{Meaning}
use Rattle.gl_plain.specs.Parts.{calls_in}
use Rattle.gl_plain.proofs.Journals.{told-append, calls_in-append}
use Rattle.gl_driver.specs.History.{History, Counted, Served, Caused, stop_of}
use Rattle.gl_driver.specs.Stops.{stop_of_driver}
use Rattle.gl_driver.specs.Performed.{Leads, StoppedIn, IsOutcome}
use Rattle.gl_driver.specs.declared.stop.DriverStop.{DriverStop}
use Rattle.gl_driver.specs.declared.stop.DriverStop.TheVariants as driver

-- the driver stopped at the first call of the command
abbrev pub HasCall : {S : Type 0} → Meaning S → Type 0
HasCall m = (o : Oracle) × (next : DriverCall) × (more : List DriverCall) × (next ∷ more ≡ m.calls o)

module _ {S : Type 0} (m : Meaning S) (before after : S) where
  pub outcome-stopped : {D : Type 0} {history : D → History} {grown : D → D → Type 0} {T : Type 0} (d d2 : D) (stop : DriverStop) (r : Result T DriverStop) → stop_of r ≡ Some stop → Served history grown d d2 [] → Caused (history d) (history d2) r → m.bad ≡ false → HasCall m
      → IsOutcome m (history d) (history d2) [] before after (Err (stop_of_driver stop))
  outcome-stopped d d2 driver.Lost r is served caused fair call = record { stopped = caused.stop ∙ is; cause = served.counted.lost (caused.stop ∙ is); fair = fair; front = call }
  outcome-stopped d d2 driver.NoMemory r is served caused fair call = ((call.0, call.1 ∷ call.2, call.3), λ bad. refl)

  -- the driver stopped in calls that the command begins with
  pub outcome-stopped_in : {D : Type 0} {history : D → History} {grown : D → D → Type 0} (d d2 : D) (stop : DriverStop) {calls : List DriverCall} (stopped : StoppedIn history grown d d2 calls stop) → m.bad ≡ false
      → (left : List DriverCall) × (calls ++ left ≡ m.calls (told stopped.entries default_answers)) → IsOutcome m (history d) (history d2) stopped.entries before after (Err (stop_of_driver stop))
  outcome-stopped_in d d2 driver.Lost s fair first = record {
    stopped = s.caused.stop;
    cause = s.served.counted.lost s.caused.stop;
    fair = fair;
    front = (default_answers, s.next, s.more ++ first.0, sym (append_assoc (calls_in s.entries) (s.next ∷ s.more) first.0) ∙ ap (λ (calls : List DriverCall). calls ++ first.0) s.front ∙ first.1);
  }
  outcome-stopped_in d d2 driver.NoMemory s fair first = (
    (
      default_answers,
      s.next ∷ (s.more ++ first.0),
      sym (append_assoc (calls_in s.entries) (s.next ∷ s.more) first.0) ∙ ap (λ (calls : List DriverCall). calls ++ first.0) s.front ∙ first.1,
    ),
    λ bad. cc,
  )

  -- behind entries at which the driver did not stop the command goes on
  pub outcome-goes_on : (m1 : Meaning S) (before1 : S) (es fs : List DriverEntry) (h h1 h2 : History) (result : Result Reply ExecStop) → Counted h h2 (es ++ fs) → h1.stop ≡ h.stop → Leads m m1 es
      → IsOutcome m1 h1 h2 fs before1 after result → IsOutcome m h h2 (es ++ fs) before after result
  outcome-goes_on m1 before1 es fs h h1 h2 (Ok reply) counted going leads did = record {
    fair = leads.fair;
    step = λ rest. ap m.step (told-append es fs rest) ∙ leads.step (told fs rest) ∙ did.step rest;
    part = λ rest.
        calls_in-append es fs ∙ ap (λ (calls : List DriverCall). calls_in es ++ calls) (did.part rest)
        ∙ sym (ap m.calls (told-append es fs rest) ∙ leads.calls (told fs rest));
    stop = did.stop ∙ going;
  }
  outcome-goes_on m1 before1 es fs h h1 h2 (Err (Bad kind)) counted going leads was = let bad = was.bad in let fair = leads.fair_after in cc
  outcome-goes_on m1 before1 es fs h h1 h2 (Err Lost) counted going leads was = record {
    stopped = was.stopped;
    cause = counted.lost was.stopped;
    fair = leads.fair;
    front = let p = was.front in (
      p.0,
      p.1,
      p.2,
      ap (λ (calls : List DriverCall). calls ++ p.1 ∷ p.2) (calls_in-append es fs) ∙ append_assoc (calls_in es) (calls_in fs) (p.1 ∷ p.2) ∙ ap (λ (calls : List DriverCall). calls_in es ++ calls) p.3
          ∙ sym (ap m.calls (told-append es fs p.0) ∙ leads.calls (told fs p.0)),
    );
  }
  outcome-goes_on m1 before1 es fs h h1 h2 (Err NoMemory) counted going leads short =
      let front = short.0 in (
        (
          front.0,
          front.1,
          ap (λ (calls : List DriverCall). calls ++ front.1) (calls_in-append es fs) ∙ append_assoc (calls_in es) (calls_in fs) front.1 ∙ ap (λ (calls : List DriverCall). calls_in es ++ calls) front.2
              ∙ sym (ap m.calls (told-append es fs front.0) ∙ leads.calls (told fs front.0)),
        ),
        λ bad. let fair = leads.fair in cc,
      )
