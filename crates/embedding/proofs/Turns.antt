-- From the steps of the service to what an embedding gets.
use Rattle.std.proofs.Common.{◌≡◌, ◌<◌, ◌⊎◌, List, [], ◌∷◌, ◌++◌, Option, None, Some, IfSome, Ok, Err, refl, sym, ◌∙◌, ap, subst, append_assoc, append-nil, inl, inr}
use Rattle.gl_plain.specs.declared.calls.Reply.{Reply}
use Rattle.gl_plain.specs.declared.commands.Fetched.{Fetched}
use Rattle.gl_plain.specs.declared.commands.Stop.{Stop}
use Rattle.gl_plain.specs.declared.driver_calls.DriverEntry.{DriverEntry}
use Rattle.gl_plain.specs.State.{WireState}
use Rattle.gl_driver.specs.History.{History, Served}
use Rattle.gl_driver.proofs.Laws.{Served-nothing, Served-join}
use Rattle.decoder_core.specs.declared.outcome.ServiceStop.{ServiceStop}
use Rattle.decoder_core.specs.declared.outcome.ServiceStop.TheVariants as stops
use Rattle.decoder_core.specs.declared.outcome.StepOutcome.TheVariants as outcomes
use Rattle.decoder_core.specs.ServiceView.{ServiceView, wire_of}
use Rattle.decoder_core.specs.Side.{Side, seen_side}
use Rattle.decoder_core.specs.Step.{DidCopies, Steps, WasStopped}
use Rattle.decoder_core.specs.Remaining.{left_to_do}
use Rattle.decoder_core.specs.RunsSoFar.{HasRun}
use Rattle.embedding.specs.Serving.{GoesOnBy, Executed, RanWhole, WasCutOff, IsAsBefore, Went, Rested, WasCut, StopsNow, StoppedBefore, Takes, CameToPut, Works, StaysStopped}

-- no command leaves the state as it is
goes_nowhere : (w : WireState) → GoesOnBy w [] w [] []
goes_nowhere w start before answered entered run =
    subst (λ (fs : List Fetched). HasRun start fs w (answered ++ []) (entered ++ [])) (sym (append-nil before))
    (subst (λ (rs : List Reply). HasRun start before w rs (entered ++ [])) (sym (append-nil answered))
    (subst (λ (es : List DriverEntry). HasRun start before w answered es) (sym (append-nil entered)) run))

-- commands behind others
goes_further : (w1 w2 w3 : WireState) (fs fs2 : List Fetched) (rs rs2 : List Reply) (es es2 : List DriverEntry) → GoesOnBy w1 fs w2 rs es → GoesOnBy w2 fs2 w3 rs2 es2 → GoesOnBy w1 (fs ++ fs2) w3 (rs ++ rs2) (es ++ es2)
goes_further w1 w2 w3 fs fs2 rs rs2 es es2 first second start before answered entered run =
    subst (λ (all : List Fetched). HasRun start all w3 (answered ++ (rs ++ rs2)) (entered ++ (es ++ es2))) (append_assoc before fs fs2)
    (subst (λ (all : List Reply). HasRun start ((before ++ fs) ++ fs2) w3 all (entered ++ (es ++ es2))) (append_assoc answered rs rs2)
    (subst (λ (all : List DriverEntry). HasRun start ((before ++ fs) ++ fs2) w3 ((answered ++ rs) ++ rs2) all) (append_assoc entered es es2)
    (second start (before ++ fs) (answered ++ rs) (entered ++ es) (first start before answered entered run))))

-- what a copy leaves: the state, and that the service goes on
copies_leave : (a b : Side History) (entries : List DriverEntry) → DidCopies a b entries → (wire_of b.service ≡ wire_of a.service) × (b.service.stop ≡ a.service.stop)
copies_leave a b entries did = elim did.copy [
  | inl p ↦ (ap wire_of p.1, ap (λ (v : ServiceView). v.stop) p.1)
  | inr p ↦ (ap wire_of p.2, ap (λ (v : ServiceView). v.stop) p.2)
]

-- the turns so far
pub record SoFar {D : Type 0} (history : D → History) (grown : D → D → Type 0) (a : Side D) (before : List Reply) (b : Side D) (after : List Reply) : Type 0 where
  pub ran : RanWhole history grown a before b after
  pub stays : (stop : ServiceStop) → a.service.stop ≡ Some stop → IsAsBefore history a before b after

module _ {D : Type 0} {history : D → History} {grown : D → D → Type 0} where
  -- no command was executed, and the driver was given these calls
  executed_none : (a : Side D) (before : List Reply) (d : D) (after : List Reply) (next : WireState) (front : List DriverEntry) → after ≡ before → next ≡ wire_of a.service → Served history grown a.driver d front
      → Executed history grown a before d after next front
  executed_none a before d after next front same is served = record {
    commands = [];
    replies = [];
    entries = [];
    answered = same ∙ sym (append-nil before);
    served = served;
    run = subst (λ (w : WireState). GoesOnBy (wire_of a.service) [] w [] []) (sym is) (goes_nowhere (wire_of a.service));
  }

  -- whole commands were executed, and then more
  executed_further : ((a b c : D) → grown a b → grown b c → grown a c) → (a b : Side D) (before mid : List Reply) (d : D) (after : List Reply) (next : WireState) (front : List DriverEntry) → RanWhole history grown a before b mid → Executed history grown b mid d after next front
      → Executed history grown a before d after next front
  executed_further further a b before mid d after next front p q =
      let entries : (p.entries ++ []) ++ (q.entries ++ front) ≡ (p.entries ++ q.entries) ++ front =
      ap (λ (es : List DriverEntry). es ++ (q.entries ++ front)) (append-nil p.entries) ∙ sym (append_assoc p.entries q.entries front) in
      record {
        commands = p.commands ++ q.commands;
        replies = p.replies ++ q.replies;
        entries = p.entries ++ q.entries;
        answered = q.answered ∙ ap (λ (rs : List Reply). rs ++ q.replies) p.answered ∙ append_assoc before p.replies q.replies;
        served = subst (λ (es : List DriverEntry). Served history grown a.driver d es) entries (Served-join further p.served q.served);
        run = goes_further (wire_of a.service) (wire_of b.service) next p.commands q.commands p.replies q.replies p.entries q.entries p.run q.run;
      }

  -- no entries were made
  none_served : (d d2 : D) (entries : List DriverEntry) → entries ≡ [] → Served history grown d d2 entries → Served history grown d d2 []
  none_served d d2 entries none served = subst (λ (es : List DriverEntry). Served history grown d d2 es) none served

  -- one turn, by the outcome of its step
  module _ (a b : Side D) (before : List Reply) where
    pub turn_copied : Steps history grown a b outcomes.Copied → left_to_do b.service < left_to_do a.service → Went history grown a before b before
    turn_copied steps less =
        let did = steps.step in
        let leaves = copies_leave (seen_side history a) (seen_side history b) steps.entries did in
        record {
          ran = executed_none a before b.driver before (wire_of b.service) [] refl leaves.0 (none_served a.driver b.driver steps.entries did.untouched.no_calls steps.served);
          was_going = did.going;
          going = leaves.1 ∙ did.going;
          less = less;
        }

    pub turn_executed : (reply : Reply) (after : List Reply) → Steps history grown a b (outcomes.Executed reply) → left_to_do b.service < left_to_do a.service → after ≡ before ++ reply ∷ [] → Went history grown a before b after
    turn_executed reply after steps less answered =
        let did = steps.step in
        record {
          ran = record {
            commands = did.command ∷ [];
            replies = reply ∷ [];
            entries = steps.entries;
            answered = answered;
            served = subst (λ (es : List DriverEntry). Served history grown a.driver b.driver es) (sym (append-nil steps.entries)) steps.served;
            run = did.run;
          };
          was_going = did.going;
          going = ap (λ (v : ServiceView). v.stop) did.after ∙ did.going;
          less = less;
        }

    -- it was executed, but there was no memory for its reply
    pub turn_dropped : (reply : Reply) (after : List Reply) → Steps history grown a b (outcomes.Executed reply) → after ≡ before → StopsNow history grown a before b after stops.NoMemory
    turn_dropped reply after steps same = let did = steps.step in record { was_going = did.going; front = steps.entries; served = steps.served; same_replies = same }

    pub turn_idle : Steps history grown a b outcomes.Idle → Rested history grown a before b before
    turn_idle steps =
        let did = steps.step in
        record {
          as_before = record { same_service = did.after; same_memory = did.at_put.same; same_driver = did.untouched.same_driver; same_replies = refl };
          served = none_served a.driver b.driver steps.entries did.untouched.no_calls steps.served;
          going = did.going;
          at_put = did.at_put.at_put;
        }

    was_stopped : (stop : ServiceStop) (entries : List DriverEntry) → Served history grown a.driver b.driver entries → WasStopped (seen_side history a) (seen_side history b) entries stop → StoppedBefore history grown a before b before stop
    was_stopped stop entries served was = record {
      stopped = was.stopped;
      as_before = record { same_service = was.after; same_memory = was.same; same_driver = was.untouched.same_driver; same_replies = refl };
      served = none_served a.driver b.driver entries was.untouched.no_calls served;
    }

    pub turn_bad : (stop : Stop) → Steps history grown a b (outcomes.Bad stop.kind stop.place) → Takes history grown a before b before (Err (stops.Bad stop))
    turn_bad stop steps = elim steps.step [
      | inl did ↦ inl (record {
        was_going = did.going;
        stopped = ap (λ (v : ServiceView). v.stop) did.after;
        same_state = did.same_state;
        same_driver = did.untouched.same_driver;
        served = none_served a.driver b.driver steps.entries did.untouched.no_calls steps.served;
        same_replies = refl;
      })
      | inr was ↦ inr (was_stopped (stops.Bad stop) steps.entries steps.served was)
    ]

    pub turn_lost : Steps history grown a b outcomes.Lost → Takes history grown a before b before (Err stops.Lost)
    turn_lost steps = elim steps.step [
      | inl did ↦ inl (record { was_going = did.going; front = steps.entries; served = steps.served; same_replies = refl }, ap (λ (v : ServiceView). v.stop) did.after)
      | inr was ↦ inr (was_stopped stops.Lost steps.entries steps.served was)
    ]

    pub turn_short : Steps history grown a b outcomes.NoMemory → Takes history grown a before b before (Err stops.NoMemory)
    turn_short steps = elim steps.step [
      | inl did ↦ inl (record { was_going = did.going; front = steps.entries; served = steps.served; same_replies = refl })
      | inr was ↦ inr (was_stopped stops.NoMemory steps.entries steps.served was)
    ]

  pub none_so_far : ((d : D) → grown d d) → (a : Side D) (before : List Reply) → SoFar history grown a before a before
  none_so_far itself a before = record {
    ran = executed_none a before a.driver before (wire_of a.service) [] refl refl (Served-nothing itself a.driver);
    stays = λ stop is. record { same_service = refl; same_memory = refl; same_driver = refl; same_replies = refl };
  }

  module _ (further : (a b c : D) → grown a b → grown b c → grown a c) (a b : Side D) (before mid : List Reply) (so : SoFar history grown a before b mid) (c : Side D) (after : List Reply) where
    -- a service that stopped before takes no turn
    stopped_still : (stop : ServiceStop) → a.service.stop ≡ Some stop → b.service.stop ≡ Some stop
    stopped_still stop is = ap (λ (v : ServiceView). v.stop) (so.stays stop is).same_service ∙ is

    none_stopped : (stop : ServiceStop) → b.service.stop ≡ None → a.service.stop ≡ Some stop → ⊥
    none_stopped stop going is = let e : None ≡ Some stop = sym going ∙ stopped_still stop is in cc

    pub one_more : Went history grown b mid c after → SoFar history grown a before c after
    one_more went = record {
      ran = executed_further further a b before mid c.driver after (wire_of c.service) [] so.ran went.ran;
      stays = λ stop is. absurd (none_stopped stop went.was_going is);
    }

    -- the calls that were made by then, where no command was executed since
    cut_off : (next : WireState) (front : List DriverEntry) → next ≡ wire_of b.service → after ≡ mid → Served history grown b.driver c.driver front → Executed history grown a before c.driver after next front
    cut_off next front is same served = executed_further further a b before mid c.driver after next front so.ran (executed_none b mid c.driver after next front same is served)

    pub came_to_put : Rested history grown b mid c after → CameToPut history grown a before c after
    came_to_put rested =
        let same = rested.as_before.same_service in
        record {
          ran = cut_off (wire_of c.service) [] (ap wire_of same) rested.as_before.same_replies rested.served;
          going = ap (λ (v : ServiceView). v.stop) same ∙ rested.going;
          at_put = ap (λ (v : ServiceView). v.fetch.get) same ∙ rested.at_put ∙ sym (ap (λ (v : ServiceView). v.fetch.put) same);
        }

    pub none_stays : Rested history grown b mid c after → (stop : ServiceStop) → a.service.stop ≡ Some stop → StaysStopped history a before c after (Ok tt) stop
    none_stays rested stop is = absurd (none_stopped stop rested.going is)

    whole_before : (stop : ServiceStop) → StoppedBefore history grown b mid c after stop → RanWhole history grown a before c after × (c.service.stop ≡ Some stop)
    whole_before stop was =
        let same = was.as_before.same_service in
        (cut_off (wire_of c.service) [] (ap wire_of same) was.as_before.same_replies was.served, ap (λ (v : ServiceView). v.stop) same ∙ was.stopped)

    cut_before : (stop : ServiceStop) → StoppedBefore history grown b mid c after stop → WasCutOff history grown a before c after × (c.service.stop ≡ Some stop)
    cut_before stop was = let whole = whole_before stop was in (record { next = wire_of c.service; front = []; ran = whole.0 }, whole.1)

    was_cut : WasCut history grown b mid c after → WasCutOff history grown a before c after
    was_cut cut = record { next = wire_of b.service; front = cut.front; ran = cut_off (wire_of b.service) cut.front refl cut.same_replies cut.served }

    pub ended : (stop : ServiceStop) → StopsNow history grown b mid c after stop ⊎ StoppedBefore history grown b mid c after stop → Works history grown a before c after (Err stop)
    ended (stops.Bad at) (inl bad) = (cut_off (wire_of c.service) [] bad.same_state bad.same_replies bad.served, bad.stopped)
    ended (stops.Bad at) (inr was) = whole_before (stops.Bad at) was
    ended stops.Lost (inl lost) = (was_cut lost.0, lost.1)
    ended stops.Lost (inr was) = cut_before stops.Lost was
    ended stops.NoMemory (inl short) = was_cut short
    ended stops.NoMemory (inr was) = (cut_before stops.NoMemory was).0

    was_going : (stop : ServiceStop) → StopsNow history grown b mid c after stop → b.service.stop ≡ None
    was_going (stops.Bad at) bad = bad.was_going
    was_going stops.Lost lost = lost.0.was_going
    was_going stops.NoMemory short = short.was_going

    pub stays_stopped : (stop first : ServiceStop) → StopsNow history grown b mid c after stop ⊎ StoppedBefore history grown b mid c after stop → a.service.stop ≡ Some first → StaysStopped history a before c after (Err stop) first
    stays_stopped stop first (inl now) is = absurd (none_stopped first (was_going stop now) is)
    stays_stopped stop first (inr was) is =
        let so_far = so.stays first is in
        let as_before = was.as_before in
        let same : stop ≡ first = (let e : Some stop ≡ Some first = sym was.stopped ∙ stopped_still first is in cc) in
        record {
          answer = ap (λ (s : ServiceStop). Err s) same;
          as_before = record {
            same_service = as_before.same_service ∙ so_far.same_service;
            same_memory = as_before.same_memory ∙ so_far.same_memory;
            same_driver = as_before.same_driver ∙ so_far.same_driver;
            same_replies = as_before.same_replies ∙ so_far.same_replies;
          };
        }

-- what holds of the value that is there, if one is
pub where_some : {X : Type 0} {P : X → Type 0} (o : Option X) → ((x : X) → o ≡ Some x → P x) → IfSome o P
where_some None f = tt
where_some (Some x) f = f x refl
