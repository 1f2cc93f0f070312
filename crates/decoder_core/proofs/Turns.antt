-- From a step of the service to a turn of the loop that serves.
use Rattle.std.proofs.Common.{◌≡◌, ◌<◌, List, [], ◌∷◌, ◌++◌, None, Some, true, false, refl, sym, ◌∙◌, ap, append-nil, inl, inr}
use Rattle.gl_plain.specs.declared.calls.Reply.{Reply}
use Rattle.gl_plain.specs.declared.commands.Stop.{Stop}
use Rattle.gl_plain.specs.Agreement.{Agrees}
use Rattle.gl_driver.specs.History.{History}
use Rattle.gl_driver.specs.declared.stop.DriverStop.TheVariants as driver
use Rattle.decoder_core.specs.declared.outcome.StepOutcome.TheVariants.{Copied, Executed, Bad, Lost, NoMemory}
use Rattle.decoder_core.specs.ServiceView.{ServiceView, wire_of}
use Rattle.decoder_core.specs.Side.{Side, seen_side}
use Rattle.decoder_core.specs.Step.{Steps}
use Rattle.decoder_core.specs.Remaining.{left_to_do}
use Rattle.decoder_core.specs.Place.{KeepsPlace}
use Rattle.decoder_core.specs.Turn.{Took, FoundFault, WasCut}
use Rattle.decoder_core.proofs.Taking.{copied_leads, copies_more, copies_ring, copies_going, more_replied, executed_on, fault_on, bad_more, more_same, lost_breaks, short_breaks, dropped_breaks}

module _ {D : Type 0} {history : D → History} {grown : D → D → Type 0} (a b : Side D) (before : List Reply) where
  -- a copy was made
  pub takes_copy : Steps history grown a b Copied → (b.service.stop ≡ None → Agrees (wire_of b.service) (history b.driver).state) → KeepsPlace a b Copied → left_to_do b.service < left_to_do a.service
      → Took history grown a before b before
  takes_copy steps agrees keeps less =
      let old = seen_side history a in
      let new = seen_side history b in
      let going = copies_going old new steps.entries steps.step in
      record {
        entries = steps.entries;
        replies = [];
        answered = sym (append-nil before);
        served = steps.served;
        leads = copied_leads old new steps.entries steps.step keeps;
        agrees = agrees going;
        stop = ap (λ (h : History). h.stop) steps.step.untouched.same_driver;
        going = going;
        memory = copies_more old new steps.entries steps.step;
        same_ring = copies_ring old new steps.entries steps.step;
        less = less;
      }

  -- a command was executed, and its reply added
  pub takes_command : (reply : Reply) (after : List Reply) → Steps history grown a b (Executed reply) → KeepsPlace a b (Executed reply) → left_to_do b.service < left_to_do a.service → after ≡ before ++ reply ∷ []
      → Took history grown a before b after
  takes_command reply after steps keeps less answered =
      let did = steps.step in
      record {
        entries = steps.entries;
        replies = reply ∷ [];
        answered = answered;
        served = steps.served;
        leads = executed_on (seen_side history a) (seen_side history b) steps.entries reply did keeps;
        agrees = did.did.keeps.agrees;
        stop = did.did.itself.stop;
        going = ap (λ (v : ServiceView). v.stop) did.after ∙ did.going;
        memory = more_replied a.memory b.memory did.command reply did.put;
        same_ring = record { entries = ap (λ (v : ServiceView). v.fetch.entries) did.after; put = ap (λ (v : ServiceView). v.fetch.put) did.after };
        less = less;
      }

  -- it was, but there was no memory for its reply
  pub drops_reply : (reply : Reply) (after : List Reply) → Steps history grown a b (Executed reply) → after ≡ before → WasCut history grown false a before b after
  drops_reply reply after steps answered =
      let did = steps.step in
      record {
        entries = steps.entries;
        answered = answered;
        served = steps.served;
        breaks = λ reads then n k given. dropped_breaks (seen_side history a) (seen_side history b) steps.entries reply did reads then n k;
        memory = more_replied a.memory b.memory did.command reply did.put;
      }

  module _ (going : a.service.stop ≡ None) where
    -- a command was found malformed
    pub finds_fault : (stop : Stop) → Steps history grown a b (Bad stop.kind stop.place) → Agrees (wire_of a.service) (history a.driver).state → KeepsPlace a b (Bad stop.kind stop.place) → FoundFault history grown a before b before stop
    finds_fault stop steps agrees keeps = elim steps.step [
      | inl did ↦ record {
        answered = refl;
        served = rw did.untouched.no_calls at steps.served;
        same_driver = did.untouched.same_driver;
        comes = fault_on (seen_side history a) (seen_side history b) steps.entries stop did keeps;
        agrees = rw (did.same_state, did.untouched.same_driver) agrees;
        memory = bad_more (seen_side history a) (seen_side history b) steps.entries stop did.faulty;
      }
      | inr was ↦ let no = sym going ∙ was.stopped in cc
    ]

    -- the driver was lost
    pub loses_driver : Steps history grown a b Lost → WasCut history grown true a before b before × ((history b.driver).stop ≡ Some driver.Lost)
    loses_driver steps = elim steps.step [
      | inl lost ↦ (
        record {
          entries = steps.entries;
          answered = refl;
          served = steps.served;
          breaks = λ reads then n k given. lost_breaks (seen_side history a) (seen_side history b) steps.entries lost reads then n k;
          memory = more_same a.memory b.memory lost.same;
        },
        lost.lost.stopped,
      )
      | inr was ↦ let no = sym going ∙ was.stopped in cc
    ]

    -- there was no memory
    pub runs_out : Steps history grown a b NoMemory → WasCut history grown false a before b before
    runs_out steps = elim steps.step [
      | inl short ↦ record {
        entries = steps.entries;
        answered = refl;
        served = steps.served;
        breaks = λ reads then n k given. short_breaks (seen_side history a) (seen_side history b) steps.entries short reads then n k;
        memory = more_same a.memory b.memory short.same;
      }
      | inr was ↦ let no = sym going ∙ was.stopped in cc
    ]
