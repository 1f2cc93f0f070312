-- What the family call shows once, for all queries.
use Rattle.std.proofs.Common.{◌≡◌, ℕ, false, List, [], Option, None, Some, Result, refl, subst}
use Rattle.gl_plain.specs.declared.calls.Reply.{Reply}
use Rattle.gl_plain.specs.declared.commands.Command.{Command}
use Rattle.gl_plain.specs.declared.commands.Command.TheVariants.{Query}
use Rattle.gl_plain.specs.declared.commands.QueryCommand.{QueryCommand}
use Rattle.gl_plain.specs.declared.stop.ExecStop.{ExecStop}
use Rattle.gl_plain.specs.State.{WireState, DriverState}
use Rattle.gl_plain.specs.query.Refusal.{query_command_refusal}
use Rattle.gl_plain.specs.Agreement.{AgreesIn}
use Rattle.gl_laws.proofs.Commands.{may_go_on, keeps}
use Rattle.gl_driver.specs.History.{History}
use Rattle.gl_driver.specs.Performed.{Acts, IsLawful, IsOutcome}
use Rattle.gl_driver.proofs.Exits.{means, lawful}
use Rattle.decode_query.specs.States.{IsReady}
use Rattle.decode_query.specs.States as States
use Rattle.gl_plain.specs.Meaning.{Meaning}
use Rattle.gl_plain.specs.Wire.{step_by, calls_by}
use Rattle.gl_plain.specs.declared.errors.GlError.{GlError}

-- what keeps to the laws does so however the command is called
pub lawful_of : (c : QueryCommand) (x : Command) (spelled : Option Command) → spelled ≡ Some (Query c) → spelled ≡ Some x → {D : Type 0} {history : D → History} {grown : D → D → Type 0} (payload : List ℕ) {before after : WireState → WireState} {d d2 : D} (result : Result Reply ExecStop)
    → IsLawful history grown (Query c) payload before after d d2 result → IsLawful history grown x payload before after d d2 result
lawful_of c x spelled is e {history = history} {grown} payload {before} {after} {d} {d2} result keeping =
    let same : Query c ≡ x = cc in subst (λ (y : Command). IsLawful history grown y payload before after d d2 result) same keeping

-- a query has no data, so it means the same with any
payload_free : (c : QueryCommand) (payload : List ℕ) (w : WireState) → States.means c w ≡ means (Query c) payload w
payload_free c payload w = go (query_command_refusal w.es c)
  where
    meaning_by : Option GlError → List ℕ → Meaning WireState
    meaning_by r bytes = record { bad = false; step = step_by r w (Query c) bytes; calls = calls_by r w (Query c) bytes }

    go : (r : Option GlError) → meaning_by r [] ≡ meaning_by r payload
    go None = refl
    go (Some e) = refl

module _ (c : QueryCommand) {before : WireState → WireState} where
  -- what was tested, and the law that its driver calls may be made
  pub ready : (d : DriverState) (agrees : AgreesIn before d) → query_command_refusal (before agrees.others).es c ≡ None → IsReady c before d
  ready d agrees taken = record { others = agrees.others; taken = taken; may = may_go_on (before agrees.others) d agrees.agrees (Query c) [] refl tt }

  -- the query keeps to the laws
  pub keeps_to_laws : (payload : List ℕ) {after : WireState → WireState} {D : Type 0} {history : D → History} {grown : D → D → Type 0} {d d2 : D} (result : Result Reply ExecStop)
      → Acts history grown (States.means c) before after d d2 result → IsLawful history grown (Query c) payload before after d d2 result
  keeps_to_laws payload {after} {D} {history} {grown} {d} {d2} result a =
      let acts : Acts history grown (means (Query c) payload) before after d d2 result = record {
        entries = a.entries;
        served = a.served;
        outcome = λ s. subst (λ (m : Meaning WireState). IsOutcome m (history d) (history d2) a.entries (before s) (after s) result) (payload_free c payload (before s)) (a.outcome s);
      } in
      lawful (Query c) payload (λ w e agrees. keeps w e agrees (Query c) payload) result acts
