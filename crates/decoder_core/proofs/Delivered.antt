-- What a command leaves whose reply goes into a bucket.
use Rattle.std.proofs.Common.{◌≡◌, ℕ, false, List, Option, None, Some, Result, Ok, Err, refl, sym, ap, subst}
use Rattle.std.proofs.lemmas.Result.{err_from_is_err_and}
use Rattle.std.specs.Result.{IsErrAnd}
use Rattle.gl_plain.specs.declared.calls.Reply.{Reply}
use Rattle.gl_plain.specs.declared.commands.Command.TheVariants.{Query}
use Rattle.gl_plain.specs.declared.commands.Fetched.{Fetched}
use Rattle.gl_plain.specs.declared.commands.QueryCommand.{QueryCommand}
use Rattle.gl_plain.specs.declared.driver_calls.DriverEntry.{DriverEntry}
use Rattle.gl_plain.specs.declared.stop.ExecStop.{ExecStop}
use Rattle.gl_plain.specs.declared.stop.ExecStop.TheVariants.{Bad, Lost, NoMemory}
use Rattle.gl_plain.specs.Commands.{command_of}
use Rattle.gl_plain.specs.State.{WireState}
use Rattle.gl_plain.specs.Stops.{no_memory}
use Rattle.gl_plain.specs.subjects.Buckets.{names_no_bucket, with_reply}
use Rattle.gl_plain.specs.query.Commands.{query_bucket}
use Rattle.gl_plain.specs.Meaning.{Meaning, command_meaning, delivered, delivering}
use Rattle.gl_plain.specs.Agreement.{Agrees}
use Rattle.gl_driver.specs.History.{History}
use Rattle.gl_driver.specs.Performed as performed
use Rattle.decoder_core.specs.Execution.{Performs}
use Rattle.decoder_core.proofs.Executions.{performs_spelled}
use Rattle.decoder_core.proofs.Fronts.{front_of_part}

-- the state with this reply in a bucket, if it goes into one
abbrev pub with_delivered : WireState → Option ℕ → Reply → WireState
with_delivered w bucket r = record w { buckets = with_reply w.buckets bucket r }

module _ (m : Meaning WireState) (h h2 : History) (entries : List DriverEntry) where
  -- a command that was one step
  delivered_did : (bucket : Option ℕ) (w1 : WireState) (r : Reply) → performed.Did m h h2 entries w1 r → performed.Did (delivering bucket m) h h2 entries (with_delivered w1 bucket r) r
  delivered_did None w1 r did = did
  delivered_did (Some bucket) w1 r did = record { fair = did.fair; step = λ rest. ap (delivered (Some bucket)) (did.step rest); part = did.part; stop = did.stop }

  -- one that stopped
  delivered_stop : (bucket : Option ℕ) (w w1 : WireState) (stop : ExecStop) → performed.IsOutcome m h h2 entries w w1 (Err stop) → performed.IsOutcome (delivering bucket m) h h2 entries w w1 (Err stop)
  delivered_stop None w w1 stop outcome = outcome
  delivered_stop (Some bucket) w w1 (Bad kind) bad = record { bad = bad.bad; kind_is = bad.kind_is; no_calls = bad.no_calls; same = bad.same; same_driver = bad.same_driver }
  delivered_stop (Some bucket) w w1 Lost lost = record { stopped = lost.stopped; cause = lost.cause; fair = lost.fair; front = lost.front }
  delivered_stop (Some bucket) w w1 NoMemory front = front

-- a query, which was lent some of the tables, and names no bucket that is none
module _ {D : Type 0} {history : D → History} {grown : D → D → Type 0} (f : Fetched) (w : WireState) (d d2 : D) (agrees : Agrees w (history d).state) (c : QueryCommand) (is : command_of f ≡ Some (Query c)) (whole : names_no_bucket (query_bucket c) ≡ false) (before after : WireState → WireState) (same : before w ≡ w) where
  queried : (result : Result Reply ExecStop) (w2 : WireState) (lawful : performed.IsLawful history grown (Query c) f.payload before after d d2 result) (ended : Result Reply ExecStop)
      → (performed.IsOutcome (command_meaning w (Query c) f.payload) (history d) (history d2) lawful.acts.entries w (after w) result
      → performed.IsOutcome (delivering (query_bucket c) (command_meaning w (Query c) f.payload)) (history d) (history d2) lawful.acts.entries w w2 ended)
      → Performs history grown f w d w2 d2 ended
  queried result w2 lawful ended leads =
      let acts = lawful.acts in
      let own = subst (λ (z : WireState). performed.IsOutcome (command_meaning z (Query c) f.payload) (history d) (history d2) acts.entries z (after w) result) same (acts.outcome w) in
      performs_spelled f w d agrees (Query c) f.payload is whole refl w2 d2 acts.entries acts.served ended (leads own)

  -- it was executed, and its reply put into the bucket that it names
  pub performs_query : (reply : Reply) (w2 : WireState) → performed.IsLawful history grown (Query c) f.payload before after d d2 (Ok reply) → w2 ≡ with_delivered (after w) (query_bucket c) reply → Performs history grown f w d w2 d2 (Ok reply)
  performs_query reply w2 lawful put =
      let m = command_meaning w (Query c) f.payload in
      queried (Ok reply) w2 lawful (Ok reply)
      (λ did. subst (λ (z : WireState). performed.Did (delivering (query_bucket c) m) (history d) (history d2) lawful.acts.entries z reply) (sym put) (delivered_did m (history d) (history d2) lawful.acts.entries (query_bucket c) (after w) reply did))

  -- it stopped, and `?` passes its stop on
  pub performs_stop : (stop : ExecStop) (result : Result Reply ExecStop) → performed.IsLawful history grown (Query c) f.payload before after d d2 (Err stop) → IsErrAnd result (λ e. e ≡ stop) → Performs history grown f w d (after w) d2 result
  performs_stop stop result lawful passed =
      let p = err_from_is_err_and result passed in
      rw (p.1, p.2) (queried (Err stop) (after w) lawful (Err stop) (delivered_stop (command_meaning w (Query c) f.payload) (history d) (history d2) lawful.acts.entries (query_bucket c) w (after w) stop))

  -- there was no memory for its reply in the bucket
  pub performs_short : (reply : Reply) (w2 : WireState) (result : Result Reply ExecStop) → performed.IsLawful history grown (Query c) f.payload before after d d2 (Ok reply) → IsErrAnd result (λ e. e ≡ no_memory) → Performs history grown f w d w2 d2 result
  performs_short reply w2 result lawful passed =
      let m = command_meaning w (Query c) f.payload in
      let p = err_from_is_err_and result passed in
      rw (p.1, p.2) (queried (Ok reply) w2 lawful (Err NoMemory)
      (λ did. delivered_stop m (history d) (history d2) lawful.acts.entries (query_bucket c) w w2 NoMemory (front_of_part m (history d) (history d2) lawful.acts.entries (after w) reply did)))
