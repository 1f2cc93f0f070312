-- From what a command did to what its execution promises.
use Rattle.std.proofs.Common.{◌≡◌, ◌||◌, ℕ, Bool, true, false, List, [], Option, None, Some, Result, Ok, Err, IfSome, refl, sym, ap, ◌∙◌, subst}
use Rattle.std.proofs.lemmas.Result.{err_from_is_err_and}
use Rattle.std.specs.Result.{IsErrAnd}
use Rattle.gl_plain.specs.declared.calls.Reply.{Reply}
use Rattle.gl_plain.specs.declared.calls.Reply.TheVariants as reply
use Rattle.gl_plain.specs.declared.commands.Command.{Command}
use Rattle.gl_plain.specs.declared.commands.Command.TheVariants.{Noop}
use Rattle.gl_plain.specs.declared.commands.Fetched.{Fetched}
use Rattle.gl_plain.specs.declared.driver_calls.DriverCall.{DriverCall}
use Rattle.gl_plain.specs.declared.driver_calls.DriverEntry.{DriverEntry}
use Rattle.gl_plain.specs.declared.stop.ExecStop.{ExecStop}
use Rattle.gl_plain.specs.declared.commands.Malformed.TheVariants.{InvalidArguments}
use Rattle.gl_plain.specs.declared.stop.ExecStop.TheVariants.{Bad}
use Rattle.gl_plain.specs.Stops.{no_memory}
use Rattle.gl_plain.specs.Oracle.{Oracle, default_answers}
use Rattle.gl_plain.specs.Outcome.{Outcome}
use Rattle.gl_plain.specs.State.{WireState, DriverState}
use Rattle.gl_plain.specs.Commands.{command_of}
use Rattle.gl_plain.specs.declared.commands.DataWords.{DataWords}
use Rattle.gl_plain.specs.subjects.Buckets.{breaks_bucket_rule, names_no_bucket, data_given}
use Rattle.gl_plain.specs.Wire.{data_words, reply_bucket, given_to}
use Rattle.gl_plain.specs.Records.{contents_behind, records_made}
use Rattle.gl_plain.specs.Meaning.{breaks_a_bucket_rule, command_meaning, delivering, meaning_if, meaning_by, meaning_of}
use Rattle.gl_plain.specs.Journal.{IsLegal, state_after}
use Rattle.gl_plain.specs.Agreement.{Agrees}
use Rattle.gl_plain.specs.Lawful.{Keeps}
use Rattle.gl_driver.specs.History.{History, Served}
use Rattle.gl_driver.specs.Performed as performed
use Rattle.gl_driver.proofs.Laws.{Served-nothing}
use Rattle.gl_laws.proofs.Runs.{PartLeft, part_left, delivered_calls}
use Rattle.gl_laws.proofs.Promised.{promised}
use Rattle.gl_plain.specs.Promises.{IsPromised}
use Rattle.gl_plain.specs.driver.Answers.{told}
use Rattle.decoder_core.specs.Execution.{ActsAlone, Performs}

-- a command that was one step keeps to the laws
module _ (w w2 : WireState) (h h2 : History) (entries : List DriverEntry) (r : Reply) (agrees : Agrees w h.state) (legal : IsLegal h.state entries) (state : h2.state ≡ state_after h.state entries) where
  kept : (c : Option Command) (payload : List ℕ) → performed.Did (meaning_by w c payload) h h2 entries w2 r → Keeps (contents_behind w c payload) (records_made w c payload) h.state entries w2 h2.state
  kept c payload did =
      let left : (rest : Oracle) → PartLeft (meaning_by w c payload) w h.state c payload (told entries rest) rest entries = λ rest. part_left w h.state c payload agrees did.fair rest entries legal (did.part rest) in
      subst (λ (z : DriverState). Keeps (contents_behind w c payload) (records_made w c payload) h.state entries w2 z) (sym state) record {
        agrees = subst (λ (z : WireState). Agrees z (state_after h.state entries)) (ap (λ (out : Outcome WireState). out.state) (did.step default_answers)) (left default_answers).agrees;
        contents_are = λ rest. (left rest).contents;
        records_are = λ rest. (left rest).records;
      }

  -- its zeroings are for what they promise
  promised_if : (c : Command) (payload : List ℕ) (broken : Bool) → performed.Did (meaning_if broken w c payload) h h2 entries w2 r → IsPromised w.es h.state c entries
  promised_if c payload true did = let fair = did.fair in cc
  promised_if c payload false did =
      let z : Oracle = told entries default_answers in
      promised w h.state agrees c (given_to w c payload) z entries (did.part default_answers ∙ ap (λ (calls : Oracle → List DriverCall). calls z) (delivered_calls (reply_bucket c) (command_meaning w c (given_to w c payload))))

  promised_of : (c : Option Command) (payload : List ℕ) → performed.Did (meaning_by w c payload) h h2 entries w2 r → IfSome c (λ x. IsPromised w.es h.state x entries)
  promised_of None payload did = tt
  promised_of (Some c) payload did = promised_if c payload (breaks_a_bucket_rule w c) did

module _ {D : Type 0} {history : D → History} {grown : D → D → Type 0} (f : Fetched) (w : WireState) (d : D) (agrees : Agrees w (history d).state) where
  -- a command that did what it means, over a driver that agrees with the tables
  pub performs : (w2 : WireState) (d2 : D) (entries : List DriverEntry) → Served history grown d d2 entries → (result : Result Reply ExecStop)
      → performed.IsOutcome (meaning_of w f) (history d) (history d2) entries w w2 result → Performs history grown f w d w2 d2 result
  performs w2 d2 entries served (Ok r) did = record {
    entries = entries;
    served = served;
    outcome = record {
      itself = did;
      keeps = kept w w2 (history d) (history d2) entries r agrees served.legal served.state (command_of f) f.payload did;
      promised = promised_of w w2 (history d) (history d2) entries r agrees served.legal served.state (command_of f) f.payload did;
    };
  }
  performs w2 d2 entries served (Err stop) outcome = record { entries = entries; served = served; outcome = outcome }

  -- the same of the command that is spelled, which breaks no rule of a bucket, with its reply in the bucket that it names
  pub performs_spelled : (c : Command) (payload : List ℕ) → command_of f ≡ Some c → breaks_a_bucket_rule w c ≡ false → payload ≡ given_to w c f.payload
      → (w2 : WireState) (d2 : D) (entries : List DriverEntry) → Served history grown d d2 entries → (result : Result Reply ExecStop)
      → performed.IsOutcome (delivering (reply_bucket c) (command_meaning w c payload)) (history d) (history d2) entries w w2 result → Performs history grown f w d w2 d2 result
  performs_spelled c payload is whole given w2 d2 entries served result outcome =
      let P : List ℕ → Type 0 = λ p. performed.IsOutcome (delivering (reply_bucket c) (command_meaning w c p)) (history d) (history d2) entries w w2 result in
      let Q : Bool → Type 0 = λ b. performed.IsOutcome (meaning_if b w c f.payload) (history d) (history d2) entries w w2 result in
      let R : Option Command → Type 0 = λ o. performed.IsOutcome (meaning_by w o f.payload) (history d) (history d2) entries w w2 result in
      performs w2 d2 entries served result (subst R (sym is) (subst Q (sym whole) (subst P given outcome)))

  -- the same of a command whose reply goes into no bucket
  performs_own : (c : Command) (payload : List ℕ) → command_of f ≡ Some c → reply_bucket c ≡ None → breaks_bucket_rule w.buckets (data_words c) ≡ false → payload ≡ given_to w c f.payload
      → (w2 : WireState) (d2 : D) (entries : List DriverEntry) → Served history grown d d2 entries → (result : Result Reply ExecStop)
      → performed.IsOutcome (command_meaning w c payload) (history d) (history d2) entries w w2 result → Performs history grown f w d w2 d2 result
  performs_own c payload is none whole given w2 d2 entries served result outcome =
      let P : Option ℕ → Type 0 = λ b. performed.IsOutcome (delivering b (command_meaning w c payload)) (history d) (history d2) entries w w2 result in
      performs_spelled c payload is (λ i. whole i || names_no_bucket (none i)) given w2 d2 entries served result (subst P (sym none) outcome)

  module _ (itself : (a : D) → grown a a) where
    -- a command that needs no driver, and has neither data nor a reply in a bucket
    pub performs_alone : (c : Command) → data_words c ≡ None → reply_bucket c ≡ None → (w2 : WireState) (result : Result Reply ExecStop) → command_of f ≡ Some c → ActsAlone c f.payload w w2 result → Performs history grown f w d w2 d result
    performs_alone c alone none w2 result is acts =
        performs_own c f.payload is none (ap (breaks_bucket_rule w.buckets) alone) (sym (ap (λ (words : Option DataWords). data_given w.buckets words f.payload) alone)) w2 d [] (Served-nothing itself d) result (acts (history d))

    -- no command is spelled
    pub performs_unspelled : command_of f ≡ None → Performs history grown f w d w d (Err (Bad InvalidArguments))
    performs_unspelled is = record {
      entries = [];
      served = Served-nothing itself d;
      outcome = record { bad = ap (λ (o : Option Command). (meaning_by w o f.payload).bad) is; kind_is = refl; no_calls = refl; same = refl; same_driver = refl };
    }

    -- a command that breaks a rule of a bucket
    pub performs_broken : (c : Command) → command_of f ≡ Some c → breaks_a_bucket_rule w c ≡ true → Performs history grown f w d w d (Err (Bad InvalidArguments))
    performs_broken c is broken = record {
      entries = [];
      served = Served-nothing itself d;
      outcome = record {
        bad = ap (λ (o : Option Command). (meaning_by w o f.payload).bad) is ∙ ap (λ (b : Bool). (meaning_if b w c f.payload).bad) broken;
        kind_is = refl;
        no_calls = refl;
        same = refl;
        same_driver = refl;
      };
    }

  -- a command of a family, which was lent some of the tables, and whose reply goes into no bucket
  pub performs_lawfully : (c : Command) (payload : List ℕ) (before after : WireState → WireState) (w2 : WireState) (d2 : D) (result : Result Reply ExecStop) → command_of f ≡ Some c → reply_bucket c ≡ None → breaks_bucket_rule w.buckets (data_words c) ≡ false
      → payload ≡ given_to w c f.payload → before w ≡ w → after w ≡ w2 → performed.IsLawful history grown c payload before after d d2 result → Performs history grown f w d w2 d2 result
  performs_lawfully c payload before after w2 d2 result is none whole given same same2 lawful =
      let acts = lawful.acts in
      let from_w = subst (λ (z : WireState). performed.IsOutcome (command_meaning z c payload) (history d) (history d2) acts.entries z (after w) result) same (acts.outcome w) in
      performs_own c payload is none whole given w2 d2 acts.entries acts.served result (subst (λ (z : WireState). performed.IsOutcome (command_meaning w c payload) (history d) (history d2) acts.entries w z result) same2 from_w)

-- there was no memory, and `?` passes that on
pub passes_alone : (c : Command) (payload : List ℕ) (w w2 : WireState) (result : Result Reply ExecStop) → IsErrAnd result (λ e. e ≡ no_memory) → ActsAlone c payload w w2 result
passes_alone c payload w w2 result passed = λ h. let p = err_from_is_err_and result passed in rw (p.1, p.2) ((default_answers, (command_meaning w c payload).calls default_answers, refl), λ bad. refl)

pub does_nothing : (w : WireState) (payload : List ℕ) → ActsAlone Noop payload w w (Ok reply.None)
does_nothing w payload = λ h. record { fair = refl; step = λ rest. refl; part = λ rest. refl; stop = refl }
