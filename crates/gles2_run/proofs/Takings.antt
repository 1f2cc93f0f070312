-- The commands up to one more put.
use Rattle.std.proofs.Common.{◌≡◌, ℕ, Bool, true, false, arith, ◌+◌, ◌<◌, Err, length, drop, get_or, List, [], ◌∷◌, ◌++◌, refl, sym, ◌∙◌, ap, subst, append_assoc, append-nil}
use Rattle.std.proofs.lemmas.List.{drop_more}
use Rattle.gl_plain.specs.declared.calls.Reply.{Reply}
use Rattle.gl_plain.specs.declared.commands.Stop.{Stop}
use Rattle.gl_plain.specs.driver.Answers.{told}
use Rattle.gl_plain.specs.Parts.{AreCutParts}
use Rattle.gl_plain.specs.Agreement.{Agrees}
use Rattle.gl_driver.proofs.Laws.{Served-nothing, Served-join}
use Rattle.strict_driver.specs.StrictView.{StrictView}
use Rattle.strict_driver.specs.StrictHistory.{history_of, Continues, continues_itself, continues_further}
use Rattle.cb_shm.specs.Memory.{CopyEntry, MemoryView}
use Rattle.cb_fetch.specs.Seen.{Reads, AreGiven, Seen, seen_puts}
use Rattle.decoder_core.specs.declared.outcome.ServiceStop.{ServiceStop}
use Rattle.decoder_core.specs.declared.outcome.ServiceStop.TheVariants.{Bad, Lost, NoMemory}
use Rattle.decoder_core.specs.ServiceView.{wire_of, with_put, IsAtRest}
use Rattle.decoder_core.specs.Side.{Side, side}
use Rattle.decoder_core.specs.Serving.{HasMore, RanOn, RanTo, RanShort, IsServed}
use Rattle.gles2_run.specs.Puts.{seen_by_puts, HasTaken, HasStopped, WasCutOff, TookPuts}

-- where all copies gave what was read at their numbers, so did those made first
AreGiven-front : (reads : Reads) (n : ℕ) (first more : List CopyEntry) → AreGiven reads n (first ++ more) → AreGiven reads n first
AreGiven-front reads n [] more given = tt
AreGiven-front reads n (c ∷ cs) more given = (given.0, AreGiven-front reads (n + 1) cs more given.1)

given_before : (reads : Reads) (m m2 : MemoryView) → HasMore m m2 → AreGiven reads 0 m2.copies → AreGiven reads 0 m.copies
given_before reads m m2 grew given =
    AreGiven-front reads 0 m.copies grew.more (subst (AreGiven reads 0) grew.copies given)

-- the next put is the first of those left
pub taken_before : (a : Side StrictView) (before : List Reply) (puts : List ℕ) (b : Side StrictView) (between : List Reply) (i : ℕ)
    → i < length puts → HasTaken a before puts b between (drop i puts) → HasTaken a before puts b between (get_or puts i 0 ∷ drop (i + 1) puts)
taken_before a before puts b between i some taken = subst (HasTaken a before puts b between) (drop_more puts i 0 some) taken

-- no put was taken yet
pub none_taken : (a : Side StrictView) (before : List Reply) (puts : List ℕ) → Agrees (wire_of a.service) (history_of a.driver).state → IsAtRest a.service → HasTaken a before puts a before puts
none_taken a before puts agrees at_rest = record {
  entries = [];
  replies = [];
  answered = sym (append-nil before);
  served = Served-nothing continues_itself a.driver;
  run = λ reads given. record { run = λ rest. refl; parts = λ more rest p. p; cut = λ lost n more rest p. subst (λ (k : ℕ). AreCutParts lost (wire_of a.service) (seen_by_puts reads a.memory a.service puts).commands k (told more rest) more) (omega arith) p };
  agrees = agrees;
  at_rest = at_rest;
  same_ring = refl;
}

module _ (a : Side StrictView) (before : List Reply) (puts : List ℕ) (b : Side StrictView) (between : List Reply) (put : ℕ) (left : List ℕ) (taken : HasTaken a before puts b between (put ∷ left)) (c : Side StrictView) (after : List Reply) where
  replies_join : (replies : List Reply) → after ≡ between ++ replies → after ≡ before ++ (taken.replies ++ replies)
  replies_join replies e = e ∙ ap (λ (r : List Reply). r ++ replies) taken.answered ∙ append_assoc before taken.replies replies

  -- one put more
  pub one_taken : RanOn history_of Continues (side (with_put b.service put) b.memory b.driver) between c after → HasTaken a before puts c after left
  one_taken ran = record {
    entries = taken.entries ++ ran.entries;
    replies = taken.replies ++ ran.replies;
    answered = replies_join ran.replies ran.answered;
    served = Served-join continues_further taken.served ran.served;
    run = λ reads given.
        let then : ℕ → Seen = λ k. seen_puts reads b.memory.sizes b.service.fetch.entries k put left in
        let go = ran.further reads then given (wire_of a.service) (seen_by_puts reads a.memory a.service puts) taken.replies taken.entries (taken.run reads (given_before reads b.memory c.memory ran.memory given)) in
        rw (ran.memory.sizes, ran.same_ring, ran.at_put) go;
    agrees = ran.agrees;
    at_rest = ran.at_rest;
    same_ring = ran.same_ring ∙ taken.same_ring;
  }

  -- the first malformed command stands before the next put
  stopped_there : (stop : Stop) → RanTo history_of Continues (side (with_put b.service put) b.memory b.driver) between c after stop → HasStopped a before puts c after stop
  stopped_there stop ran = record {
    entries = taken.entries ++ ran.entries;
    replies = taken.replies ++ ran.replies;
    answered = replies_join ran.replies ran.answered;
    served = Served-join continues_further taken.served ran.served;
    run = λ reads given.
        ran.comes reads (λ k. seen_puts reads b.memory.sizes b.service.fetch.entries k put left) given (wire_of a.service) (seen_by_puts reads a.memory a.service puts) taken.replies taken.entries
        (taken.run reads (given_before reads b.memory c.memory ran.memory given));
    agrees = ran.agrees;
  }

  -- the run was cut off before the next put
  cut_there : (lost : Bool) → RanShort history_of Continues lost (side (with_put b.service put) b.memory b.driver) between c after → WasCutOff lost a before puts c after
  cut_there lost ran = record {
    entries = taken.entries ++ ran.entries;
    replies = taken.replies ++ ran.replies;
    answered = replies_join ran.replies ran.answered;
    served = Served-join continues_further taken.served ran.served;
    run = λ reads given.
        ran.breaks reads (λ k. seen_puts reads b.memory.sizes b.service.fetch.entries k put left) given (wire_of a.service) (seen_by_puts reads a.memory a.service puts) taken.replies taken.entries
        (taken.run reads (given_before reads b.memory c.memory ran.memory given));
  }

  -- no put is taken after a stop
  pub not_taken : (stop : ServiceStop) → IsServed history_of Continues (side (with_put b.service put) b.memory b.driver) between c after (Err stop) → TookPuts a before puts c after (Err stop)
  not_taken (Bad stop) served = stopped_there stop served
  not_taken Lost served = (cut_there true served.0, served.1)
  not_taken NoMemory served = cut_there false served
