-- Steps of the service join.
use Prim.Native.Nat.{zero, suc}
use Rattle.std.proofs.Common.{◌≡◌, Bool, true, false, ◌<◌, ℕ, ◌+◌, List, [], ◌∷◌, ◌++◌, length, refl, sym, ◌∙◌, ap, subst, arith, append-nil, append_assoc, Option, None, Err}
use Rattle.std.proofs.lemmas.Bool.Decides.{nat_tests}
use Rattle.gl_plain.specs.declared.calls.Reply.{Reply}
use Rattle.gl_plain.specs.declared.commands.Fetched.{Fetched}
use Rattle.gl_plain.specs.declared.commands.Stop.{Stop}
use Rattle.gl_plain.specs.declared.driver_calls.DriverEntry.{DriverEntry}
use Rattle.gl_plain.specs.State.{WireState}
use Rattle.gl_plain.specs.Agreement.{Agrees}
use Rattle.gl_driver.specs.History.{History, Served}
use Rattle.gl_driver.proofs.Laws.{Served-nothing, Served-join}
use Rattle.cb_shm.specs.Memory.{CopyEntry, MemoryView}
use Rattle.cb_fetch.specs.Fetching.{distance}
use Rattle.cb_fetch.specs.Seen.{Reads, AreGiven, Seen}
use Rattle.decoder_core.specs.declared.outcome.ServiceStop.{ServiceStop}
use Rattle.decoder_core.specs.declared.outcome.ServiceStop.TheVariants.{Bad, Lost, NoMemory}
use Rattle.decoder_core.specs.ServiceView.{ServiceView, wire_of, IsAtRest, get_in, get_of}
use Rattle.decoder_core.specs.Side.{Side}
use Rattle.decoder_core.specs.RunsSoFar.{GoesFurther, ComesTo, BreaksOff}
use Rattle.decoder_core.specs.Serving.{HasMore, seen_by, RanOn, RanTo, RanShort, IsServed}
use Rattle.decoder_core.specs.Turn.{IsAmong, left_seen, HasSameRing, Took, Rested, FoundFault, WasCut, Takes}
use Rattle.decoder_core.proofs.Lefts.{left_none}
use Rattle.decoder_core.proofs.Taking.{more_same}

-- what was given by all copies was given by the first of them
given_before : (reads : Reads) (n : ℕ) (xs ys : List CopyEntry) → AreGiven reads n (xs ++ ys) → AreGiven reads n xs
given_before reads n [] ys given = tt
given_before reads n (x ∷ xs) ys given = (given.0, given_before reads (n + 1) xs ys given.1)

pub given_of : (reads : Reads) (m m2 : MemoryView) → HasMore m m2 → AreGiven reads 0 m2.copies → AreGiven reads 0 m.copies
given_of reads m m2 more given = given_before reads 0 m.copies more.more (subst (AreGiven reads 0) more.copies given)

pub more_join : (a b c : MemoryView) → HasMore a b → HasMore b c → HasMore a c
more_join a b c p q = record { more = p.more ++ q.more; copies = q.copies ∙ ap (λ (l : List CopyEntry). l ++ q.more) p.copies ∙ append_assoc a.copies p.more q.more; sizes = q.sizes ∙ p.sizes }

further_join : (a b c : WireState) (x y z : Seen) (rs ss : List Reply) (es fs : List DriverEntry) → GoesFurther a x b y rs es → GoesFurther b y c z ss fs → GoesFurther a x c z (rs ++ ss) (es ++ fs)
further_join a b c x y z rs ss es fs p q = λ w0 all before entered g. rw (← append_assoc before rs ss, ← append_assoc entered es fs) (q w0 all (before ++ rs) (entered ++ es) (p w0 all before entered g))

comes_join : (a b c : WireState) (x y : Seen) (stop : Stop) (rs : List Reply) (es : List DriverEntry) → GoesFurther a x b y rs es → ComesTo b y c stop [] [] → ComesTo a x c stop rs es
comes_join a b c x y stop rs es p q = λ w0 all before entered g. rw (append-nil (before ++ rs), append-nil (entered ++ es)) at (q w0 all (before ++ rs) (entered ++ es) (p w0 all before entered g))

breaks_join : (lost : Bool) (a b : WireState) (x y : Seen) (rs : List Reply) (es fs : List DriverEntry) → GoesFurther a x b y rs es → BreaksOff lost b y [] fs → BreaksOff lost a x rs (es ++ fs)
breaks_join lost a b x y rs es fs p q = λ w0 all before entered g. rw (← append_assoc entered es fs) (rw (append-nil (before ++ rs)) at (q w0 all (before ++ rs) (entered ++ es) (p w0 all before entered g)))

-- what was done so far of the commands up to put
pub record SoFar {D : Type 0} (history : D → History) (grown : D → D → Type 0) (a : Side D) (before : List Reply) (b : Side D) (after : List Reply) : Type 0 where
  pub entries : List DriverEntry
  pub replies : List Reply
  pub answered : after ≡ before ++ replies
  pub served : Served history grown a.driver b.driver entries
  pub leads : (reads : Reads) (then : ℕ → Seen) → AreGiven reads 0 b.memory.copies → (n k : ℕ) × IsAmong reads a.memory.sizes b.service n (length b.memory.copies) k
      × GoesFurther (wire_of a.service) (seen_by reads a.memory a.service then) (wire_of b.service) (left_seen reads a.memory.sizes b.service n k then) replies entries
  pub agrees : Agrees (wire_of b.service) (history b.driver).state
  pub stop : (history b.driver).stop ≡ (history a.driver).stop
  pub going : b.service.stop ≡ None
  pub memory : HasMore a.memory b.memory
  pub same_ring : HasSameRing a.service b.service

-- put is not farther than the ring is long
near_put : (entries put get : ℕ) → put < entries → distance entries put get < entries
near_put entries put get below = grind (arith, nat_tests)

module _ {D : Type 0} {history : D → History} {grown : D → D → Type 0} (itself : (d : D) → grown d d) (further : (d e f : D) → grown d e → grown e f → grown d f) where
  pub SoFar-nothing : (a : Side D) (before : List Reply) → IsAtRest a.service → 0 < a.service.fetch.entries → Agrees (wire_of a.service) (history a.driver).state → SoFar history grown a before a before
  SoFar-nothing a before rest some agrees = record {
    entries = [];
    replies = [];
    answered = sym (append-nil before);
    served = Served-nothing itself a.driver;
    leads = λ reads then given.
        let s = a.service in
        let get : get_in s ≡ s.fetch.get = ap (λ (w : Option Fetched). get_of w s.fetch.get) rest.none_waiting in (
          length a.memory.copies,
          s.fetch.entries,
          record {
            stands = rw (rest.none_waiting, rest.none_begun) (refl, tt);
            some = some;
            near = λ below. near_put s.fetch.entries s.fetch.put (get_in s) below;
          },
          λ w0 all answers entered g. rw (get, append-nil answers, append-nil entered) g,
        );
    agrees = agrees;
    stop = refl;
    going = rest.going;
    memory = more_same a.memory a.memory refl;
    same_ring = record { entries = refl; put = refl };
  }

  module _ (a : Side D) (before : List Reply) (b : Side D) (between : List Reply) (so : SoFar history grown a before b between) (c : Side D) (after : List Reply) where
    -- the sizes are those at the beginning, so what holds of them holds of these
    with_sizes : (P : (ℕ → Option ℕ) → Type 0) → P b.memory.sizes → P a.memory.sizes
    with_sizes P p = subst P so.memory.sizes p

    among_here : (reads : Reads) (n k : ℕ) → IsAmong reads a.memory.sizes b.service n (length b.memory.copies) k → IsAmong reads b.memory.sizes b.service n (length b.memory.copies) k
    among_here reads n k among = subst (λ (z : ℕ → Option ℕ). IsAmong reads z b.service n (length b.memory.copies) k) (sym so.memory.sizes) among

    pub SoFar-step : Took history grown b between c after → SoFar history grown a before c after
    SoFar-step took = record {
      entries = so.entries ++ took.entries;
      replies = so.replies ++ took.replies;
      answered = took.answered ∙ ap (λ (l : List Reply). l ++ took.replies) so.answered ∙ append_assoc before so.replies took.replies;
      served = Served-join further so.served took.served;
      leads = λ reads then given.
          let here = so.leads reads then (given_of reads b.memory c.memory took.memory given) in
          let there = took.leads reads then here.0 here.1 given (among_here reads here.0 here.1 here.2) in
          let joined = with_sizes (λ z. GoesFurther (wire_of b.service) (left_seen reads z b.service here.0 here.1 then) (wire_of c.service) (left_seen reads z c.service there.0 there.1 then) took.replies took.entries) there.3 in (
            there.0,
            there.1,
            with_sizes (λ z. IsAmong reads z c.service there.0 (length c.memory.copies) there.1) there.2,
            further_join (wire_of a.service) (wire_of b.service) (wire_of c.service) _ _ _ so.replies took.replies so.entries took.entries here.3 joined,
          );
      agrees = took.agrees;
      stop = took.stop ∙ so.stop;
      going = took.going;
      memory = more_join a.memory b.memory c.memory so.memory took.memory;
      same_ring = record { entries = took.same_ring.entries ∙ so.same_ring.entries; put = took.same_ring.put ∙ so.same_ring.put };
    }

    -- the service rests at put
    pub SoFar-rested : Rested history grown b between c after → RanOn history grown a before c after
    SoFar-rested rest = record {
      entries = so.entries;
      replies = so.replies;
      answered = rest.answered ∙ so.answered;
      served = rw append-nil at (Served-join further so.served rest.served);
      further = λ reads then given.
          let here = so.leads reads then (subst (λ (v : MemoryView). AreGiven reads 0 v.copies) rest.same_memory given) in
          rests reads then here.0 here.1 here.2 here.3;
      agrees = rw (rest.same, rest.same_driver) so.agrees;
      stop = ap (λ (h : History). h.stop) rest.same_driver ∙ so.stop;
      memory = subst (HasMore a.memory) (sym rest.same_memory) so.memory;
      at_rest = subst IsAtRest (sym rest.same) rest.at_rest;
      at_put = ap (λ (v : ServiceView). v.fetch.get) rest.same ∙ rest.at_put ∙ so.same_ring.put;
      same_ring = ap (λ (v : ServiceView). v.fetch.entries) rest.same ∙ so.same_ring.entries;
    } where
      rests : (reads : Reads) (then : ℕ → Seen) (n k : ℕ) → IsAmong reads a.memory.sizes b.service n (length b.memory.copies) k
          → GoesFurther (wire_of a.service) (seen_by reads a.memory a.service then) (wire_of b.service) (left_seen reads a.memory.sizes b.service n k then) so.replies so.entries
          → GoesFurther (wire_of a.service) (seen_by reads a.memory a.service then) (wire_of c.service) (then (length c.memory.copies)) so.replies so.entries
      rests reads then n zero among on = absurd (omega (arith, among.some))
      rests reads then n (suc k) among on =
          let s = b.service in
          let begun : length b.memory.copies ≡ n = (rw (rest.at_rest.none_waiting, rest.at_rest.none_begun) at among.stands).0 in
          let get : get_in s ≡ s.fetch.get = ap (λ (w : Option Fetched). get_of w s.fetch.get) rest.at_rest.none_waiting in
          let nothing : left_seen reads a.memory.sizes s n (suc k) then ≡ then n = left_none reads a.memory.sizes s.fetch.entries s.fetch.put n k (get_in s) then (get ∙ rest.at_put) in
          rw (rest.same, rest.same_memory, begun, ← nothing) on

    -- the service found a malformed command
    pub SoFar-fault : (stop : Stop) → FoundFault history grown b between c after stop → RanTo history grown a before c after stop
    SoFar-fault stop found = record {
      entries = so.entries;
      replies = so.replies;
      answered = found.answered ∙ so.answered;
      served = rw append-nil at (Served-join further so.served found.served);
      comes = λ reads then given.
          let here = so.leads reads then (given_of reads b.memory c.memory found.memory given) in
          let there = found.comes reads then here.0 here.1 given (among_here reads here.0 here.1 here.2) in
          let joined = with_sizes (λ z. ComesTo (wire_of b.service) (left_seen reads z b.service here.0 here.1 then) (wire_of c.service) stop [] []) there in
          comes_join (wire_of a.service) (wire_of b.service) (wire_of c.service) _ _ stop so.replies so.entries here.3 joined;
      agrees = found.agrees;
      stop = ap (λ (h : History). h.stop) found.same_driver ∙ so.stop;
      memory = more_join a.memory b.memory c.memory so.memory found.memory;
    }

    -- the service was cut off
    pub SoFar-cut : (lost : Bool) → WasCut history grown lost b between c after → RanShort history grown lost a before c after
    SoFar-cut lost cut = record {
      entries = so.entries ++ cut.entries;
      replies = so.replies;
      answered = cut.answered ∙ so.answered;
      served = Served-join further so.served cut.served;
      breaks = λ reads then given.
          let here = so.leads reads then (given_of reads b.memory c.memory cut.memory given) in
          let there = cut.breaks reads then here.0 here.1 given (among_here reads here.0 here.1 here.2) in
          let joined = with_sizes (λ z. BreaksOff lost (wire_of b.service) (left_seen reads z b.service here.0 here.1 then) [] cut.entries) there in
          breaks_join lost (wire_of a.service) (wire_of b.service) _ _ so.replies so.entries cut.entries here.3 joined;
      memory = more_join a.memory b.memory c.memory so.memory cut.memory;
    }

    -- the service stopped
    pub SoFar-stops : (stop : ServiceStop) → Takes history grown b between c after (Err stop) → IsServed history grown a before c after (Err stop)
    SoFar-stops (Bad stop) found = SoFar-fault stop found
    SoFar-stops Lost lost = (SoFar-cut true lost.0, lost.1)
    SoFar-stops NoMemory cut = SoFar-cut false cut
