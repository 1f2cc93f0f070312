-- From a step of the service to the commands that are left.
use Prim.Native.Nat.{zero, suc}
use Rattle.std.proofs.Common.{◌≡◌, ◌<◌, ℕ, Bool, ◌+◌, List, [], ◌∷◌, length, refl, sym, ◌∙◌, ap, subst, arith, append-nil, Option, None, Some, inl, inr, true, false}
use Rattle.gl_plain.specs.declared.calls.Reply.{Reply}
use Rattle.gl_plain.specs.declared.commands.Fetched.{Fetched}
use Rattle.gl_plain.specs.declared.commands.Malformed.{Malformed}
use Rattle.gl_plain.specs.declared.commands.Malformed.TheVariants.{InvalidArguments}
use Rattle.gl_plain.specs.declared.commands.Stop.{Stop}
use Rattle.gl_plain.specs.declared.driver_calls.DriverEntry.{DriverEntry}
use Rattle.gl_plain.specs.State.{WireState}
use Rattle.gl_plain.specs.Meaning.{meaning_of}
use Rattle.gl_plain.specs.Parts.{IsNextFront}
use Rattle.gl_driver.specs.History.{History}
use Rattle.cb_format.specs.declared.layouts.Plan.{Plan}
use Rattle.cb_format.specs.declared.layouts.Plan.TheVariants as plan
use Rattle.cb_format.specs.Plans.{plan_of}
use Rattle.cb_format.specs.Ring.{size_in, next_get}
use Rattle.cb_shm.specs.Memory.{MemoryView, copied}
use Rattle.cb_fetch.specs.FetchViews.{FetchView}
use Rattle.cb_fetch.specs.Fetching.{distance}
use Rattle.cb_fetch.specs.Seen.{Reads, AreGiven, Seen, seen_from, seen_first, header_read, command_at, copies_at}
use Rattle.decoder_core.specs.declared.outcome.StepOutcome.TheVariants.{Copied, Executed, Bad}
use Rattle.decoder_core.specs.ServiceView.{ServiceView, wire_of, get_in, get_of}
use Rattle.decoder_core.specs.Side.{Side}
use Rattle.decoder_core.specs.RunsSoFar.{GoesFurther, ComesTo, BreaksOff}
use Rattle.decoder_core.specs.Replying.{replied, replied_by}
use Rattle.decoder_core.specs.Step.{DidCopies, DidExecute, DidFindBad, DidLose, DidRunShort, IsFaulty}
use Rattle.decoder_core.specs.Place.{Stands, StandsBy, IsWaiting, KeepsPlace, IsFault}
use Rattle.decoder_core.specs.Serving.{HasMore}
use Rattle.decoder_core.specs.Turn.{IsAmong, left_seen, HasSameRing, LeadsOn}
use Rattle.decoder_core.proofs.ReadSteps.{place_at}
use Rattle.decoder_core.proofs.Fronts.{no_front, front_of_part}
use Rattle.decoder_core.proofs.Lefts.{left_next, left_bad, put_below}
use Rattle.decoder_core.proofs.RunsOn.{GoesOn-step, breaks, run_ended, parts_ended, run_stopped, parts_stopped}

-- where nothing is answered and nothing entered, a run is where it was
stays : (w w2 : WireState) (left left2 : Seen) (entries : List DriverEntry) → w2 ≡ w → left2 ≡ left → entries ≡ [] → GoesFurther w left w2 left2 [] entries
stays w w2 left left2 entries same same_left none = λ w0 all before entered g. rw (same, same_left, none, append-nil before, append-nil entered) g

more_copied : (m m2 : MemoryView) (region offset : ℕ) (bytes : List ℕ) → m2 ≡ copied m region offset bytes → HasMore m m2
more_copied m m2 region offset bytes made = record {
  more = record { region = region; offset = offset; bytes = bytes } ∷ [];
  copies = ap (λ (v : MemoryView). v.copies) made;
  sizes = ap (λ (v : MemoryView). v.sizes) made;
}

-- the memory is as it was
pub more_same : (m m2 : MemoryView) → m2 ≡ m → HasMore m m2
more_same m m2 same = record { more = []; copies = ap (λ (v : MemoryView). v.copies) same ∙ sym (append-nil m.copies); sizes = ap (λ (v : MemoryView). v.sizes) same }

copies_after : (m : MemoryView) (p : Plan) (reply : Reply) → (replied_by p m reply).copies ≡ m.copies
copies_after m plan.Nothing reply = refl
copies_after m (plan.Read region offset count) reply = refl
copies_after m (plan.Write region offset count) reply = refl

sizes_after : (m : MemoryView) (p : Plan) (reply : Reply) → (replied_by p m reply).sizes ≡ m.sizes
sizes_after m plan.Nothing reply = refl
sizes_after m (plan.Read region offset count) reply = refl
sizes_after m (plan.Write region offset count) reply = refl

-- a reply makes no copy
copies_replied : (m m2 : MemoryView) (f : Fetched) (reply : Reply) → m2 ≡ replied m f reply → m2.copies ≡ m.copies
copies_replied m m2 f reply put = ap (λ (v : MemoryView). v.copies) put ∙ copies_after m (plan_of f.number f.words.items) reply

pub more_replied : (m m2 : MemoryView) (f : Fetched) (reply : Reply) → m2 ≡ replied m f reply → HasMore m m2
more_replied m m2 f reply put = record {
  more = [];
  copies = copies_replied m m2 f reply put ∙ sym (append-nil m.copies);
  sizes = ap (λ (v : MemoryView). v.sizes) put ∙ sizes_after m (plan_of f.number f.words.items) reply;
}

module _ (a b : Side History) (entries : List DriverEntry) where
  pub copies_more : DidCopies a b entries → HasMore a.memory b.memory
  copies_more did = elim did.copy [
    | inl c ↦ more_copied a.memory b.memory _ _ _ c.0.copy.made
    | inr c ↦ more_copied a.memory b.memory _ _ _ c.1.copy.made
  ]

  pub copies_ring : DidCopies a b entries → HasSameRing a.service b.service
  copies_ring did = elim did.copy [
    | inl c ↦ record { entries = ap (λ (v : FetchView). v.entries) c.0.after; put = ap (λ (v : FetchView). v.put) c.0.after }
    | inr c ↦ record { entries = ap (λ (v : FetchView). v.entries) c.1.after; put = ap (λ (v : FetchView). v.put) c.1.after }
  ]

  copies_state : DidCopies a b entries → wire_of b.service ≡ wire_of a.service
  copies_state did = elim did.copy [
    | inl c ↦ ap wire_of c.1
    | inr c ↦ ap wire_of c.2
  ]

  pub copies_going : DidCopies a b entries → b.service.stop ≡ None
  copies_going did = elim did.copy [
    | inl c ↦ ap (λ (v : ServiceView). v.stop) c.1 ∙ did.going
    | inr c ↦ ap (λ (v : ServiceView). v.stop) c.2 ∙ did.going
  ]

  -- the command that waits is the first of those that are left
  waits_first : (reads : Reads) (then : ℕ → Seen) (n k : ℕ) (command : Fetched) → a.service.waiting ≡ Some command → IsAmong reads a.memory.sizes a.service n (length a.memory.copies) k
      → (next : Seen) × (left_seen reads a.memory.sizes a.service n k then ≡ seen_first None command next)
  waits_first reads then n zero command waited among = absurd (omega (arith, among.some))
  waits_first reads then n (suc k) command waited among =
      let s = a.service in
      let m = a.memory in
      let get : get_in s ≡ command.place = ap (λ (w : Option Fetched). get_of w s.fetch.get) waited in
      let waits : IsWaiting reads m.sizes s.fetch n (length m.copies) command = subst (StandsBy reads m.sizes s.fetch n (length m.copies)) waited among.stands in
      let next = seen_from reads m.sizes s.fetch.entries s.fetch.put k (n + copies_at reads n command.place) (next_get s.fetch.entries command.place (size_in (header_read reads n command.place))) then in (
        next,
        ap (λ (g : ℕ). seen_from reads m.sizes s.fetch.entries s.fetch.put (suc k) n g then) get
            ∙ left_next reads m.sizes s.fetch.entries s.fetch.put n k command.place then waits.apart waits.fair
            ∙ ap (λ (f : Fetched). seen_first None f next) (sym waits.command_is),
      )

  -- a copy was made
  pub copied_leads : DidCopies a b entries → KeepsPlace a b Copied → LeadsOn a b [] entries
  copied_leads did keeps = λ reads then n k given among.
      let ring = copies_ring did in
      let after = keeps reads n given among.stands in
      let same_left : left_seen reads a.memory.sizes b.service n k then ≡ left_seen reads a.memory.sizes a.service n k then = rw (ring.entries, ring.put, after.1) refl in (
        n,
        k,
        record { stands = after.0; some = among.some; near = λ below. rw (ring.entries, ring.put, after.1) (among.near (rw (ring.entries, ring.put) at below)) },
        stays (wire_of a.service) (wire_of b.service) (left_seen reads a.memory.sizes a.service n k then) (left_seen reads a.memory.sizes b.service n k then) entries (copies_state did) same_left did.untouched.no_calls,
      )

  -- a command was executed
  executed_leads : (reply : Reply) → (did : DidExecute a b entries reply) → (reads : Reads) (then : ℕ → Seen) (n k : ℕ) → IsWaiting reads a.memory.sizes a.service.fetch n (length a.memory.copies) did.command
      → Stands reads a.memory.sizes b.service (length b.memory.copies) (length b.memory.copies) → 0 < k
      → (a.service.fetch.put < a.service.fetch.entries → distance a.service.fetch.entries a.service.fetch.put did.command.place < k) → get_in a.service ≡ did.command.place
      → (n2 k2 : ℕ) × IsAmong reads a.memory.sizes b.service n2 (length b.memory.copies) k2
      × GoesFurther (wire_of a.service) (left_seen reads a.memory.sizes a.service n k then) (wire_of b.service) (left_seen reads a.memory.sizes b.service n2 k2 then) (reply ∷ []) entries
  executed_leads reply did reads then n zero waits stands some near get = absurd (omega (arith, some))
  executed_leads reply did reads then n (suc k) waits stands some near get =
      let f = a.service.fetch in
      let sizes = a.memory.sizes in
      let now = length b.memory.copies in
      let next = seen_from reads sizes f.entries f.put k (n + copies_at reads n did.command.place) (next_get f.entries did.command.place (size_in (header_read reads n did.command.place))) then in
      let first : left_seen reads sizes a.service n (suc k) then ≡ seen_first None did.command next =
      ap (λ (g : ℕ). seen_from reads sizes f.entries f.put (suc k) n g then) get
      ∙ left_next reads sizes f.entries f.put n k did.command.place then waits.apart waits.fair
      ∙ ap (λ (c : Fetched). seen_first None c next) (sym waits.command_is) in
      let copies : now ≡ n + copies_at reads n did.command.place = ap length (copies_replied a.memory b.memory did.command reply did.put) ∙ waits.copies in
      let second : left_seen reads sizes b.service now k then ≡ next =
      ap (λ (v : ServiceView). left_seen reads sizes v now k then) did.after
      ∙ (λ i. seen_from reads sizes f.entries f.put k (copies i) (waits.next i) then) in
      let below = put_below reads sizes f.entries f.put n k did.command.place then waits.fair in
      let closer : distance f.entries f.put f.get < k = omega (arith, waits.closer, near below) in (
        now,
        k,
        record { stands = stands; some = omega (arith, closer); near = λ p. subst (λ (v : ServiceView). distance v.fetch.entries v.fetch.put (get_in v) < k) (sym did.after) closer },
        λ w all before entered g.
            rw second (GoesOn-step w all (wire_of a.service) (left_seen reads sizes a.service n (suc k) then) before entered g did.command next a.driver b.driver entries (wire_of b.service) reply first did.did.itself),
      )

  pub executed_on : (reply : Reply) → DidExecute a b entries reply → KeepsPlace a b (Executed reply) → LeadsOn a b (reply ∷ []) entries
  executed_on reply did keeps = λ reads then n k given among.
      let f = a.service.fetch in
      let get : get_in a.service ≡ did.command.place = ap (λ (w : Option Fetched). get_of w f.get) did.waited in
      executed_leads reply did reads then n k (subst (StandsBy reads a.memory.sizes f n (length a.memory.copies)) did.waited among.stands) (keeps reads n given among.stands) among.some
      (λ below. subst (λ (g : ℕ). distance f.entries f.put g < k) get (among.near below)) get

  -- a run stops where the command at get is malformed
  comes_to : (reads : Reads) (then : ℕ → Seen) (n k : ℕ) (kind : Malformed) (place : ℕ) → 0 < k → IsFault reads a.memory.sizes a.service n kind → place ≡ get_in a.service
      → ComesTo (wire_of a.service) (left_seen reads a.memory.sizes a.service n k then) (wire_of a.service) (record { kind = kind; place = place }) [] []
  comes_to reads then n zero kind place some fault is = absurd (omega (arith, some))
  comes_to reads then n (suc k) kind place some (apart, inl bad) is = λ w all before entered g.
      let s = a.service in
      let left = left_seen reads a.memory.sizes s n (suc k) then in
      let ended = left_bad reads a.memory.sizes s.fetch.entries s.fetch.put n k (get_in s) then kind place apart bad is in
      let stop : Stop = record { kind = kind; place = place } in
      rw (append-nil before, append-nil entered) (record {
        run = run_ended w all (wire_of s) left before entered g (Some stop) ended;
        parts = parts_ended w all (wire_of s) left before entered g (Some stop) ended;
      })
  comes_to reads then n (suc k) kind place some (apart, inr (fair, bad, kind_is)) is = λ w all before entered g.
      let s = a.service in
      let left = left_seen reads a.memory.sizes s n (suc k) then in
      let first = left_next reads a.memory.sizes s.fetch.entries s.fetch.put n k (get_in s) then apart fair in
      let command = command_at reads n (get_in s) in
      let stop_is : record { kind = InvalidArguments; place = command.place } ≡ record { kind = kind; place = place } =
      λ i. record { kind = sym kind_is i; place = (place_at reads n (get_in s) ∙ sym is) i } in
      rw (append-nil before, append-nil entered) (record {
        run = λ rest. run_stopped w all (wire_of s) left before entered g command _ first bad rest
            ∙ (λ i. record { replies = before; stop = Some (stop_is i); state = wire_of s });
        parts = parts_stopped w all (wire_of s) left before entered g command _ first bad;
      })

  pub bad_more : (stop : Stop) → IsFaulty a b stop → HasMore a.memory b.memory
  bad_more stop (inl (none, found)) = elim found.fault [
    | inl c ↦ more_same a.memory b.memory c.5
    | inr c ↦ more_copied a.memory b.memory _ _ _ c.1.made
  ]
  bad_more stop (inr (command, waited, bad, kind, place, same, fetch)) = more_same a.memory b.memory same

  -- a command was found malformed
  pub fault_on : (stop : Stop) → (did : DidFindBad a b entries stop) → KeepsPlace a b (Bad stop.kind stop.place) → (reads : Reads) (then : ℕ → Seen) (n k : ℕ) → AreGiven reads 0 b.memory.copies
      → IsAmong reads a.memory.sizes a.service n (length a.memory.copies) k → ComesTo (wire_of a.service) (left_seen reads a.memory.sizes a.service n k then) (wire_of b.service) stop [] []
  fault_on stop did keeps reads then n k given among =
      let found = keeps reads n given among.stands did.going in
      subst (λ (w : WireState). ComesTo (wire_of a.service) (left_seen reads a.memory.sizes a.service n k then) w stop [] []) (sym did.same_state) (comes_to reads then n k stop.kind stop.place among.some found.0 found.1)

  -- a run is cut off behind the front of the command that waited
  front_breaks : (lost : Bool) (command : Fetched) → a.service.waiting ≡ Some command → ((fs : List Fetched) → IsNextFront lost (wire_of a.service) (command ∷ fs) entries)
      → (reads : Reads) (then : ℕ → Seen) (n k : ℕ) → IsAmong reads a.memory.sizes a.service n (length a.memory.copies) k → BreaksOff lost (wire_of a.service) (left_seen reads a.memory.sizes a.service n k then) [] entries
  front_breaks lost command waited front reads then n k among = λ w all before entered g.
      let left = left_seen reads a.memory.sizes a.service n k then in
      let first = waits_first reads then n k command waited among in
      let next : IsNextFront lost (wire_of a.service) left.commands entries = subst (λ (s : Seen). IsNextFront lost (wire_of a.service) s.commands entries) (sym first.1) (front first.0.commands) in
      rw (append-nil before) (breaks w all (wire_of a.service) left before entered g lost entries next)

  -- the driver was lost at a call of the command that waited
  pub lost_breaks : (lost : DidLose a b entries) → (reads : Reads) (then : ℕ → Seen) (n k : ℕ) → IsAmong reads a.memory.sizes a.service n (length a.memory.copies) k
      → BreaksOff true (wire_of a.service) (left_seen reads a.memory.sizes a.service n k then) [] entries
  lost_breaks lost = front_breaks true lost.command lost.waited (λ fs. (lost.lost.fair, lost.lost.front))

  -- there was no memory
  pub short_breaks : DidRunShort a b entries → (reads : Reads) (then : ℕ → Seen) (n k : ℕ) → IsAmong reads a.memory.sizes a.service n (length a.memory.copies) k
      → BreaksOff false (wire_of a.service) (left_seen reads a.memory.sizes a.service n k then) [] entries
  short_breaks short reads then n k among = elim short.short [
    | inl c ↦ λ w all before entered g.
        let left = left_seen reads a.memory.sizes a.service n k then in
        rw (append-nil before, c.3.no_calls) (breaks w all (wire_of a.service) left before entered g false [] (no_front (wire_of a.service) left.commands))
    | inr c ↦ front_breaks false c.0 c.1 (λ fs. c.2) reads then n k among
  ]

  -- there was no memory for the reply of a command that was executed
  pub dropped_breaks : (reply : Reply) → DidExecute a b entries reply → (reads : Reads) (then : ℕ → Seen) (n k : ℕ) → IsAmong reads a.memory.sizes a.service n (length a.memory.copies) k
      → BreaksOff false (wire_of a.service) (left_seen reads a.memory.sizes a.service n k then) [] entries
  dropped_breaks reply did = front_breaks false did.command did.waited (λ fs. front_of_part (meaning_of (wire_of a.service) did.command) a.driver b.driver entries (wire_of b.service) reply did.did.itself)
