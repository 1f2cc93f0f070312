-- From the puts of a script to what a desk holds.
use Prim.Native.Nat.{suc}
use Rattle.std.proofs.Common.{take, ◌≡◌, ℕ, ◌+◌, Bool, true, false, nat_le, cond, List, [], ◌∷◌, ◌++◌, refl, sym, ◌∙◌, ap, subst, append-nil, arith, length, get_or, Option, Some, None, OnOk, IsErrOf, Result, Ok, Err, ◌≤◌}
use Rattle.std.specs.Option.{unwrap_or}
use Rattle.std.specs.Prelude.{IfSome}
use Rattle.gl_plain.specs.declared.commands.Stop.{Stop}
use Rattle.gl_plain.specs.declared.calls.Reply.{Reply}
use Rattle.gl_plain.specs.declared.driver_calls.Answers.{Answers}
use Rattle.gl_plain.specs.declared.driver_calls.DriverEntry.{DriverEntry}
use Rattle.gl_plain.specs.subjects.Images.{read_contents}
use Rattle.gl_plain.specs.State.{Surface, WireState, opening_wire, opening_driver}
use Rattle.gl_plain.specs.Bytes.{part}
use Rattle.gl_plain.specs.Oracle.{Oracle}
use Rattle.gl_plain.specs.driver.Answers.{told, behind_entries, AreAnsweredBy}
use Rattle.gl_plain.specs.Run.{Run, wire_run}
use Rattle.gl_plain.specs.Parts.{AreParts}
use Rattle.gl_plain.specs.Agreement.{Agrees}
use Rattle.gl_plain.specs.Journal.{IsLegal, state_after, records_in}
use Rattle.gl_plain.specs.Records.{run_records}
use Rattle.gl_plain.proofs.Opening.{opening_agrees}
use Rattle.gl_laws.proofs.Fronts.{AreFirst}
use Rattle.gl_laws.proofs.Runs.{records_of_run}
use Rattle.gl_laws.proofs.CutRuns.{records_of_cut}
use Rattle.gl_laws.proofs.PixelRuns.{same_cut, same_records, same_run}
use Rattle.gl_driver.specs.History.{Served}
use Rattle.gl_driver.specs.declared.stop.DriverStop.TheVariants as driver
use Rattle.strict_driver.specs.StrictView.{StrictView}
use Rattle.strict_driver.specs.StrictHistory.{history_of, Continues, answers_left}
use Rattle.cb_shm.specs.declared.script.Script.{Script}
use Rattle.cb_shm.specs.Memory.{CopyEntry}
use Rattle.cb_shm.specs.Blocks.{part_of}
use Rattle.cb_shm.specs.Hostile.{script_sizes, bytes_at}
use Rattle.cb_shm.specs.declared.hostile.HostileMemory.{HostileMemory}
use Rattle.cb_shm.specs.HostileMemories.{AreScripted, IsMemoryOf, memory_of}
use Rattle.cb_fetch.specs.Seen.{AreGiven, seen, none_seen, script_reads}
use Rattle.decoder_core.specs.declared.outcome.ServiceStop.{ServiceStop}
use Rattle.decoder_core.specs.declared.outcome.ServiceStop.TheVariants as stops
use Rattle.decoder_core.specs.ServiceView.{wire_of}
use Rattle.cb_fetch.specs.FetchViews.{FetchView}
use Rattle.decoder_core.specs.ServiceView.{ServiceView, IsNewService}
use Rattle.decoder_core.specs.Side.{Side, side}
use Rattle.decoder_core.specs.RunsSoFar.{GoesOn, StopsWith, IsCutOff}
use Rattle.gles2_run.specs.Desks.{loaded_driver}
use Rattle.gles2_run.specs.Ends.{answers_of, ring_run, KeepsToScript, HoldsRun, HoldsFront}
use Rattle.gles2_run.specs.Puts.{seen_by_puts, HasTaken, HasStopped, WasCutOff, TookPuts}

pub one_word : {X : Type 0} (xs : List X) (x : X) → length xs ≡ 1 → x ≡ get_or xs 0 x → xs ≡ x ∷ []
one_word [] x one e = absurd (omega arith)
one_word (y ∷ []) x one e = cc
one_word (y ∷ z ∷ zs) x one e = absurd (omega arith)

-- what lies in a region is read from it
part_read : (there : Option (List ℕ)) (offset : ℕ) (bytes : List ℕ) → part_of there offset (length bytes) ≡ Some bytes → part (unwrap_or there []) offset (length bytes) ≡ bytes
part_read None offset bytes e = cc
part_read (Some region) offset bytes e = inside (nat_le (offset + length bytes) (length region)) e
  where
    inside : (b : Bool) → cond b (Some (part region offset (length bytes))) None ≡ Some bytes → part region offset (length bytes) ≡ bytes
    inside true is = ap (λ (o : Option (List ℕ)). unwrap_or o []) is
    inside false is = cc

-- copies that gave what the script sets gave what is read of its memory
pub are_given : (script : Script) (n : ℕ) (copies : List CopyEntry) → AreScripted script n copies → AreGiven (script_reads script) n copies
are_given script n [] scripted = tt
are_given script n (c ∷ cs) scripted = (part_read (bytes_at script n c.region) c.offset c.bytes scripted.0, are_given script (n + 1) cs scripted.1)

-- the side at the opening of a script's run: nothing was done, and the driver will answer as the script says
pub record IsStart (script : Script) (a : Side StrictView) (puts : List ℕ) : Type 0 where
  pub entries : a.service.fetch.entries ≡ script.entries
  pub get : a.service.fetch.get ≡ 0
  pub wire : wire_of a.service ≡ opening_wire script.surface
  pub sizes : a.memory.sizes ≡ script_sizes script
  pub copies : a.memory.copies ≡ []
  pub puts_are : puts ≡ script.puts
  pub journal : a.driver.journal ≡ []
  pub surface : a.driver.surface ≡ script.surface
  pub gives : answers_left a.driver ≡ answers_of script
  pub lost : a.driver.loaded.lost ≡ script.answers.lost

-- a new service, new memory and a driver that was just loaded are a start
pub starts : (script : Script) (s : ServiceView) (m : HostileMemory) (d : StrictView) (puts : List ℕ) → IsNewService script.surface script.entries s → IsMemoryOf script m → (memory_of m).copies ≡ [] → puts ≡ script.puts
    → d ≡ loaded_driver script.surface d.loaded → answers_left d ≡ answers_of script → d.loaded.lost ≡ script.answers.lost → IsStart script (side s (memory_of m) d) puts
starts script s m d puts new described no_copies puts_are loaded gives lost = record {
  entries = ap (λ (f : FetchView). f.entries) new.fetch;
  get = ap (λ (f : FetchView). f.get) new.fetch;
  wire = new.opening;
  sizes = λ i region. described.regions_are.sizes_are region i;
  copies = no_copies;
  puts_are = puts_are;
  journal = ap (λ (v : StrictView). v.journal) loaded;
  surface = ap (λ (v : StrictView). v.surface) loaded;
  gives = gives;
  lost = lost;
}

-- tables that just opened agree with a driver that was just loaded
pub agrees_at_start : (script : Script) (s : ServiceView) (d : StrictView) → IsNewService script.surface script.entries s → d ≡ loaded_driver script.surface d.loaded → Agrees (wire_of s) (history_of d).state
agrees_at_start script s d new loaded =
    let at_loaded : Agrees (wire_of s) (history_of (loaded_driver script.surface d.loaded)).state = subst (λ (w : WireState). Agrees w (opening_driver script.surface)) (sym new.opening) (opening_agrees script.surface) in
    subst (λ (v : StrictView). Agrees (wire_of s) (history_of v).state) (sym loaded) at_loaded

-- the side at its end: each copy gave what the script sets, and the driver's calls are legal and within those before it is lost
pub record IsEnd (script : Script) (b : Side StrictView) : Type 0 where
  pub given : AreGiven (script_reads script) 0 b.memory.copies
  pub legal : IsLegal (opening_driver b.driver.surface) b.driver.journal
  pub within : IfSome b.driver.loaded.lost (λ n. length b.driver.journal ≤ n)

module _ (script : Script) (a b : Side StrictView) (puts : List ℕ) (start : IsStart script a puts) (end : IsEnd script b) (answers : List Reply) where
  -- all commands of the script
  all_is : seen_by_puts (script_reads script) a.memory a.service puts ≡ seen script
  all_is = rw (start.sizes, start.entries, start.copies, start.get, start.puts_are) refl

  module _ (entries : List DriverEntry) (served : Served history_of Continues a.driver b.driver entries) where
    -- the driver entered these calls alone
    entered : b.driver.journal ≡ entries
    entered = served.journal ∙ ap (λ (j : List DriverEntry). j ++ entries) start.journal

    same_surface : b.driver.surface ≡ script.surface
    same_surface = served.grows.surface ∙ start.surface

    -- and gave the answers of the script
    answered : AreAnsweredBy (answers_of script) entries
    answered =
        let more_is : served.grows.more ≡ entries = ap (λ (j : List DriverEntry). j ++ served.grows.more) (sym start.journal) ∙ sym served.grows.journal ∙ entered in
        subst (λ (o : Oracle). AreAnsweredBy o entries) start.gives (subst (AreAnsweredBy (answers_left a.driver)) more_is served.grows.answers)

    legal : IsLegal (opening_driver script.surface) entries
    legal = rw (← entered, ← same_surface) end.legal

    -- the answers of the script behind theirs
    abbrev behind : Oracle
    behind = behind_entries entries (answers_of script)

    keeps : KeepsToScript script (record { driver = b.driver; answers = answers })
    keeps = record {
      surface = same_surface;
      answers = subst (AreAnsweredBy (answers_of script)) (sym entered) answered;
      within = subst (λ (lost : Option ℕ). IfSome lost (λ n. length b.driver.journal ≤ n)) (ap (λ (given : Answers). given.lost) served.grows.loaded ∙ start.lost) end.within;
    }

    -- the whole run
    holds : (stop : Option Stop) (last : WireState) → ((rest : Oracle) → wire_run (opening_wire script.surface) (seen script).commands (seen script).stop (told entries rest) ≡ record { replies = answers; stop = stop; state = last })
        → ((rest : Oracle) → AreParts (opening_wire script.surface) (seen script).commands (told entries rest) entries) → Agrees last (history_of b.driver).state
        → ((ring_run script).stop ≡ stop) × HoldsRun script (record { driver = b.driver; answers = answers })
    holds stop last run parts agrees =
        let same = same_run (seen script).commands (opening_wire script.surface) (opening_driver script.surface) (answers_of script) entries (opening_agrees script.surface) legal answered (parts behind) in
        let run_is : ring_run script ≡ record { replies = answers; stop = stop; state = last } = sym (same.0.run (seen script).stop) ∙ run behind in
        let records : records_in (opening_driver script.surface) entries ≡ run_records (opening_wire script.surface) (read_contents (opening_driver script.surface).contents) (seen script).commands (told entries behind) =
        records_of_run (seen script).commands (opening_wire script.surface) (opening_driver script.surface) behind entries (opening_agrees script.surface) legal (parts behind) in (
          ap (λ (r : Run). r.stop) run_is,
          record {
            replies = sym (ap (λ (r : Run). r.replies) run_is);
            parts = subst (λ (j : List DriverEntry). AreParts (opening_wire script.surface) (seen script).commands (answers_of script) j) (sym entered) same.1;
            records =
                ap (records_in (opening_driver script.surface)) entered ∙ records
                ∙ same_records (opening_wire script.surface) (seen script).commands (told entries behind) (answers_of script) same.0 (read_contents (opening_driver script.surface).contents);
            agrees = subst (λ (r : Run). Agrees r.state (state_after (opening_driver script.surface) b.driver.journal)) (sym run_is) (subst (λ (surface : Surface). Agrees last (state_after (opening_driver surface) b.driver.journal)) same_surface agrees);
            keeps = keeps;
          },
        )

  -- all puts were taken
  holds_all : HasTaken a [] puts b answers [] → ((ring_run script).stop ≡ None) × HoldsRun script (record { driver = b.driver; answers = answers })
  holds_all taken =
      let go : GoesOn (opening_wire script.surface) (seen script) (wire_of b.service) none_seen taken.replies taken.entries = rw (← start.wire, ← all_is) (taken.run (script_reads script) end.given) in
      holds taken.entries taken.served None (wire_of b.service)
      (λ rest. go.run rest ∙ ap (λ (r : List Reply). record { replies = r; stop = None; state = wire_of b.service }) (append-nil taken.replies ∙ sym taken.answered))
      (λ rest. rw append-nil at (go.parts [] rest refl)) taken.agrees

  -- a command was malformed
  holds_to : (stop : Stop) → HasStopped a [] puts b answers stop → ((ring_run script).stop ≡ Some stop) × HoldsRun script (record { driver = b.driver; answers = answers })
  holds_to stop stopped =
      let ends : StopsWith (opening_wire script.surface) (seen script) (wire_of b.service) stop stopped.replies stopped.entries = rw (← start.wire, ← all_is) (stopped.run (script_reads script) end.given) in
      holds stopped.entries stopped.served (Some stop) (wire_of b.service)
      (λ rest. ends.run rest ∙ ap (λ (r : List Reply). record { replies = r; stop = Some stop; state = wire_of b.service }) (sym stopped.answered)) ends.parts stopped.agrees

  -- the run was cut off
  holds_cut : (lost : Bool) → WasCutOff lost a [] puts b answers → HoldsFront lost script (record { driver = b.driver; answers = answers })
  holds_cut lost cut =
      let off : IsCutOff lost (opening_wire script.surface) (seen script) cut.replies cut.entries = rw (← start.wire, ← all_is) (cut.run (script_reads script) end.given) in
      let behind_cut : Oracle = behind cut.entries cut.served in
      let run = off.run behind_cut in
      let same = same_cut (seen script).commands lost (length cut.replies) (opening_wire script.surface) (opening_driver script.surface) (answers_of script) cut.entries (opening_agrees script.surface)
      (legal cut.entries cut.served) (answered cut.entries cut.served) (off.parts behind_cut) in
      let records : AreFirst (records_in (opening_driver script.surface) cut.entries) (run_records (opening_wire script.surface) (read_contents (opening_driver script.surface).contents) (take (suc (length cut.replies)) (seen script).commands) (told cut.entries behind_cut)) =
      records_of_cut (seen script).commands lost (length cut.replies) (opening_wire script.surface) (opening_driver script.surface) behind_cut cut.entries (opening_agrees script.surface) (legal cut.entries cut.served) (off.parts behind_cut) in
      record {
        replies = (run.0, ap (λ (r : Run). r.replies) (sym (same.0.run (seen script).stop)) ∙ run.1 ∙ ap (λ (r : List Reply). r ++ run.0) (sym cut.answered));
        parts = rw (cut.answered, entered cut.entries cut.served) same.1;
        records = rw (cut.answered, entered cut.entries cut.served)
            (records.0, sym (same.0.records (read_contents (opening_driver script.surface).contents) (suc (length cut.replies))) ∙ records.1);
        keeps = keeps cut.entries cut.served;
      }

  module _ (r : Result (Unit {0}) ServiceStop) (took : TookPuts a [] puts b answers r) where
    pub done_holds : OnOk r (((ring_run script).stop ≡ None) × HoldsRun script (record { driver = b.driver; answers = answers }))
    done_holds = by_result r took
      where
        by_result : (r : Result (Unit {0}) ServiceStop) → TookPuts a [] puts b answers r → OnOk r (((ring_run script).stop ≡ None) × HoldsRun script (record { driver = b.driver; answers = answers }))
        by_result (Ok u) taken = holds_all taken
        by_result (Err e) taken = tt

    pub bad_holds : (stop : Stop) → IsErrOf r (stops.Bad stop) → ((ring_run script).stop ≡ Some stop) × HoldsRun script (record { driver = b.driver; answers = answers })
    bad_holds stop is = holds_to stop (subst (TookPuts a [] puts b answers) is took)

    -- the driver was lost where the script says
    pub lost_holds : (b.driver.stop ≡ Some driver.Lost → b.driver.loaded.lost ≡ Some (length b.driver.journal)) → IsErrOf r stops.Lost
        → HoldsFront true script (record { driver = b.driver; answers = answers }) × (script.answers.lost ≡ Some (length b.driver.journal)) × (b.driver.stop ≡ Some driver.Lost)
    lost_holds counted is =
        let lost = subst (TookPuts a [] puts b answers) is took in
        (holds_cut true lost.0, sym start.lost ∙ ap (λ (given : Answers). given.lost) (sym lost.0.served.grows.loaded) ∙ counted lost.1, lost.1)

    pub short_holds : IsErrOf r stops.NoMemory → HoldsFront false script (record { driver = b.driver; answers = answers })
    short_holds is = holds_cut false (subst (TookPuts a [] puts b answers) is took)
