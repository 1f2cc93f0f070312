-- The two laws of `Served`, and what follows of a stop.
use Rattle.std.proofs.Common.{ℕ, Bool, true, false, ◌||◌, None, Some, Option, inl, inr, ◌⊎◌, arith, ◌≤◌, ◌≡◌, List, [], ◌∷◌, ◌++◌, refl, sym, ◌∙◌, ap, append_assoc, append-nil, Ok}
use Rattle.gl_plain.specs.Journal.{state_after}
use Rattle.gl_plain.specs.declared.driver_calls.DriverEntry.{DriverEntry}
use Rattle.gl_plain.proofs.Journals.{state_after-append, IsLegal-append}
use Rattle.gl_driver.specs.History.{History, Counted, Served, Caused, Rose, is_oom, has_oom}
use Rattle.gl_driver.specs.declared.stop.DriverStop.{DriverStop}
use Rattle.gl_driver.specs.declared.stop.DriverStop.TheVariants.{Lost}

rose_before : (a b c : ℕ) → a ≤ b → Rose b c → Rose a c
rose_before a b c le (inl lt) = inl (omega arith)
rose_before a b c le (inr top) = inr top

rose_after : (a b c : ℕ) → b ≤ c → Rose a b → Rose a c
rose_after a b c le (inl lt) = inl (omega arith)
rose_after a b c le (inr top) = inr (omega arith)

-- a cause in the first part is one of both
earlier : (a b c : ℕ) (P : Type 0) → b ≤ c → Rose a b ⊎ P → Rose a c ⊎ P
earlier a b c P le (inl rose) = inl (rose_after a b c le rose)
earlier a b c P le (inr p) = inr p

lost_since : (a b c : History) → a.losses ≤ b.losses → b.losses ≤ c.losses → (b.stop ≡ Some Lost → Rose a.losses b.losses ⊎ (a.stop ≡ Some Lost)) → Rose b.losses c.losses ⊎ (b.stop ≡ Some Lost) → Rose a.losses c.losses ⊎ (a.stop ≡ Some Lost)
lost_since a b c le le' first (inl rose) = inl (rose_before a.losses b.losses c.losses le rose)
lost_since a b c le le' first (inr is) = earlier a.losses b.losses c.losses (a.stop ≡ Some Lost) le' (first is)

-- losses that stood still in both parts stood still
still_since : (a b c : History) → ((b.stop ≡ Some Lost) → c.stop ≡ Some Lost) → (b.stop ≡ Some Lost) ⊎ (b.losses ≡ a.losses) → (c.stop ≡ Some Lost) ⊎ (c.losses ≡ b.losses) → (c.stop ≡ Some Lost) ⊎ (c.losses ≡ a.losses)
still_since a b c kept (inl lost) second = inl (kept lost)
still_since a b c kept (inr still) (inl lost) = inl lost
still_since a b c kept (inr still) (inr again) = inr (again ∙ still)

or_false : (p q : Bool) → (p || q) ≡ false → (p ≡ false) × (q ≡ false)
or_false true q h = absurd (cc)
or_false false q h = (refl, h)

-- where no entry of both says that there was no room, none of either does
no_oom : (es fs : List DriverEntry) → has_oom (es ++ fs) ≡ false → (has_oom es ≡ false) × (has_oom fs ≡ false)
no_oom [] fs h = (refl, h)
no_oom (e ∷ es) fs h =
    let p = or_false (is_oom e.answer) (has_oom (es ++ fs)) h in
    let rest = no_oom es fs p.1 in
    (rw p.0 rest.0, rest.1)

pub Counted-nothing : (h : History) → Counted h h []
Counted-nothing h = record { kept = λ s is. is; losses = omega arith; ooms = omega arith; lost = λ is. inr is; losses_still = inr refl; ooms_still = λ none. refl }

pub Counted-join : (a b c : History) (es fs : List DriverEntry) → Counted a b es → Counted b c fs → Counted a c (es ++ fs)
Counted-join a b c es fs s t = record {
  kept = λ stop is. t.kept stop (s.kept stop is);
  losses = omega (arith, s.losses, t.losses);
  ooms = omega (arith, s.ooms, t.ooms);
  lost = λ is. lost_since a b c s.losses t.losses s.lost (t.lost is);
  losses_still = still_since a b c (t.kept Lost) s.losses_still t.losses_still;
  ooms_still = λ none. let p = no_oom es fs none in t.ooms_still p.1 ∙ s.ooms_still p.0;
}

pub Served-nothing : {D : Type 0} {history : D → History} {grown : D → D → Type 0} → ((a : D) → grown a a) → (a : D) → Served history grown a a []
Served-nothing {history = history} itself a = record { grows = itself a; journal = sym (append-nil (history a).journal); legal = tt; state = refl; counted = Counted-nothing (history a) }

pub Served-join : {D : Type 0} {history : D → History} {grown : D → D → Type 0} → ((a b c : D) → grown a b → grown b c → grown a c) → {a b c : D} {es fs : List DriverEntry} → Served history grown a b es → Served history grown b c fs → Served history grown a c (es ++ fs)
Served-join {history = history} further {a} {b} {c} {es} {fs} s t = record {
  grows = further a b c s.grows t.grows;
  journal = t.journal ∙ ap (λ j. j ++ fs) s.journal ∙ append_assoc (history a).journal es fs;
  legal = IsLegal-append (history a).state es fs s.legal (rw (← s.state) t.legal);
  state = t.state ∙ ap (λ d. state_after d fs) s.state ∙ sym (state_after-append (history a).state es fs);
  counted = Counted-join (history a) (history b) (history c) es fs s.counted t.counted;
}

-- a driver that answers a call was not stopped before
going_before : (stop : Option DriverStop) → ((s : DriverStop) → stop ≡ Some s → None ≡ Some s) → stop ≡ None
going_before None first = refl
going_before (Some s) first = let no : None ≡ Some s = first s refl in cc

-- a call that is answered leaves the driver's stop as it was
pub same_stop : {T : Type 0} (old new : History) (x : T) → Caused old new (Ok x) → new.stop ≡ old.stop
same_stop old new x caused = caused.stop ∙ sym (going_before old.stop caused.first)
