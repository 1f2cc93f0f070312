-- Calls that are made one by one.
use Rattle.std.proofs.Common.{◌≡◌, ◌<◌, ℕ, Bool, true, false, ◌+◌, List, [], ◌∷◌, ◌++◌, length, get_or, drop, Ok, Err, refl, sym, ◌∙◌, ap, subst, append_assoc, append-nil, drop-cons, add-one}
use Rattle.gl_base.specs.declared.rect.Rect.{Rect}
use Rattle.gl_plain.specs.declared.driver_calls.Answer.{Answer}
use Rattle.gl_plain.specs.declared.driver_calls.DriverCall.{DriverCall}
use Rattle.gl_plain.specs.declared.driver_calls.DriverEntry.{DriverEntry}
use Rattle.gl_plain.specs.declared.textures.ImagePlace.{ImagePlace}
use Rattle.gl_plain.specs.subjects.Images.{no_rect}
use Rattle.gl_plain.specs.subjects.Textures.{TextureObjects}
use Rattle.gl_plain.specs.subjects.Images.{Covers, Marks, with_mark}
use Rattle.gl_plain.specs.State.{DriverState}
use Rattle.gl_plain.specs.Oracle.{Oracle}
use Rattle.gl_plain.specs.driver.Allowed.{IsAllowed}
use Rattle.gl_plain.specs.driver.Answers.{told, told_call}
use Rattle.gl_plain.specs.declared.targets.AnyImage.{AnyImage}
use Rattle.gl_plain.specs.declared.targets.AnyImage.TheVariants as any
use Rattle.gl_plain.specs.Covers.{zero_call, zero_calls, zero_storage, zeroings, unwritten, filled}
use Rattle.gl_plain.specs.Journal.{state_after}
use Rattle.gl_plain.specs.Parts.{calls_in}
use Rattle.gl_plain.proofs.Journals.{calls_in-append, IsLegal-append, state_after-append}
use Rattle.gl_driver.specs.History.{History, Served, Caused}
use Rattle.gl_driver.specs.Performed.{Underway, Made, StoppedIn, MayMake}
use Rattle.gl_driver.specs.declared.stop.DriverStop.{DriverStop}
use Rattle.gl_driver.proofs.Laws.{Served-nothing, Served-join, same_stop}

-- entries that are made further on are behind those before
further_on : (calls first left : List DriverCall) (es fs : List DriverEntry) → calls_in es ++ (first ++ left) ≡ calls → calls_in fs ≡ first → calls_in (es ++ fs) ++ left ≡ calls
further_on calls first left es fs so_far all =
    ap (λ (cs : List DriverCall). cs ++ left) (calls_in-append es fs) ∙ append_assoc (calls_in es) (calls_in fs) left
    ∙ ap (λ (cs : List DriverCall). calls_in es ++ (cs ++ left)) all ∙ so_far

module _ {D : Type 0} {history : D → History} {grown : D → D → Type 0} where
  -- nothing was made yet
  pub begins : ((a : D) → grown a a) → (d : D) (calls : List DriverCall) → Underway history grown d d calls calls
  begins itself d calls = record { entries = []; served = Served-nothing itself d; so_far = refl; going = refl }

  -- some of the calls that were left are made
  pub makes : ((a b c : D) → grown a b → grown b c → grown a c) → {d d1 d2 : D} {calls : List DriverCall} (first left : List DriverCall) → Underway history grown d d1 calls (first ++ left) → Made history grown d1 d2 first → Underway history grown d d2 calls left
  makes further {calls = calls} first left u made = record {
    entries = u.entries ++ made.entries;
    served = Served-join further u.served made.served;
    so_far = further_on calls first left u.entries made.entries u.so_far made.all;
    going = made.going ∙ u.going;
  }

  -- a call that was answered is made
  pub makes_one : {T : Type 0} {d d2 : D} (call : DriverCall) (answer : Answer) (x : T) → Served history grown d d2 (record { call = call; answer = answer } ∷ []) → Caused (history d) (history d2) (Ok x) → Made history grown d d2 (call ∷ [])
  makes_one {d = d} {d2 = d2} call answer x served caused = record { entries = record { call = call; answer = answer } ∷ []; served = served; all = refl; going = same_stop (history d) (history d2) x caused }

  -- none is left
  pub made_all : {d d2 : D} {calls : List DriverCall} → Underway history grown d d2 calls [] → Made history grown d d2 calls
  made_all u = record { entries = u.entries; served = u.served; all = sym (append-nil (calls_in u.entries)) ∙ u.so_far; going = u.going }

  -- the driver stopped at a call
  pub stops_at : {T : Type 0} {d d2 : D} {stop : DriverStop} (call : DriverCall) → Served history grown d d2 [] → Caused {T = T} (history d) (history d2) (Err stop) → StoppedIn history grown d d2 (call ∷ []) stop
  stops_at call served caused = record { entries = []; served = served; next = call; more = []; front = refl; caused = record { stop = caused.stop; first = caused.first } }

  -- the driver stopped in some of the calls that were left
  pub stops_in : ((a b c : D) → grown a b → grown b c → grown a c) → {d d1 d2 : D} {calls : List DriverCall} {stop : DriverStop} (first left : List DriverCall) → Underway history grown d d1 calls (first ++ left) → StoppedIn history grown d1 d2 first stop → StoppedIn history grown d d2 calls stop
  stops_in further {d} {d1} {d2} {calls} {stop} first left u s = record {
    entries = u.entries ++ s.entries;
    served = Served-join further u.served s.served;
    next = s.next;
    more = s.more ++ left;
    front = further_on calls (calls_in s.entries) (s.next ∷ (s.more ++ left)) u.entries s.entries
        (ap (λ (cs : List DriverCall). calls_in u.entries ++ cs) (sym (append_assoc (calls_in s.entries) (s.next ∷ s.more) left) ∙ ap (λ (cs : List DriverCall). cs ++ left) s.front) ∙ u.so_far) refl;
    caused = record { stop = s.caused.stop; first = λ other is. s.caused.first other (u.going ∙ is) };
  }

  -- the next calls may be made, where all might at first
  pub may_make : {d d1 : D} {calls : List DriverCall} (first left : List DriverCall) → MayMake (history d).state calls → Underway history grown d d1 calls (first ++ left) → MayMake (history d1).state first
  may_make {d} {d1} {calls} first left may u es next more legal front =
      let behind : calls_in (u.entries ++ es) ++ next ∷ (more ++ left) ≡ calls =
      further_on calls (calls_in es) (next ∷ (more ++ left)) u.entries es
      (ap (λ (cs : List DriverCall). calls_in u.entries ++ cs) (sym (append_assoc (calls_in es) (next ∷ more) left) ∙ ap (λ (cs : List DriverCall). cs ++ left) front) ∙ u.so_far) refl in
      let allowed = may (u.entries ++ es) next (more ++ left) (IsLegal-append (history d).state u.entries es u.served.legal (rw (← u.served.state) legal)) behind in
      subst (λ s. IsAllowed s next) (state_after-append (history d).state u.entries es ∙ ap (λ s. state_after s es) (sym u.served.state)) allowed

-- a call that may be made alone is allowed
pub may_make_one : {d : DriverState} (call : DriverCall) → MayMake d (call ∷ []) → IsAllowed d call
may_make_one call may = may [] call [] tt refl

-- the zeroings that are left begin with the next rectangle's
pub zero_calls_next : (place : ImagePlace) (rs : List Rect) (k : ℕ) → k < length rs → zero_calls place (drop k rs) ≡ zero_call place (get_or rs k no_rect) ∷ zero_calls place (drop (k + 1) rs)
zero_calls_next place rs k lt = ap (zero_calls place) (drop-cons rs k no_rect lt ∙ ap (λ (j : ℕ). get_or rs k no_rect ∷ drop j rs) (sym (add-one k)))

-- whatever is answered to these calls tells nothing
abbrev TellNothing : List DriverCall → Type 0
TellNothing [] = Unit {0}
TellNothing (call ∷ calls) = ((answer : Answer) (o : Oracle) → told_call call answer o ≡ o) × TellNothing calls

nothing_told : (es : List DriverEntry) → TellNothing (calls_in es) → (o : Oracle) → told es o ≡ o
nothing_told [] nothing o = refl
nothing_told (e ∷ es) nothing o = nothing.0 e.answer (told es o) ∙ nothing_told es nothing.1 o

tell_nothing-append : (calls more : List DriverCall) → TellNothing calls → TellNothing more → TellNothing (calls ++ more)
tell_nothing-append [] more a b = b
tell_nothing-append (call ∷ calls) more a b = (a.0, tell_nothing-append calls more a.1 b)

zero_calls_tell_nothing : (place : ImagePlace) (rs : List Rect) → TellNothing (zero_calls place rs)
zero_calls_tell_nothing place [] = tt
zero_calls_tell_nothing place (r ∷ rs) = (λ answer o. refl, zero_calls_tell_nothing place rs)

zero_storage_tells_nothing : (number : ℕ) (is_written : Bool) → TellNothing (zero_storage number is_written)
zero_storage_tells_nothing number true = tt
zero_storage_tells_nothing number false = (λ answer o. refl, tt)

zeroings_tell_nothing : (t : TextureObjects) (f : Covers) (m : Marks) (xs : List AnyImage) → TellNothing (zeroings t f m xs)
zeroings_tell_nothing t f m [] = tt
zeroings_tell_nothing t f m (any.Level place ∷ xs) =
    tell_nothing-append (zero_calls place (unwritten t f place)) (zeroings t (filled t f place) m xs) (zero_calls_tell_nothing place (unwritten t f place)) (zeroings_tell_nothing t (filled t f place) m xs)
zeroings_tell_nothing t f m (any.Renderbuffer number ∷ xs) =
    tell_nothing-append (zero_storage number (m number)) (zeroings t f (with_mark m number true) xs) (zero_storage_tells_nothing number (m number)) (zeroings_tell_nothing t f (with_mark m number true) xs)

-- zeroings ask nothing
pub zeroings_told : (t : TextureObjects) (f : Covers) (m : Marks) (xs : List AnyImage) (es : List DriverEntry) → calls_in es ≡ zeroings t f m xs → (o : Oracle) → told es o ≡ o
zeroings_told t f m xs es all = nothing_told es (subst TellNothing (sym all) (zeroings_tell_nothing t f m xs))
