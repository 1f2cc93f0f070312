-- Journals by their calls.
use Rattle.std.proofs.Common.{◌≡◌, List, [], ◌∷◌, ◌++◌, refl, sym, ◌∙◌, ap, subst}
use Rattle.gl_plain.specs.declared.driver_calls.Answer.{Answer}
use Rattle.gl_plain.specs.declared.driver_calls.DriverCall.{DriverCall}
use Rattle.gl_plain.specs.declared.driver_calls.DriverEntry.{DriverEntry}
use Rattle.gl_plain.specs.State.{DriverState}
use Rattle.gl_plain.specs.Parts.{calls_in}
use Rattle.gl_plain.specs.Records.{Record, call_records}
use Rattle.gl_plain.specs.Journal.{IsLegal, state_after, entry_after, records_in}

-- a call with its answer
abbrev pub entry : DriverCall → Answer → DriverEntry
entry call answer = record { call = call; answer = answer }

pub head_is : (x y : DriverCall) (xs ys : List DriverCall) → x ∷ xs ≡ y ∷ ys → x ≡ y
head_is x y xs ys e = cc

pub tail_is : (x y : DriverCall) (xs ys : List DriverCall) → x ∷ xs ≡ y ∷ ys → xs ≡ ys
tail_is x y xs ys e = cc

pub not_nil : (xs : List DriverCall) (next : DriverCall) (more : List DriverCall) → xs ++ next ∷ more ≡ [] → ⊥
not_nil [] next more e = absurd (cc)
not_nil (x ∷ xs) next more e = absurd (cc)

pub no_entry : (P : List DriverEntry → Type 0) → P [] → (es : List DriverEntry) → calls_in es ≡ [] → P es
no_entry P p [] e = p
no_entry P p (x ∷ es) e = absurd (cc)

-- the entries of one call
pub one_entry : (P : List DriverEntry → Type 0) (x : DriverCall) → ((answer : Answer) → P (entry x answer ∷ [])) → (es : List DriverEntry) → calls_in es ≡ x ∷ [] → P es
one_entry P x f [] h = absurd (cc)
one_entry P x f (e ∷ []) h = subst (λ (c : DriverCall). P (entry c e.answer ∷ [])) (sym (head_is e.call x [] [] h)) (f e.answer)
one_entry P x f (e ∷ g ∷ es) h = absurd (cc)

-- the entries of two calls
pub two_entries : (P : List DriverEntry → Type 0) (x y : DriverCall) → ((a b : Answer) → P (entry x a ∷ entry y b ∷ [])) → (es : List DriverEntry) → calls_in es ≡ x ∷ y ∷ [] → P es
two_entries P x y f [] h = absurd (cc)
two_entries P x y f (e ∷ es) h =
    subst (λ (c : DriverCall). P (entry c e.answer ∷ es)) (sym (head_is e.call x (calls_in es) (y ∷ []) h))
    (one_entry (λ gs. P (entry x e.answer ∷ gs)) y (f e.answer) es (tail_is e.call x (calls_in es) (y ∷ []) h))

-- the only front of one call with that call next
pub front_of_one : (P : List DriverEntry → DriverCall → Type 0) (x : DriverCall) → P [] x → (es : List DriverEntry) (next : DriverCall) (more : List DriverCall) → calls_in es ++ next ∷ more ≡ x ∷ [] → P es next
front_of_one P x p [] next more h = subst (P []) (sym (head_is next x more [] h)) p
front_of_one P x p (e ∷ es) next more h = absurd (not_nil (calls_in es) next more (tail_is e.call x (calls_in es ++ next ∷ more) [] h))

-- the first entry of a front, by its call
pub first_entry : (P : List DriverEntry → Type 0) (x : DriverCall) (e : DriverEntry) (es : List DriverEntry) → e.call ≡ x → P (entry x e.answer ∷ es) → P (e ∷ es)
first_entry P x e es is p = subst (λ (c : DriverCall). P (entry c e.answer ∷ es)) (sym is) p

pub legal_split : (d : DriverState) (es fs : List DriverEntry) → IsLegal d (es ++ fs) → IsLegal d es × IsLegal (state_after d es) fs
legal_split d [] fs l = (tt, l)
legal_split d (e ∷ es) fs l = let p = legal_split (entry_after d e) es fs l.1 in ((l.0, p.0), p.1)

pub append_records : (a b c : List Record) → a ++ (b ++ c) ≡ (a ++ b) ++ c
append_records [] b c = refl
append_records (x ∷ a) b c = ap (λ (r : List Record). x ∷ r) (append_records a b c)

pub records-append : (d : DriverState) (es fs : List DriverEntry) → records_in d (es ++ fs) ≡ records_in d es ++ records_in (state_after d es) fs
records-append d [] fs = refl
records-append d (e ∷ es) fs =
    ap (λ (r : List Record). call_records d e.call e.answer ++ r) (records-append (entry_after d e) es fs)
    ∙ append_records (call_records d e.call e.answer) (records_in (entry_after d e) es) (records_in (state_after (entry_after d e) es) fs)
