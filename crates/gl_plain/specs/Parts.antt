-- The parts of a journal: the driver calls that each command makes.
use Prim.Native.Nat.{zero, suc}
use Rattle.std.specs.Prelude.{◌≡◌, ℕ, Bool, true, false, List, [], ◌∷◌, ◌++◌, MatchBool}
use Rattle.gl_plain.specs.declared.commands.Fetched.{Fetched}
use Rattle.gl_plain.specs.declared.driver_calls.DriverCall.{DriverCall}
use Rattle.gl_plain.specs.declared.driver_calls.DriverEntry.{DriverEntry}
use Rattle.gl_plain.specs.Oracle.{Oracle}
use Rattle.gl_plain.specs.driver.Answers.{told}
use Rattle.gl_plain.specs.State.{WireState}
use Rattle.gl_plain.specs.Meaning.{Meaning, meaning_of}

-- the calls of a journal, without their answers
abbrev pub calls_in : List DriverEntry → List DriverCall
calls_in [] = []
calls_in (e ∷ es) = e.call ∷ calls_in es

-- the entries are all that a command enters, whose driver calls by its answers are these
abbrev pub IsPartOf : (Oracle → List DriverCall) → Oracle → List DriverEntry → Type 0
IsPartOf calls o entries = calls_in entries ≡ calls o

-- the entries are the first of those that a command enters, with some answers behind theirs; perhaps all
abbrev pub IsFrontOf : (Oracle → List DriverCall) → List DriverEntry → Type 0
IsFrontOf calls entries = (o : Oracle) × (more : List DriverCall) × (calls_in entries ++ more ≡ calls (told entries o))

-- the same, but a command that is malformed enters nothing
abbrev pub IsFairFrontOf : (bad : Bool) → (Oracle → List DriverCall) → List DriverEntry → Type 0
IsFairFrontOf bad calls entries = IsFrontOf calls entries × (bad ≡ true → entries ≡ [])

-- the entries are the first of those that a command enters, with at least one call left
abbrev pub IsProperFrontOf : (Oracle → List DriverCall) → List DriverEntry → Type 0
IsProperFrontOf calls entries = (o : Oracle) × (next : DriverCall) × (more : List DriverCall) × (calls_in entries ++ next ∷ more ≡ calls (told entries o))

-- the entries are a front of what the command enters, where it is not malformed; where the driver was lost, with a call left
abbrev pub IsFrontOfMeaning : (lost : Bool) → {S : Type 0} → Meaning S → List DriverEntry → Type 0
IsFrontOfMeaning false m entries = IsFairFrontOf m.bad m.calls entries
IsFrontOfMeaning true m entries = (m.bad ≡ false) × IsProperFrontOf m.calls entries

-- the same of the next command, if there is one
abbrev pub IsNextFront : (lost : Bool) → WireState → List Fetched → List DriverEntry → Type 0
IsNextFront false w [] entries = entries ≡ []
IsNextFront true w [] entries = ⊥
IsNextFront lost w (f ∷ fs) entries = IsFrontOfMeaning lost (meaning_of w f) entries

-- the entries are one part for each command, in order, up to the first whose arguments are malformed
abbrev pub AreParts : WireState → List Fetched → Oracle → List DriverEntry → Type 0
AreParts w [] o entries = entries ≡ []
AreParts w (f ∷ fs) o entries = MatchBool (meaning_of w f).bad (entries ≡ [])
    ((part rest : List DriverEntry) × (entries ≡ part ++ rest) × IsPartOf (meaning_of w f).calls o part
    × AreParts ((meaning_of w f).step o).state fs ((meaning_of w f).step o).oracle rest)

-- the entries are one part for each of the first n commands, in order, and a front of the part of the next one
abbrev pub AreCutParts : (lost : Bool) → WireState → List Fetched → ℕ → Oracle → List DriverEntry → Type 0
AreCutParts lost w fs zero o entries = IsNextFront lost w fs entries
AreCutParts lost w [] (suc n) o entries = ⊥
AreCutParts lost w (f ∷ fs) (suc n) o entries = ((meaning_of w f).bad ≡ false)
    × ((part rest : List DriverEntry) × (entries ≡ part ++ rest) × IsPartOf (meaning_of w f).calls o part
    × AreCutParts lost ((meaning_of w f).step o).state fs n ((meaning_of w f).step o).oracle rest)
