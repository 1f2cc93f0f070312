-- Journals one after another.
use Rattle.std.proofs.Common.{◌≡◌, ℕ, ◌+◌, List, [], ◌∷◌, ◌++◌, refl, ap, arith}
use Prim.Native.Nat.{zero, suc}
use Rattle.gl_plain.specs.declared.driver_calls.DriverEntry.{DriverEntry}
use Rattle.gl_plain.specs.State.{DriverState}
use Rattle.gl_plain.specs.Oracle.{Oracle, led_by, behind, counted_from}
use Rattle.gl_plain.specs.driver.Answers.{told, told_call}
use Rattle.gl_plain.specs.declared.driver_calls.DriverCall.{DriverCall}
use Rattle.gl_plain.specs.Parts.{calls_in}
use Rattle.gl_plain.specs.Journal.{IsLegal, state_after, entry_after}

pub state_after-append : (d : DriverState) (es fs : List DriverEntry) → state_after d (es ++ fs) ≡ state_after (state_after d es) fs
state_after-append d [] fs = refl
state_after-append d (e ∷ es) fs = state_after-append (entry_after d e) es fs

pub IsLegal-append : (d : DriverState) (es fs : List DriverEntry) → IsLegal d es → IsLegal (state_after d es) fs → IsLegal d (es ++ fs)
IsLegal-append d [] fs a b = b
IsLegal-append d (e ∷ es) fs a b = (a.0, IsLegal-append (entry_after d e) es fs a.1 b)

pub told-append : (es fs : List DriverEntry) (o : Oracle) → told (es ++ fs) o ≡ told es (told fs o)
told-append [] fs o = refl
told-append (e ∷ es) fs o = ap (told_call e.call e.answer) (told-append es fs o)

pub calls_in-append : (es fs : List DriverEntry) → calls_in (es ++ fs) ≡ calls_in es ++ calls_in fs
calls_in-append [] fs = refl
calls_in-append (e ∷ es) fs = ap (λ (calls : List DriverCall). e.call ∷ calls) (calls_in-append es fs)

-- a list is its first answer before those behind it
pub led_by-behind : {X : Type 0} (answers : ℕ → X) (k : ℕ) → led_by (answers 0) (behind answers) k ≡ answers k
led_by-behind answers zero = refl
led_by-behind answers (suc k) = refl

pub led_by-counted_from : (n k : ℕ) → led_by n (counted_from (n + 1)) k ≡ counted_from n k
led_by-counted_from n zero = omega arith
led_by-counted_from n (suc k) = omega arith
