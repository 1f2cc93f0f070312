-- The answers behind one journal and another.
use Rattle.std.proofs.Common.{◌≡◌, List, [], ◌∷◌, ◌++◌, refl}
use Rattle.gl_plain.specs.declared.driver_calls.DriverEntry.{DriverEntry}
use Rattle.gl_plain.specs.Oracle.{Oracle}
use Rattle.gl_plain.specs.driver.Answers.{AreAnsweredBy, behind_call, behind_entries}

pub behind_entries-append : (es fs : List DriverEntry) (o : Oracle) → behind_entries (es ++ fs) o ≡ behind_entries fs (behind_entries es o)
behind_entries-append [] fs o = refl
behind_entries-append (e ∷ es) fs o = behind_entries-append es fs (behind_call e.call o)

pub AreAnsweredBy-append : (o : Oracle) (es fs : List DriverEntry) → AreAnsweredBy o es → AreAnsweredBy (behind_entries es o) fs → AreAnsweredBy o (es ++ fs)
AreAnsweredBy-append o [] fs a b = b
AreAnsweredBy-append o (e ∷ es) fs a b = (a.0, AreAnsweredBy-append (behind_call e.call o) es fs a.1 b)
