-- A command of which no call was made.
use Rattle.std.proofs.Common.{false, List, [], ◌∷◌, refl}
use Rattle.gl_plain.specs.declared.commands.Fetched.{Fetched}
use Rattle.gl_plain.specs.State.{WireState}
use Rattle.gl_plain.specs.Oracle.{default_answers}
use Rattle.gl_plain.specs.Meaning.{meaning_of}
use Rattle.gl_plain.specs.Parts.{IsNextFront}

-- no entry is a front of any part
pub no_front : (w : WireState) (fs : List Fetched) → IsNextFront false w fs []
no_front w [] = refl
no_front w (f ∷ fs) = ((default_answers, (meaning_of w f).calls default_answers, refl), λ bad. refl)
