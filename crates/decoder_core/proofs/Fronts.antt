-- Fronts of what a command enters: nothing, and all of it.
use Rattle.std.proofs.Common.{false, List, [], ◌∷◌, append-nil, refl, ◌∙◌}
use Rattle.gl_plain.specs.declared.calls.Reply.{Reply}
use Rattle.gl_plain.specs.declared.commands.Fetched.{Fetched}
use Rattle.gl_plain.specs.declared.driver_calls.DriverEntry.{DriverEntry}
use Rattle.gl_plain.specs.State.{WireState}
use Rattle.gl_plain.specs.Oracle.{default_answers}
use Rattle.gl_plain.specs.Meaning.{Meaning, meaning_of}
use Rattle.gl_plain.specs.Parts.{calls_in, IsFairFrontOf, IsNextFront}
use Rattle.gl_driver.specs.History.{History}
use Rattle.gl_driver.specs.Performed as performed

-- no entry is a front of any command
pub empty_front : (m : Meaning WireState) → IsFairFrontOf m.bad m.calls []
empty_front m = ((default_answers, m.calls default_answers, refl), λ bad. refl)

pub no_front : (w : WireState) (fs : List Fetched) → IsNextFront false w fs []
no_front w [] = refl
no_front w (f ∷ fs) = empty_front (meaning_of w f)

-- the whole part of a command is a front of itself
pub front_of_part : (m : Meaning WireState) (h h2 : History) (entries : List DriverEntry) (w2 : WireState) (reply : Reply) → performed.Did m h h2 entries w2 reply → IsFairFrontOf m.bad m.calls entries
front_of_part m h h2 entries w2 reply did = ((default_answers, [], append-nil (calls_in entries) ∙ did.part default_answers), λ bad. let fair = did.fair in cc)
