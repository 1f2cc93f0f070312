-- What the family call shows once, for all commands on images.
use Rattle.std.proofs.Common.{◌≡◌, ◌∙◌, ℕ, false, List, Option, None, Some, Result, sym, ap, subst}
use Rattle.gl_plain.specs.declared.calls.Reply.{Reply}
use Rattle.gl_plain.specs.declared.commands.Command.{Command}
use Rattle.gl_plain.specs.declared.commands.Command.TheVariants.{Image}
use Rattle.gl_plain.specs.declared.commands.ImageCommand.{ImageCommand}
use Rattle.gl_plain.specs.declared.stop.ExecStop.{ExecStop}
use Rattle.gl_plain.specs.State.{WireState, DriverState}
use Rattle.gl_plain.specs.driver.Answers.{told}
use Rattle.gl_plain.specs.image.Arguments.{image_is_bad, IsImageData}
use Rattle.gl_plain.specs.image.Refusal.{image_command_refusal}
use Rattle.gl_plain.specs.Agreement.{AgreesIn}
use Rattle.gl_laws.proofs.Commands.{may_go_on, keeps}
use Rattle.gl_driver.specs.History.{History}
use Rattle.gl_driver.specs.Performed.{Acts, IsLawful}
use Rattle.gl_driver.proofs.Exits.{means, lawful}
use Rattle.decode_images.specs.States.{IsReady}

-- what keeps to the laws does so however the command is called
pub lawful_of : (c : ImageCommand) (x : Command) (spelled : Option Command) → spelled ≡ Some (Image c) → spelled ≡ Some x → {D : Type 0} {history : D → History} {grown : D → D → Type 0} (payload : List ℕ) {before after : WireState → WireState} {d d2 : D} (result : Result Reply ExecStop)
    → IsLawful history grown (Image c) payload before after d d2 result → IsLawful history grown x payload before after d d2 result
lawful_of c x spelled is e {history = history} {grown} payload {before} {after} {d} {d2} result keeping =
    let same : Image c ≡ x = cc in subst (λ (y : Command). IsLawful history grown y payload before after d d2 result) same keeping

-- the data is that of the command, however it is called
pub given_is : (c c1 : ImageCommand) (payload : List ℕ) (spelled : Option Command) → spelled ≡ Some (Image c1) → spelled ≡ Some (Image c) → IsImageData c1 payload → IsImageData c payload
given_is c c1 payload spelled e f given = subst (λ (x : ImageCommand). IsImageData x payload) (cc) given

module _ (c : ImageCommand) (payload : List ℕ) {before : WireState → WireState} where
  -- what was tested, and the law that its driver calls may be made
  pub ready : (d : DriverState) (agrees : AgreesIn before d) → image_is_bad (before agrees.others).es c ≡ false → image_command_refusal (before agrees.others).es c ≡ None → IsImageData c payload → IsReady c payload before d
  ready d agrees fair taken given =
      let w : WireState = before agrees.others in
      record {
        others = agrees.others;
        fair = fair;
        taken = taken;
        given = given;
        sound = agrees.agrees.tables.textures.sound;
        storage = agrees.agrees.tables.renderbuffers.sound;
        may = may_go_on w d agrees.agrees (Image c) payload fair given;
      }

  -- the command keeps to the laws
  pub keeps_to_laws : {after : WireState → WireState} {D : Type 0} {history : D → History} {grown : D → D → Type 0} {d d2 : D} (result : Result Reply ExecStop)
      → Acts history grown (means (Image c) payload) before after d d2 result → IsLawful history grown (Image c) payload before after d d2 result
  keeps_to_laws result acts = lawful (Image c) payload (λ w e a. keeps w e a (Image c) payload) result acts
