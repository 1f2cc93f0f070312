-- Journals whose answers are those of an oracle.
use Rattle.std.proofs.Common.{◌≡◌, ℕ, List, [], ◌∷◌, ◌++◌, refl, ◌∙◌, ap}
use Rattle.gl_plain.specs.declared.driver_calls.DriverCall.{DriverCall}
use Rattle.gl_plain.specs.declared.driver_calls.DriverCall.TheVariants.{Object, Image, Program, Draw}
use Rattle.gl_plain.specs.declared.driver_calls.DrawDriver.{DrawDriver}
use Rattle.gl_plain.specs.declared.driver_calls.DrawDriver.TheVariants.{SetRaster}
use Rattle.gl_plain.specs.declared.driver_calls.DriverEntry.{DriverEntry}
use Rattle.gl_plain.specs.declared.driver_calls.ObjectDriver.{ObjectDriver}
use Rattle.gl_plain.specs.declared.driver_calls.ObjectDriver.TheVariants.{GenBuffer, BufferData, GenTexture, GenRenderbuffer, GenFramebuffer}
use Rattle.gl_plain.specs.declared.driver_calls.ImageDriver.{ImageDriver}
use Rattle.gl_plain.specs.declared.driver_calls.ImageDriver.TheVariants.{TexImage, CopyTexImage, RenderbufferStorage}
use Rattle.gl_plain.specs.declared.driver_calls.ProgramDriver.{ProgramDriver}
use Rattle.gl_plain.specs.declared.driver_calls.ProgramDriver.TheVariants.{CreateShader, CreateProgram, CompileShader, LinkProgram, ValidateProgram}
use Rattle.gl_plain.specs.declared.driver_calls.Stored.{Stored}
use Rattle.gl_plain.specs.declared.driver_calls.Stored.TheVariants as room
use Rattle.gl_plain.specs.Oracle.{Oracle, first, behind, led_by}
use Rattle.gl_plain.specs.driver.Answers.{told, told_call, told_object, told_image, told_of_program, told_drawing, told_stored, stored_answer, object_answer, image_answer, program_answer, answer_to, behind_object, behind_image, behind_program, behind_drawing, behind_call, behind_entries, AreAnsweredBy}
use Rattle.gl_plain.proofs.Journals.{led_by-behind}
use Rattle.strict_driver.specs.Reads.{reads_of, reads_of_image, reads_in, with_reads}

told_room : (s : Stored) (o : Oracle) → told_stored (stored_answer s) o ≡ record o { stored = led_by s o.stored }
told_room room.Done o = refl
told_room room.Oom o = refl

-- what an oracle answers tells the oracle, before those answers that are left; of pixels as they were read
module _ (ns : List ℕ) (o : Oracle) where
  after_room : (stored_answer_told : Oracle) → stored_answer_told ≡ record (with_reads ns o) { stored = led_by (first o.stored) (behind o.stored) } → stored_answer_told ≡ with_reads ns o
  after_room told is = is ∙ (λ i. record (with_reads ns o) { stored = λ k. led_by-behind o.stored k i })

  told_behind_object : (call : ObjectDriver) → told_object call (object_answer o call) (with_reads ns (behind_object call o)) ≡ with_reads ns o
  told_behind_object GenBuffer = λ i. record (with_reads ns o) { buffers = λ k. led_by-behind o.buffers k i }
  told_behind_object (BufferData target bytes usage) = after_room _ (told_room (first o.stored) (with_reads ns (behind_object (BufferData target bytes usage) o)))
  told_behind_object GenTexture = λ i. record (with_reads ns o) { textures = λ k. led_by-behind o.textures k i }
  told_behind_object GenRenderbuffer = λ i. record (with_reads ns o) { renderbuffers = λ k. led_by-behind o.renderbuffers k i }
  told_behind_object GenFramebuffer = λ i. record (with_reads ns o) { framebuffers = λ k. led_by-behind o.framebuffers k i }
  told_behind_object call = refl

  told_behind_image : (call : ImageDriver) → told_image call (image_answer o call) (with_reads ns (behind_image call o)) ≡ with_reads (reads_of_image call ++ ns) o
  told_behind_image (TexImage target level format kind width height payload) =
      after_room _ (told_room (first o.stored) (with_reads ns (behind_image (TexImage target level format kind width height payload) o)))
  told_behind_image (CopyTexImage target level format x y width height) =
      after_room _ (told_room (first o.stored) (with_reads ns (behind_image (CopyTexImage target level format x y width height) o)))
  told_behind_image (RenderbufferStorage format width height) = after_room _ (told_room (first o.stored) (with_reads ns (behind_image (RenderbufferStorage format width height) o)))
  told_behind_image call = refl

  told_behind_program : (call : ProgramDriver) → told_of_program call (program_answer o call) (with_reads ns (behind_program call o)) ≡ with_reads ns o
  told_behind_program (CreateShader kind) = λ i. record (with_reads ns o) { programs = λ k. led_by-behind o.programs k i }
  told_behind_program CreateProgram = λ i. record (with_reads ns o) { programs = λ k. led_by-behind o.programs k i }
  told_behind_program (CompileShader name) = λ i. record (with_reads ns o) { compile = λ k. led_by-behind o.compile k i }
  told_behind_program (LinkProgram name) = λ i. record (with_reads ns o) { link = λ k. led_by-behind o.link k i }
  told_behind_program (ValidateProgram name) = λ i. record (with_reads ns o) { validate = λ k. led_by-behind o.validate k i }
  told_behind_program call = refl

  told_behind_drawing : (call : DrawDriver) → told_drawing call (with_reads ns (behind_drawing call o)) ≡ with_reads ns o
  told_behind_drawing (SetRaster number words) = refl
  told_behind_drawing call = refl

  told_behind_call : (call : DriverCall) → told_call call (answer_to o call) (with_reads ns (behind_call call o)) ≡ with_reads (reads_of call ++ ns) o
  told_behind_call (Object call) = told_behind_object call
  told_behind_call (Image call) = told_behind_image call
  told_behind_call (Program call) = told_behind_program call
  told_behind_call (Draw call) = told_behind_drawing call

-- a call on the fixed state, or one that clears or draws, asks nothing
pub drawing_asks_nothing : (call : DrawDriver) (o : Oracle) → behind_drawing call o ≡ o
drawing_asks_nothing (SetRaster number words) o = refl
drawing_asks_nothing call o = refl

pub told_behind : (o : Oracle) (es : List DriverEntry) → AreAnsweredBy o es → told es (behind_entries es o) ≡ with_reads (reads_in es) o
told_behind o [] h = refl
told_behind o (e ∷ es) h =
    ap (told_call e.call e.answer) (told_behind (behind_call e.call o) es h.1) ∙ ap (λ a. told_call e.call a (with_reads (reads_in es) (behind_call e.call o))) h.0 ∙ told_behind_call (reads_in es) o e.call
