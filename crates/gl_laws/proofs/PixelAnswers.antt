-- What entries tell of the pixels that an oracle gives: those of each read are cut or filled to the length that it asks for. What they tell of
-- everything else is the oracle.
use Rattle.std.proofs.Common.{◌≡◌, ℕ, List, [], ◌∷◌, ◌++◌, length, take, arith, refl, ◌∙◌, ap, subst}
use Rattle.std.specs.Prelude.{replicate}
use Rattle.std.proofs.Math.Seq.{take-append_seam}
use Rattle.std.proofs.lemmas.List.{length-append, length-replicate, length-take}
use Rattle.gl_plain.specs.declared.driver_calls.Answer.{Answer}
use Rattle.gl_plain.specs.declared.driver_calls.DriverCall.{DriverCall}
use Rattle.gl_plain.specs.declared.driver_calls.DriverCall.TheVariants.{Object, Image, Program, Draw}
use Rattle.gl_plain.specs.declared.driver_calls.DriverEntry.{DriverEntry}
use Rattle.gl_plain.specs.declared.driver_calls.DrawDriver.{DrawDriver}
use Rattle.gl_plain.specs.declared.driver_calls.DrawDriver.TheVariants.{SetRaster}
use Rattle.gl_plain.specs.declared.driver_calls.ImageDriver.{ImageDriver}
use Rattle.gl_plain.specs.declared.driver_calls.ImageDriver.TheVariants.{TexImage, CopyTexImage, RenderbufferStorage, ReadPixels}
use Rattle.gl_plain.specs.declared.driver_calls.ObjectDriver.{ObjectDriver}
use Rattle.gl_plain.specs.declared.driver_calls.ObjectDriver.TheVariants.{GenBuffer, BufferData, GenTexture, GenRenderbuffer, GenFramebuffer}
use Rattle.gl_plain.specs.declared.driver_calls.ProgramDriver.{ProgramDriver}
use Rattle.gl_plain.specs.declared.driver_calls.ProgramDriver.TheVariants.{CreateShader, CreateProgram, CompileShader, LinkProgram, ValidateProgram}
use Rattle.gl_plain.specs.declared.driver_calls.Stored.{Stored}
use Rattle.gl_plain.specs.declared.driver_calls.Stored.TheVariants as room
use Rattle.gl_plain.specs.subjects.Copies.{read_count, fitted}
use Rattle.gl_plain.specs.Words.{natural}
use Rattle.gl_plain.specs.Oracle.{Oracle, first, behind, led_by}
use Rattle.gl_plain.specs.driver.Answers.{told, told_call, told_object, told_image, told_of_program, told_drawing, told_stored, stored_answer, object_answer, image_answer, program_answer, answer_to, behind_object, behind_image, behind_program, behind_drawing, behind_call, behind_entries, AreAnsweredBy}
use Rattle.gl_plain.proofs.Journals.{led_by-behind}

-- bytes that have a length are as they were where they are cut or filled to it
pub fitted_twice : (n : ℕ) (bytes : List ℕ) → fitted n (fitted n bytes) ≡ fitted n bytes
fitted_twice n bytes =
    let long : length (fitted n bytes) ≡ n = omega (arith, length-take n (bytes ++ replicate n 0), length-append bytes (replicate n 0), length-replicate {A = ℕ} n 0) in
    subst (λ (m : ℕ). take m (fitted n bytes ++ replicate n 0) ≡ fitted n bytes) long (take-append_seam (fitted n bytes) (replicate n 0))

-- the answers with other pixels
abbrev pub with_pixels : (ℕ → List ℕ) → Oracle → Oracle
with_pixels p o = record o { pixels = p }

-- Calls that are no read

abbrev pub IsNoRead : DriverCall → Type 0
IsNoRead (Image (ReadPixels x y width height)) = ⊥
IsNoRead call = Unit {0}

abbrev pub HaveNoRead : List DriverEntry → Type 0
HaveNoRead [] = Unit {0}
HaveNoRead (e ∷ es) = IsNoRead e.call × HaveNoRead es

-- What is told of pixels

-- a read tells the next pixels, as it asks for them; any other call tells none
abbrev pub pixels_told : DriverCall → Oracle → (ℕ → List ℕ) → ℕ → List ℕ
pixels_told (Image (ReadPixels x y width height)) o p = led_by (fitted (read_count (natural width) (natural height)) (first o.pixels)) p
pixels_told call o p = p

-- what entries tell, before these
abbrev pub pixels_before : List DriverEntry → Oracle → (ℕ → List ℕ) → ℕ → List ℕ
pixels_before [] o p = p
pixels_before (e ∷ es) o p = pixels_told e.call o (pixels_before es (behind_call e.call o) p)

told_room : (s : Stored) (o : Oracle) → told_stored (stored_answer s) o ≡ record o { stored = led_by s o.stored }
told_room room.Done o = refl
told_room room.Oom o = refl

-- of everything else a call tells what the oracle answered
module _ (p : ℕ → List ℕ) (o : Oracle) where
  after_room : (told : Oracle) → told ≡ record (with_pixels p o) { stored = led_by (first o.stored) (behind o.stored) } → told ≡ with_pixels p o
  after_room told is = is ∙ (λ i. record (with_pixels p o) { stored = λ k. led_by-behind o.stored k i })

  object_tells : (call : ObjectDriver) → told_object call (object_answer o call) (with_pixels p (behind_object call o)) ≡ with_pixels p o
  object_tells GenBuffer = λ i. record (with_pixels p o) { buffers = λ k. led_by-behind o.buffers k i }
  object_tells (BufferData target bytes usage) = after_room _ (told_room (first o.stored) (with_pixels p (behind_object (BufferData target bytes usage) o)))
  object_tells GenTexture = λ i. record (with_pixels p o) { textures = λ k. led_by-behind o.textures k i }
  object_tells GenRenderbuffer = λ i. record (with_pixels p o) { renderbuffers = λ k. led_by-behind o.renderbuffers k i }
  object_tells GenFramebuffer = λ i. record (with_pixels p o) { framebuffers = λ k. led_by-behind o.framebuffers k i }
  object_tells call = refl

  image_tells : (call : ImageDriver) → told_image call (image_answer o call) (with_pixels p (behind_image call o)) ≡ with_pixels (pixels_told (Image call) o p) o
  image_tells (TexImage target level format kind width height payload) = after_room _ (told_room (first o.stored) (with_pixels p (behind_image (TexImage target level format kind width height payload) o)))
  image_tells (CopyTexImage target level format x y width height) = after_room _ (told_room (first o.stored) (with_pixels p (behind_image (CopyTexImage target level format x y width height) o)))
  image_tells (RenderbufferStorage format width height) = after_room _ (told_room (first o.stored) (with_pixels p (behind_image (RenderbufferStorage format width height) o)))
  image_tells call = refl

  program_tells : (call : ProgramDriver) → told_of_program call (program_answer o call) (with_pixels p (behind_program call o)) ≡ with_pixels p o
  program_tells (CreateShader kind) = λ i. record (with_pixels p o) { programs = λ k. led_by-behind o.programs k i }
  program_tells CreateProgram = λ i. record (with_pixels p o) { programs = λ k. led_by-behind o.programs k i }
  program_tells (CompileShader name) = λ i. record (with_pixels p o) { compile = λ k. led_by-behind o.compile k i }
  program_tells (LinkProgram name) = λ i. record (with_pixels p o) { link = λ k. led_by-behind o.link k i }
  program_tells (ValidateProgram name) = λ i. record (with_pixels p o) { validate = λ k. led_by-behind o.validate k i }
  program_tells call = refl

  drawing_tells : (call : DrawDriver) → told_drawing call (with_pixels p (behind_drawing call o)) ≡ with_pixels p o
  drawing_tells (SetRaster number words) = refl
  drawing_tells call = refl

  call_tells : (call : DriverCall) → told_call call (answer_to o call) (with_pixels p (behind_call call o)) ≡ with_pixels (pixels_told call o p) o
  call_tells (Object call) = object_tells call
  call_tells (Image call) = image_tells call
  call_tells (Program call) = program_tells call
  call_tells (Draw call) = drawing_tells call

-- entries that an oracle answered tell the oracle, but for the pixels
pub entries_tell : (es : List DriverEntry) (o : Oracle) → AreAnsweredBy o es → (p : ℕ → List ℕ) → told es (with_pixels p (behind_entries es o)) ≡ with_pixels (pixels_before es o p) o
entries_tell [] o h p = refl
entries_tell (e ∷ es) o h p =
    let later = pixels_before es (behind_call e.call o) p in
    ap (told_call e.call e.answer) (entries_tell es (behind_call e.call o) h.1 p) ∙ ap (λ (a : Answer). told_call e.call a (with_pixels later (behind_call e.call o))) h.0 ∙ call_tells later o e.call

-- where there is no read, also the pixels

none_told : (call : DriverCall) (o : Oracle) (p : ℕ → List ℕ) → IsNoRead call → pixels_told call o p ≡ p
none_told (Image (ReadPixels x y width height)) o p h = absurd h
none_told call o p h = refl

pub none_before : (es : List DriverEntry) (o : Oracle) (p : ℕ → List ℕ) → HaveNoRead es → pixels_before es o p ≡ p
none_before [] o p h = refl
none_before (e ∷ es) o p h = none_told e.call o (pixels_before es (behind_call e.call o) p) h.0 ∙ none_before es (behind_call e.call o) p h.1

object_takes_none : (call : ObjectDriver) (o : Oracle) → (behind_object call o).pixels ≡ o.pixels
object_takes_none GenBuffer o = refl
object_takes_none call o = refl

program_takes_none : (call : ProgramDriver) (o : Oracle) → (behind_program call o).pixels ≡ o.pixels
program_takes_none CreateProgram o = refl
program_takes_none call o = refl

drawing_takes_none : (call : DrawDriver) (o : Oracle) → (behind_drawing call o).pixels ≡ o.pixels
drawing_takes_none (SetRaster number words) o = refl
drawing_takes_none call o = refl

none_taken : (call : DriverCall) (o : Oracle) → IsNoRead call → (behind_call call o).pixels ≡ o.pixels
none_taken (Image (ReadPixels x y width height)) o h = absurd h
none_taken (Image call) o h = refl
none_taken (Object call) o h = object_takes_none call o
none_taken (Program call) o h = program_takes_none call o
none_taken (Draw call) o h = drawing_takes_none call o

pub none_behind : (es : List DriverEntry) (o : Oracle) → HaveNoRead es → (behind_entries es o).pixels ≡ o.pixels
none_behind [] o h = refl
none_behind (e ∷ es) o h = none_behind es (behind_call e.call o) h.1 ∙ none_taken e.call o h.0

module _ (es : List DriverEntry) (o : Oracle) (answered : AreAnsweredBy o es) (none : HaveNoRead es) where
  -- whatever the pixels behind them are
  pub tell_all_but_pixels : (p : ℕ → List ℕ) → told es (with_pixels p (behind_entries es o)) ≡ with_pixels p o
  tell_all_but_pixels p = entries_tell es o answered p ∙ ap (λ (q : ℕ → List ℕ). with_pixels q o) (none_before es o p none)

  -- before the answers that are left they tell the oracle
  pub tell_all : told es (behind_entries es o) ≡ o
  tell_all = tell_all_but_pixels (behind_entries es o).pixels ∙ ap (λ (q : ℕ → List ℕ). with_pixels q o) (none_behind es o none)
